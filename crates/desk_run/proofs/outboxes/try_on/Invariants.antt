use Rattle.std.proofs.Common.{◌≡◌}
use Rattle.desk_run.specs.Sends.{SendsOn}
use Rattle.desk_run.specs.Tries.{Tries, journey}
use Rattle.desk_run.specs.FolderSteps.{FolderStepsOn}
use Rattle.desk_run.proofs.outboxes.try_on.Given as goal

abbrev pub invariant-tries : goal.invariant-tries
invariant-tries g l = record {
  faults : (g.N.Counted.seen l.net).faults ≡ (g.N.Counted.seen l.fn.net).faults;
  sends : SendsOn g.F.File.Disk.disk g.F.File.Counted.seen (g.N.Counted.seen l.fn.net).calls (g.N.Counted.seen l.net).calls;
  tries : Tries g.F.File.Disk.disk g.F.File.Counted.seen l.slot l.fn.outbox
      (journey g.N.Counted.seen g.F.Folder.calls l.fn.net l.fn.folder) l.outbox
      (journey g.N.Counted.seen g.F.Folder.calls l.net l.folder);
  steps : FolderStepsOn g.F.File.Disk.disk g.F.File.Counted.seen (g.F.Folder.calls l.fn.folder)
      (g.F.Folder.calls l.folder);
}
