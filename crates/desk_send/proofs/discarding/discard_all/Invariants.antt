use Rattle.std.proofs.Common.{◌≡◌, true}
use Rattle.desk_steps.specs.Folder.{FolderStepsOn}
use Rattle.desk_send.specs.Waiting.{GiveUpTo, view_of}
use Rattle.desk_send.proofs.discarding.discard_all.Given as goal

abbrev pub invariant-places : goal.invariant-places
invariant-places g l = record {
  faults : (g.K.Counted.seen l.out).faults ≡ (g.K.Counted.seen l.fn.out).faults;
  given_up : GiveUpTo g.F.File.Disk.disk true
      (view_of (g.F.Folder.calls l.fn.folder) (g.K.Counted.seen l.fn.out).written) l.number
      (view_of (g.F.Folder.calls l.folder) (g.K.Counted.seen l.out).written);
  steps : FolderStepsOn g.F.File.Disk.disk g.F.File.Counted.seen (g.F.Folder.calls l.fn.folder)
      (g.F.Folder.calls l.folder);
}
