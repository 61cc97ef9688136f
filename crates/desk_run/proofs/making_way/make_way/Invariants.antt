use Rattle.std.proofs.Common.{◌≡◌}
use Rattle.desk_run.specs.Finds.{EachPlace, slot_at}
use Rattle.desk_run.specs.Leaving.{MakesWayAt}
use Rattle.desk_run.specs.Scenes.{scene}
use Rattle.desk_run.specs.Sends.{SendsOn}
use Rattle.desk_run.specs.FolderSteps.{FolderStepsOn}
use Rattle.desk_run.proofs.making_way.make_way.Given as goal

abbrev pub invariant-places : goal.invariant-places
invariant-places g l = record {
  sink : (g.K.Counted.seen l.around.out).faults ≡ (g.K.Counted.seen l.fn.around.out).faults;
  net : (g.N.Counted.seen l.around.net).faults ≡ (g.N.Counted.seen l.fn.around.net).faults;
  sends : SendsOn g.F.File.Disk.disk g.F.File.Counted.seen (g.N.Counted.seen l.fn.around.net).calls
      (g.N.Counted.seen l.around.net).calls;
  made : EachPlace (λ n. MakesWayAt g.F.File.Disk.disk g.F.File.Counted.seen l.card (slot_at n))
      (scene g.K.Counted.seen g.N.Counted.seen g.F.Folder.calls l.fn.around) l.number
      (scene g.K.Counted.seen g.N.Counted.seen g.F.Folder.calls l.around);
  steps : FolderStepsOn g.F.File.Disk.disk g.F.File.Counted.seen (g.F.Folder.calls l.fn.around.folder)
      (g.F.Folder.calls l.around.folder);
}
