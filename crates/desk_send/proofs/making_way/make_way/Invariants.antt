use Rattle.std.proofs.Common.{◌≡◌}
use Rattle.desk_around.specs.Scenes.{scene}
use Rattle.desk_steps.specs.Folder.{FolderStepsOn}
use Rattle.desk_steps.specs.Net.{SendsOn}
use Rattle.desk_send.specs.MakingWay.{MakesWayAt}
use Rattle.desk_send.specs.Places.{EachPlace, slot_at}
use Rattle.desk_send.proofs.making_way.make_way.Given as goal

abbrev pub invariant-places : goal.invariant-places
invariant-places g l = record {
  input : l.around.input ≡ l.fn.around.input;
  sink : (g.K.Counted.seen l.around.out).faults ≡ (g.K.Counted.seen l.fn.around.out).faults;
  net : (g.N.Counted.seen l.around.net).faults ≡ (g.N.Counted.seen l.fn.around.net).faults;
  sends : SendsOn g.F.File.Disk.disk g.F.File.Counted.seen (g.N.Counted.seen l.fn.around.net).calls
      (g.N.Counted.seen l.around.net).calls;
  made : EachPlace (λ n. MakesWayAt g.F.File.Disk.disk g.F.File.Counted.seen l.card (slot_at n))
      (scene g.K.Counted.seen g.N.Counted.seen g.F.Folder.calls l.fn.around) l.number
      (scene g.K.Counted.seen g.N.Counted.seen g.F.Folder.calls l.around);
  steps : FolderStepsOn g.F.File.Disk.disk g.F.File.Counted.seen (g.F.Folder.calls l.fn.around.folder)
      (g.F.Folder.calls l.around.folder);
}
