use Rattle.desk_steps.specs.Folder.{FolderStepsOn}
use Rattle.desk_send.specs.Searching.{OnlyTaken}
use Rattle.desk_send.proofs.FindLaws.{IsBelow}
use Rattle.desk_send.proofs.searching.only_slot.Given as goal

abbrev pub invariant-places : goal.invariant-places
invariant-places g l = record {
  below : IsBelow l.number l.only;
  only : OnlyTaken g.F.File.Disk.disk l.only (g.F.Folder.calls l.fn.folder) l.number
      (g.F.Folder.calls l.folder);
  steps : FolderStepsOn g.F.File.Disk.disk g.F.File.Counted.seen (g.F.Folder.calls l.fn.folder)
      (g.F.Folder.calls l.folder);
}
