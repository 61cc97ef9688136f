use Rattle.desk_steps.specs.Folder.{FolderStepsOn}
use Rattle.desk_send.specs.Searching.{HaveOthers}
use Rattle.desk_send.proofs.searching.search.Given as goal

abbrev pub invariant-places : goal.invariant-places
invariant-places g l = record {
  places : HaveOthers g.F.File.Disk.disk l.card l.text (g.F.Folder.calls l.fn.folder) l.number
      (g.F.Folder.calls l.folder);
  steps : FolderStepsOn g.F.File.Disk.disk g.F.File.Counted.seen (g.F.Folder.calls l.fn.folder)
      (g.F.Folder.calls l.folder);
}
