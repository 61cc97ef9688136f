use Rattle.desk_steps.specs.Folder.{FolderStepsOn}
use Rattle.desk_send.specs.Clearing.{Clears}
use Rattle.desk_send.proofs.clearing.clear_all.Given as goal

abbrev pub invariant-places : goal.invariant-places
invariant-places g l = record {
  places : Clears (g.F.Folder.calls l.fn.folder) l.number (g.F.Folder.calls l.folder);
  steps : FolderStepsOn g.F.File.Disk.disk g.F.File.Counted.seen (g.F.Folder.calls l.fn.folder)
      (g.F.Folder.calls l.folder);
}
