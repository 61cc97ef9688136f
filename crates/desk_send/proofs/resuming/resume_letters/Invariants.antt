use Rattle.std.proofs.Common.{IfErr}
use Rattle.desk_around.specs.Ends.{IsUndone, Unfailed}
use Rattle.desk_around.specs.Scenes.{scene}
use Rattle.desk_steps.specs.Folder.{FolderStepsOn}
use Rattle.desk_steps.specs.Net.{SendsOn}
use Rattle.desk_send.specs.Resuming.{ResumeTo}
use Rattle.desk_send.proofs.resuming.resume_letters.Given as goal

abbrev pub invariant-places : goal.invariant-places
invariant-places g l = record {
  undone : IfErr l.all IsUndone;
  sink : Unfailed (g.K.Counted.seen l.fn.around.out).faults (g.K.Counted.seen l.around.out).faults l.all;
  net : Unfailed (g.N.Counted.seen l.fn.around.net).faults (g.N.Counted.seen l.around.net).faults l.all;
  sends : SendsOn g.F.File.Disk.disk g.F.File.Counted.seen (g.N.Counted.seen l.fn.around.net).calls
      (g.N.Counted.seen l.around.net).calls;
  resumed : ResumeTo g.F.File.Disk.disk g.F.File.Counted.seen
      (scene g.K.Counted.seen g.N.Counted.seen g.F.Folder.calls l.fn.around) l.number
      (scene g.K.Counted.seen g.N.Counted.seen g.F.Folder.calls l.around) l.all;
  steps : FolderStepsOn g.F.File.Disk.disk g.F.File.Counted.seen (g.F.Folder.calls l.fn.around.folder)
      (g.F.Folder.calls l.around.folder);
}
