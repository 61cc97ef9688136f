use Rattle.std.proofs.Common.{arith, refl}
use Rattle.desk_run.specs.Finds.{start}
use Rattle.desk_run.proofs.ResumeLaws.{all_resumed, resumes_more, unfailed_joined}
use Rattle.desk_run.proofs.resuming_letters.resume_letters.Goals as goal

pub places-init : goal.places-init
places-init g c = record { undone = tt; sink = refl; net = refl; sends = λ before on. on; resumed = start; steps = λ before on. on }

pub places-preserved : goal.places-preserved
places-preserved g c = record {
  undone = c.joined-all.ensures.undone;
  sink = unfailed_joined c.places.all _ _ _ _ _ c.joined-all.ensures.undone c.joined-all.ensures.joins c.places.invariant.sink
      c.resume_at-next.ensures.sink;
  net = unfailed_joined c.places.all _ _ _ _ _ c.joined-all.ensures.undone c.joined-all.ensures.joins c.places.invariant.net
      c.resume_at-next.ensures.net;
  sends = λ before on. c.resume_at-next.ensures.sends before (c.places.invariant.sends before on);
  resumed = resumes_more g.F.File.Disk.disk g.F.File.Counted.seen c.places.all _ _ _ _ _ c.places.number c.joined-all.ensures.joins
      c.places.invariant.resumed c.resume_at-next.ensures.resumed;
  steps = λ before on. c.resume_at-next.ensures.steps before (c.places.invariant.steps before on);
}

pub returns-clause-resumed : goal.returns-clause-resumed
returns-clause-resumed g c =
    all_resumed g.F.File.Disk.disk g.F.File.Counted.seen c.places.all _ _ c.places.number 8 (omega arith) c.places.invariant.resumed
