use Rattle.std.proofs.Common.{arith, refl}
use Rattle.desk_send.specs.Places.{start}
use Rattle.desk_send.proofs.PlaceLaws.{each_all}
use Rattle.desk_send.proofs.ResumeLaws.{resumes_more, undone_as, unfailed_as}
use Rattle.desk_send.proofs.resuming.resume_letters.Goals as goal

pub places-init : goal.places-init
places-init g c = record {
  undone = tt;
  sink = refl;
  net = refl;
  sends = λ before on. on;
  resumed = start;
  steps = λ before on. on;
}

pub places-preserved : goal.places-preserved
places-preserved g c = record {
  undone = undone_as c.places.all c.resume_at-next.result _ c.joined-all.ensures c.places.invariant.undone
      c.resume_at-next.ensures.undone;
  sink = unfailed_as c.places.all c.resume_at-next.result _ _ _ _ c.joined-all.ensures
      c.places.invariant.undone
      c.resume_at-next.ensures.undone c.places.invariant.sink c.resume_at-next.ensures.sink;
  net = unfailed_as c.places.all c.resume_at-next.result _ _ _ _ c.joined-all.ensures
      c.places.invariant.undone
      c.resume_at-next.ensures.undone c.places.invariant.net c.resume_at-next.ensures.net;
  sends = λ before on. c.resume_at-next.ensures.sends before (c.places.invariant.sends before on);
  resumed = resumes_more g.F.File.Disk.disk g.F.File.Counted.seen c.places.all c.resume_at-next.result _ _ _
      _ c.places.number c.joined-all.ensures
      c.places.invariant.resumed c.resume_at-next.ensures.resumed;
  steps = λ before on. c.resume_at-next.ensures.steps before (c.places.invariant.steps before on);
}

pub returns-clause-resumed : goal.returns-clause-resumed
returns-clause-resumed g c =
    each_all _ _ _ c.places.number 8 (omega arith) (omega arith) c.places.invariant.resumed
