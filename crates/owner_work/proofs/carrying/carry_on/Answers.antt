use Rattle.std.proofs.Common.{◌∙◌, None, arith, refl}
use Rattle.std.proofs.lemmas.Result.{err_from_is_err_and}
use Rattle.owner_work.specs.Works.{done, many, rests, settled, undone, unsettled}
use Rattle.owner_work.proofs.OnlyLaws.{works_both}
use Rattle.owner_work.proofs.SettleLaws.{settled_idle}
use Rattle.owner_work.proofs.StopLaws.{does_since, stops_by}
use Rattle.owner_work.proofs.carrying.carry_on.Goals as goal

pub tasks-init : goal.tasks-init
tasks-init g c = record {
  faults = c.in_ok-settle.ensures.net;
  sends = c.settle.ensures.sends;
  goes = settled _ _ _ _ _ rests c.in_ok-settle.ensures.ended;
  clock = c.in_ok-settle.ensures.clock;
  only = c.settle.ensures.only;
  idle = settled_idle g.D.Disk.disk g.D.Counted.seen None c.args.kept.now c.settle.new.kept
      (g.N.Counted.seen c.args.net.now).calls (g.N.Counted.seen c.settle.new.net).calls
      c.in_ok-settle.ensures.ended;
}

pub tasks-preserved : goal.tasks-preserved
tasks-preserved g c = record {
  faults = c.in_ok-do_task-in-Some.ensures.net ∙ c.tasks.invariant.faults;
  sends = λ start on. c.do_task.ensures.sends start (c.tasks.invariant.sends start on);
  goes = done _ c.in-Some.task _ _ _ _ c.tasks.invariant.goes c.in_ok-do_task-in-Some.ensures.ended;
  clock = c.in_ok-do_task-in-Some.ensures.clock ∙ c.tasks.invariant.clock;
  only = works_both _ _ _ c.tasks.invariant.only c.do_task.ensures.only;
  idle = c.in_ok-do_task-in-Some.ensures.ended.ends.ended;
}

pub returns-in-None-clause-goes : goal.returns-in-None-clause-goes
returns-in-None-clause-goes g c = (c.tasks.counter, c.tasks.invariant.goes)

pub returns-in_err-settle-clause-stops : goal.returns-in_err-settle-clause-stops
returns-in_err-settle-clause-stops g c =
    let p = err_from_is_err_and c.from_residual.result c.from_residual.ensures.1 in
    rw (p.1, p.2) (stops_by g.D.Disk.disk g.D.Counted.seen _ c.args.kept.now c.args.kept.now c.settle.new.kept _ _ _ _ _ 0
    rests (unsettled c.in_err-settle.ensures.settles))

pub returns-in_err-do_task-in-Some-clause-stops : goal.returns-in_err-do_task-in-Some-clause-stops
returns-in_err-do_task-in-Some-clause-stops g c =
    let p = err_from_is_err_and c.from_residual-in_err-do_task-in-Some.result
    c.from_residual-in_err-do_task-in-Some.ensures.1 in
    rw (p.1, p.2) (stops_by g.D.Disk.disk g.D.Counted.seen _ c.args.kept.now c.tasks.kept c.do_task.new.kept _ _ _ _ _
    c.tasks.counter c.tasks.invariant.goes
    (undone c.in-Some.task (does_since g.D.Disk.disk g.D.Counted.seen c.in-Some.task c.tasks.kept
    c.do_task.new.kept _ _ _ _ _ _ c.tasks.invariant.clock c.in_err-do_task-in-Some.ensures.does)))

pub returns-in_err-do_task-in-Some-clause-only : goal.returns-in_err-do_task-in-Some-clause-only
returns-in_err-do_task-in-Some-clause-only g c =
    works_both _ _ _ c.tasks.invariant.only c.do_task.ensures.only

pub returns-clause-stops : goal.returns-clause-stops
returns-clause-stops g c = record {
  tasks = c.tasks.counter;
  l = c.tasks.kept;
  mid = (g.N.Counted.seen c.tasks.net).calls;
  goes = c.tasks.invariant.goes;
  by = many refl (omega (arith, c.tasks-test.false, c.tasks.auto.counter-end)) refl refl;
}
