use Rattle.std.proofs.Common.{◌∙◌}
use Rattle.desk_run.specs.Works.{rests, settled, done}
use Rattle.desk_run.proofs.carrying.carry_on.Goals as goal

pub tasks-init : goal.tasks-init
tasks-init g c = record {
  faults = c.in_ok-settle.ensures.net;
  sends = c.settle.ensures.sends;
  goes = settled _ _ _ _ rests c.in_ok-settle.ensures.settles;
}

pub tasks-preserved : goal.tasks-preserved
tasks-preserved g c = record {
  faults = c.in_ok-do_task-in-Some.ensures.net ∙ c.tasks.invariant.faults;
  sends = λ start on. c.do_task.ensures.sends start (c.tasks.invariant.sends start on);
  goes = done c.in-Some.task _ _ _ _ c.tasks.invariant.goes c.in_ok-do_task-in-Some.ensures.does;
}
