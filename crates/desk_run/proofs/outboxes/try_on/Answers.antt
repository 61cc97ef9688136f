use Rattle.std.proofs.Common.{◌∙◌, refl}
use Rattle.desk_run.specs.Tries.{first, next}
use Rattle.desk_run.proofs.outboxes.try_on.Goals as goal

pub tries-init : goal.tries-init
tries-init g c = record { faults = refl; sends = λ start on. on; tries = first; steps = λ start on. on }

pub returns-in-Stop-clause-comes : goal.returns-in-Stop-clause-comes
returns-in-Stop-clause-comes g c = record {
  last = c.tries.outbox;
  worked = c.worked.new.outbox;
  mid = _;
  tries = c.tries.invariant.tries;
  works = rw c.in-Stop.is at c.in_ok-end.ensures.works;
}

pub tries-preserved : goal.tries-preserved
tries-preserved g c = record {
  faults = c.in_ok-end.ensures.net ∙ c.tries.invariant.faults;
  sends = λ start on. c.worked.ensures.sends start (c.tries.invariant.sends start on);
  tries = next _ _ _ _ _ _ _ c.tries.invariant.tries c.in_ok-end.ensures.works c.in-NewTry.is
      c.in_ok-outbox-in-NewTry.ensures.again c.in_ok-outbox-in-NewTry.ensures.puts;
  steps = λ start on. c.next_try.ensures.steps start (c.tries.invariant.steps start on);
}
