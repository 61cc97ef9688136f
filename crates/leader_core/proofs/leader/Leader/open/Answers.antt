use Rattle.std.proofs.Common.{refl}
use Rattle.step_rules.specs.Leader.{opened_leader}
use Rattle.leader_core.proofs.AwaitLemmas.{opened_rows}
use Rattle.leader_core.proofs.OpenLemmas.{opened_core}
use Rattle.leader_core.proofs.leader.Leader.open.Goals as goal

pub returns : goal.returns
unfolding opened_leader
returns c = rw (c.in_ok-boxes.ensures, c.in_ok-slots.ensures.rows, c.in_ok-link.ensures.opened) refl

pub invariant_of-result : goal.invariant_of-result
invariant_of-result c = record {
  core = opened_core c.args.settings.now c.in_ok-boxes.boxes c.in_ok-slots.slots c.in_ok-link.link c.args.seed.now c.in_ok-boxes.ensures c.in_ok-slots.ensures.rows c.in_ok-slots.ensures.slots
      c.in_ok-link.ensures.opened c.in_ok-link.ensures.link;
  rows = rw (c.in_ok-slots.ensures.rows, c.in_ok-link.ensures.opened) (opened_rows c.args.settings.now);
}
