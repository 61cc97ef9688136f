use Rattle.std.proofs.Common.{sym, ap, subst, ◌∙◌, arith}
use Rattle.replay_world.specs.View.{fresh, AreFresh}
use Rattle.replay_world.specs.Parts.{requests_in}
use Rattle.replay_world.proofs.Lanes.{fresh_more}
use Rattle.replay_world.proofs.asking.all_askers.Goals as goal

pub loop-lane-preserved : goal.loop-lane-preserved
loop-lane-preserved c = record {
  count = omega (arith, c.in_ok-push.ensures.len);
  fresh =
      let header = c.args.header.now in
      let xs = c.loop-lane.askers.items in
      let made = c.in_ok-open.ensures in
      subst (AreFresh header) (sym c.in_ok-push.ensures.items)
      (fresh_more header xs _ c.loop-lane.invariant.fresh (made.client ∙ ap (fresh header) (sym c.loop-lane.invariant.count)) (ap requests_in made.waiting) made.told);
}
