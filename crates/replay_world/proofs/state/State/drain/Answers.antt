use Rattle.std.proofs.Common.{◌≡◌, ◌+◌, ◌-◌, ◌*◌, ◌<◌, suc, length, refl, ap, ◌∙◌, arith}
use Rattle.token_rules.specs.Driven.{drains_by}
use Rattle.run_rules.specs.Run.{frame_moves}
use Rattle.replay_world.specs.View.{run_in}
use Rattle.replay_world.proofs.Rounds.{drain_more, drain_idle, drain_over}
use Rattle.replay_world.proofs.state.State.drain.Goals as goal

pub loop-init : goal.loop-init
loop-init c = record {
  moved = λ header.
      let e : 2 * c.outstanding-end.result - 0 ≡ 2 * length c.args.self.now.leader.outstanding = omega arith in
      ap (λ n. drains_by frame_moves n (run_in header c.args.self.now)) e;
  keeps = record { leader = refl; helper = refl; lanes = refl };
}

pub returns-then-outstanding-eq0-clause-moved : goal.returns-then-outstanding-eq0-clause-moved
returns-then-outstanding-eq0-clause-moved c header =
    let none : length c.loop.self.leader.outstanding ≡ 0 = omega arith in
    drain_idle (run_in header c.loop.self) (2 * c.outstanding-end.result - c.loop.counter) none ∙ c.loop.invariant.moved header

pub loop-preserved : goal.loop-preserved
loop-preserved c =
    let end = 2 * c.outstanding-end.result in
    let i = c.loop.counter in
    let one : end - i ≡ suc (end - (i + 1)) = omega arith in
    let busy : 0 < length c.loop.self.leader.outstanding = omega arith in
    let kept = c.loop.invariant.keeps in
    let keeps = c.in_ok-drain_round.ensures.keeps in
    record {
      moved = λ header.
          ap (drains_by frame_moves (end - (i + 1))) (c.in_ok-drain_round.ensures.moved header)
          ∙ (drain_more (run_in header c.loop.self) (end - i) (end - (i + 1)) one busy ∙ c.loop.invariant.moved header);
      keeps = record { leader = keeps.leader ∙ kept.leader; helper = keeps.helper ∙ kept.helper; lanes = keeps.lanes ∙ kept.lanes };
    }

pub returns-clause-moved : goal.returns-clause-moved
returns-clause-moved c header =
    let over : 2 * c.outstanding-end.result - c.loop.counter ≡ 0 = omega arith in
    drain_over (run_in header c.loop.self) (2 * c.outstanding-end.result - c.loop.counter) over ∙ c.loop.invariant.moved header
