use Rattle.std.proofs.Common.{◌≡◌, ◌+◌, ◌-◌, ◌*◌, suc, length, refl, sym, ap, ◌∙◌, arith}
use Rattle.token_rules.specs.Driven.{finishes_by, finished_by}
use Rattle.run_rules.specs.Run.{frame_moves}
use Rattle.replay_world.specs.View.{run_in}
use Rattle.replay_world.proofs.Rounds.{finish_more, finish_idle, finish_over}
use Rattle.replay_world.proofs.state.State.finish.Goals as goal

pub loop-init : goal.loop-init
unfolding finished_by
loop-init c = record {
  moved = λ header.
      let w = run_in header c.args.self.now in
      let n = c.waiting.ensures header in
      let e : 4 * (c.waiting.result + 1) - 0 ≡ 4 * (length (w.waiting c.args.lane) + 1) = omega (arith, n) in
      ap (λ k. finishes_by frame_moves k w c.args.lane) e;
  keeps = record { leader = refl; helper = refl; lanes = refl };
}

pub returns-then-is_idle-clause-moved : goal.returns-then-is_idle-clause-moved
returns-then-is_idle-clause-moved c header =
    finish_idle (run_in header c.loop.self) c.args.lane (4 * (c.waiting.result + 1) - c.loop.counter) (sym (c.is_idle.ensures header) ∙ c.if-is_idle.true)
    ∙ c.loop.invariant.moved header

pub loop-preserved : goal.loop-preserved
loop-preserved c =
    let end = 4 * (c.waiting.result + 1) in
    let i = c.loop.counter in
    let one : end - i ≡ suc (end - (i + 1)) = omega arith in
    let kept = c.loop.invariant.keeps in
    let keeps = c.in_ok-finish_round.ensures.keeps in
    record {
      moved = λ header.
          ap (λ v. finishes_by frame_moves (end - (i + 1)) v c.args.lane) (c.in_ok-finish_round.ensures.moved header)
          ∙ (finish_more (run_in header c.loop.self) c.args.lane (end - i) (end - (i + 1)) one (sym (c.is_idle.ensures header) ∙ c.if-is_idle.false)
          ∙ c.loop.invariant.moved header);
      keeps = record { leader = keeps.leader ∙ kept.leader; helper = keeps.helper ∙ kept.helper; lanes = keeps.lanes ∙ kept.lanes };
    }

pub returns-clause-moved : goal.returns-clause-moved
returns-clause-moved c header =
    let over : 4 * (c.waiting.result + 1) - c.loop.counter ≡ 0 = omega arith in
    finish_over (run_in header c.loop.self) c.args.lane (4 * (c.waiting.result + 1) - c.loop.counter) over ∙ c.loop.invariant.moved header
