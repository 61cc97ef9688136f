use Rattle.std.proofs.Common.{◌≡◌, ◌+◌, length, sym, ap, ◌∙◌, arith}
use Rattle.std.proofs.lemmas.List.{length-map}
use Rattle.run_rules.specs.Run.{delivers_at, ticks}
use Rattle.replay_world.specs.Parts.{letter_in}
use Rattle.replay_world.specs.View.{run_in}
use Rattle.replay_world.proofs.Events.{on_ok}
use Rattle.replay_world.proofs.state.State.drain_round.Goals as goal

pub returns-clause-moved : goal.returns-clause-moved
returns-clause-moved c =
    let s = c.args.self.now in
    let n = c.len-number.result in
    let size : n ≡ length s.pool.items = omega arith in
    on_ok c.deliver-2.result (λ m header.
    let w = run_in header s in
    m header
    ∙ (ap (λ v. delivers_at v (n + 1)) (c.in_ok-deliver.ensures.moved header ∙ ap (λ v. delivers_at v n) (c.in_ok-tick.ensures.moved header))
    ∙ ap (λ k. delivers_at (delivers_at (ticks w) k) (k + 1)) (size ∙ sym (length-map s.pool.items letter_in))))
    c.deliver-2.ensures.moved
