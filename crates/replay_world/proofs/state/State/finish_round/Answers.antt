use Rattle.std.proofs.Common.{◌≡◌, ℕ, length, sym, ap, ◌∙◌, arith}
use Rattle.std.proofs.lemmas.List.{length-map}
use Rattle.run_rules.specs.Letters.{FrameWorld}
use Rattle.run_rules.specs.Run.{client_sends, delivers_at, frame_moves}
use Rattle.token_rules.specs.Driven.{drained_by}
use Rattle.replay_world.specs.Parts.{letter_in}
use Rattle.replay_world.specs.View.{run_in}
use Rattle.replay_world.proofs.Events.{on_ok}
use Rattle.replay_world.proofs.state.State.finish_round.Goals as goal

pub returns-clause-moved : goal.returns-clause-moved
returns-clause-moved c =
    let s = c.args.self.now in
    let lane = c.args.lane in
    let drained = c.drain.new.self in
    let n = c.len-before.result in
    let size : n ≡ length drained.pool.items = omega arith in
    let after : FrameWorld → ℕ → FrameWorld = λ v k. frame_moves.hands_last (drained_by frame_moves (delivers_at (client_sends v lane) k)) lane k in
    on_ok c.hand_last.result (λ m header.
    let delivered = c.in_ok-deliver.ensures.moved header ∙ ap (λ v. delivers_at v n) (c.in_ok-send.ensures.moved header) in
    m header
    ∙ (ap (λ v. frame_moves.hands_last v lane n) (c.in_ok-drain-2.ensures.moved header ∙ ap (drained_by frame_moves) delivered)
    ∙ (ap (after (run_in header drained)) (size ∙ sym (length-map drained.pool.items letter_in))
    ∙ ap (λ (v : FrameWorld). after v (length v.pool)) (c.in_ok-drain.ensures.moved header))))
    c.hand_last.ensures.moved
