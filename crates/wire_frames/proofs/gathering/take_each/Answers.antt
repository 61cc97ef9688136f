use Rattle.std.proofs.Common.{◌≡◌, ◌∙◌, ◌+◌, List, ℕ, drop, get_or, true, false, sym, ap, arith}
use Rattle.std.proofs.lemmas.List.{drop_more, drop_all}
use Rattle.frame_rules.specs.Reading.{decoded}
use Rattle.frame_rules.specs.Gathering.{is_short, gathered}
use Rattle.frame_rules.proofs.GatheringLaws.{gathered_stays, gathered_more, gathered_none}
use Rattle.wire_frames.proofs.gathering.take_each.Goals as goal

pub returns-then-not-is_waiting-clause-held : goal.returns-then-not-is_waiting-clause-held
returns-then-not-is_waiting-clause-held c =
    let t : is_short (decoded c.loop-byte.held.items) ≡ false = grind arith in
    sym (gathered_stays c.loop-byte.held.items (drop c.loop-byte.byte-index c.args.piece.now) t) ∙ c.loop-byte.invariant.held

pub loop-byte-preserved : goal.loop-byte-preserved
loop-byte-preserved c =
    let t : is_short (decoded c.loop-byte.held.items) ≡ true = grind arith in
    let held : List ℕ = c.loop-byte.held.items in
    let i : ℕ = c.loop-byte.byte-index in
    let piece : List ℕ = c.args.piece.now in
    record {
      held = ap (λ (h : List ℕ). gathered h (drop (i + 1) piece)) c.push_reserved.ensures.items ∙ sym (gathered_more held (get_or piece i 0) (drop (i + 1) piece) t) ∙ ap (gathered held) (sym (drop_more piece i 0 c.loop-byte-test.true)) ∙ c.loop-byte.invariant.held;
      capacity = c.push_reserved.ensures.capacity ∙ c.loop-byte.invariant.capacity;
    }

pub returns-clause-held : goal.returns-clause-held
returns-clause-held c = sym (ap (gathered c.loop-byte.held.items) (drop_all c.loop-byte.byte-index c.args.piece.now c.loop-byte-test.false) ∙ gathered_none c.loop-byte.held.items) ∙ c.loop-byte.invariant.held
