use Rattle.std.proofs.Common.{◌≡◌, ◌∙◌, ℕ, List, ◌++◌, ◌≤◌, ◌-◌, length, take, subst, sym, ap, arith}
use Rattle.std.specs.Prelude.{IfOk}
use Rattle.frame_rules.specs.Reading.{decoded}
use Rattle.frame_rules.specs.Gathering.{IsHeld, fed}
use Rattle.frame_rules.proofs.GatheringLaws.{gathered_taken, held_gathered, fed_taken, fed_not_short, fault_again}
use Rattle.wire_frames.proofs.gathering.Gather.feed.Goals as goal

pub invariant_of-self : goal.invariant_of-self
invariant_of-self c =
    (omega (arith, c.feed_into.ensures.capacity, c.self.invariant.0), subst IsHeld (sym c.feed_into.ensures.held) (held_gathered c.self.inside.held.items c.args.piece.now c.self.invariant.1))

pub returns-clause-taken : goal.returns-clause-taken
returns-clause-taken c =
    let old : List ℕ = c.self.inside.held.items in
    let new : List ℕ = c.feed_into.new.held.items in
    let t = gathered_taken old c.args.piece.now new c.feed_into.ensures.held in
    let P : ℕ → Type 0 = λ n. (n ≤ length c.args.piece.now) × (new ≡ old ++ take n c.args.piece.now) in
    subst (λ (x : List ℕ). IfOk c.feed_into.result (λ n. (n ≤ length c.args.piece.now) × (new ≡ x ++ take n c.args.piece.now))) c.self.view_is
    (subst (λ r. IfOk r P) (sym c.feed_into.ensures.answer) (fed_taken (decoded new) (length new - length old) P (t.1, t.2)))

pub returns-clause-never_short : goal.returns-clause-never_short
returns-clause-never_short c e = fed_not_short (decoded c.feed_into.new.held.items) (length c.feed_into.new.held.items - length c.self.inside.held.items) (sym c.feed_into.ensures.answer ∙ e)

pub returns-clause-again : goal.returns-clause-again
returns-clause-again c fault n e =
    let old : List ℕ = c.self.inside.held.items in
    let new : List ℕ = c.feed_into.new.held.items in
    let a = fault_again old c.args.piece.now fault n (ap decoded c.self.view_is ∙ e) in
    let same : new ≡ old = c.feed_into.ensures.held ∙ a.0 in
    (c.feed_into.ensures.answer ∙ ap (λ (x : List ℕ). fed (decoded x) (length new - length old)) same ∙ a.1 (length new - length old), same ∙ c.self.view_is)
