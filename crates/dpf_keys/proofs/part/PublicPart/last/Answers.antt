use Rattle.std.proofs.Common.{ap, arith, sym, ◌∙◌, ◌≡◌, ◌-◌, drop, length, subst, ℕ, List}
use Rattle.std.proofs.lemmas.List.{take_rest, length-drop}
use Rattle.dpf_rules.specs.Walk.{last_of}
use Rattle.express_words.specs.Limits.{IsWidth}
use Rattle.dpf_keys.proofs.part.PublicPart.last.Goals as goal

pub returns-clause-value : goal.returns-clause-value
unfolding last_of
returns-clause-value c = take_rest c.self.inside.bytes.now 2064 ∙ ap (λ (xs : List ℕ). drop 2064 xs) c.self.view_is

pub returns-clause-width : goal.returns-clause-width
unfolding last_of
returns-clause-width c =
    let same : length c.self.inside.bytes.now - 2064 ≡ length (drop 2064 c.args.self.now) =
    sym (length-drop 2064 c.self.inside.bytes.now) ∙ ap (λ (xs : List ℕ). length (drop 2064 xs)) c.self.view_is in
    subst IsWidth same c.self.invariant.1

pub returns-clause-rest : goal.returns-clause-rest
unfolding last_of
returns-clause-rest c =
    let same : length c.self.inside.bytes.now ≡ length c.args.self.now = ap (λ (xs : List ℕ). length xs) c.self.view_is in
    omega (arith, length-drop 2064 c.args.self.now, c.self.invariant.0)
