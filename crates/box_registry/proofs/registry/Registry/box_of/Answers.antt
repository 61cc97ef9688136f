use Rattle.std.proofs.Common.{◌<◌, ◌==◌, ◌∙◌, ap, ℕ, List, position, IfSome, subst}
use Rattle.box_registry.proofs.RowLemmas.{addresses-now, differ-now, length-now}
use Rattle.box_registry.proofs.registry.Registry.box_of.Goals as goal

pub returns-clause-place : goal.returns-clause-place
returns-clause-place c =
    c.box_of.ensures.place
    ∙ ap (λ (xs : List ℕ). position (λ other. other == c.args.address) xs)
    (addresses-now c.self.inside.limit c.self.inside.frontier.addresses c.self.inside.keys.items c.args.self.now c.self.view_is c.self.invariant.as_many)

pub returns-clause-within : goal.returns-clause-within
returns-clause-within c =
    let P : ℕ → Type 0 = λ n. IfSome c.box_of.result (λ b. b < n) in
    subst P
    (length-now c.self.inside.limit c.self.inside.frontier.addresses c.self.inside.keys.items c.args.self.now c.self.view_is c.self.invariant.as_many)
    c.box_of.ensures.there

pub returns-clause-differ : goal.returns-clause-differ
returns-clause-differ c = differ-now c.self.inside.limit c.self.inside.frontier.addresses c.self.inside.keys.items c.args.self.now c.self.view_is c.self.invariant.as_many c.self.invariant.differ
