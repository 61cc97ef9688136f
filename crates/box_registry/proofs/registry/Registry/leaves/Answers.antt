use Rattle.std.proofs.Common.{◌+◌, ◌∙◌, ap, ℕ, List, take, map, arith}
use Rattle.dpf_rules.specs.Evaluation.{prefix_count}
use Rattle.dpf_rules.specs.Walk.{leaf_of}
use Rattle.box_registry.proofs.RowLemmas.{addresses-now, length-now}
use Rattle.box_registry.proofs.registry.Registry.leaves.Goals as goal

pub run-requires-clause-there : goal.run-requires-clause-there
run-requires-clause-there g c =
    omega (arith, length-now c.self.inside.limit c.self.inside.frontier.addresses c.self.inside.keys.items c.args.self.now c.self.view_is c.self.invariant.as_many)

pub returns-clause-leaves : goal.returns-clause-leaves
returns-clause-leaves g c =
    c.run.ensures.leaves
    ∙ ap (λ (xs : List ℕ). map (leaf_of c.args.part.now c.args.server c.args.root) (take c.args.count xs))
    (addresses-now c.self.inside.limit c.self.inside.frontier.addresses c.self.inside.keys.items c.args.self.now c.self.view_is c.self.invariant.as_many)

pub returns-clause-steps : goal.returns-clause-steps
returns-clause-steps g c =
    c.run.ensures.steps
    ∙ ap (λ (xs : List ℕ). c.args.steps.now + prefix_count (take c.args.count xs))
    (addresses-now c.self.inside.limit c.self.inside.frontier.addresses c.self.inside.keys.items c.args.self.now c.self.view_is c.self.invariant.as_many)
