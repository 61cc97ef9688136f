use Rattle.std.proofs.Common.{◌∙◌, ap, take, arith}
use Rattle.box_registry.proofs.DifferLemmas.{differ-take}
use Rattle.box_registry.proofs.RowLemmas.{addresses-now, length-now}
use Rattle.box_registry.proofs.registry.Registry.first.Goals as goal

pub first-requires : goal.first-requires
first-requires c =
    omega (arith, length-now c.self.inside.limit c.self.inside.frontier.addresses c.self.inside.keys.items c.args.self.now c.self.view_is c.self.invariant.as_many)

pub returns-clause-first : goal.returns-clause-first
returns-clause-first c =
    c.first.ensures
    ∙ ap (take c.args.count)
    (addresses-now c.self.inside.limit c.self.inside.frontier.addresses c.self.inside.keys.items c.args.self.now c.self.view_is c.self.invariant.as_many)

pub returns-clause-differ : goal.returns-clause-differ
returns-clause-differ c = rw c.first.ensures (differ-take c.args.count c.self.inside.frontier.addresses c.self.invariant.differ)
