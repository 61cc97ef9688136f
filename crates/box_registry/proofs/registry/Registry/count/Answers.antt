use Rattle.std.proofs.Common.{◌∙◌}
use Rattle.box_registry.proofs.RowLemmas.{length-now, differ-now}
use Rattle.box_registry.proofs.registry.Registry.count.Goals as goal

pub returns-clause-count : goal.returns-clause-count
returns-clause-count c =
    c.count.ensures.count
    ∙ length-now c.self.inside.limit c.self.inside.frontier.addresses c.self.inside.keys.items c.args.self.now c.self.view_is c.self.invariant.as_many

pub returns-clause-differ : goal.returns-clause-differ
returns-clause-differ c = differ-now c.self.inside.limit c.self.inside.frontier.addresses c.self.inside.keys.items c.args.self.now c.self.view_is c.self.invariant.as_many c.self.invariant.differ
