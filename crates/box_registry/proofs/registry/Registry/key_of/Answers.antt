use Rattle.std.proofs.Common.{◌∙◌, sym, ap, slice_get, option_map, arith}
use Rattle.box_registry.specs.Boxes.{Box, Boxes}
use Rattle.box_registry.proofs.RowLemmas.{length-now, key-rows, get_there}
use Rattle.box_registry.proofs.registry.Registry.key_of.Goals as goal

pub index-requires : goal.index-requires
index-requires c =
    omega (arith, c.self.invariant.as_many, length-now c.self.inside.limit c.self.inside.frontier.addresses c.self.inside.keys.items c.args.self.now c.self.view_is c.self.invariant.as_many)

pub returns : goal.returns
returns c =
    ap (λ (r : Boxes). option_map (λ (found : Box). found.key) (slice_get r.boxes c.args.box_number)) (sym c.self.view_is)
    ∙ key-rows c.self.inside.frontier.addresses c.self.inside.keys.items c.args.box_number c.self.invariant.as_many
    ∙ get_there c.self.inside.keys.items c.args.box_number c.index.result.now
    (omega (arith, c.self.invariant.as_many, length-now c.self.inside.limit c.self.inside.frontier.addresses c.self.inside.keys.items c.args.self.now c.self.view_is c.self.invariant.as_many))
    c.index.ensures
