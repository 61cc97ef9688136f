use Rattle.std.proofs.Common.{◌<◌, length, slice_get, option_map, arith, sym, ◌∙◌, ap}
use Rattle.box_registry.specs.Boxes.{Box, Boxes}
use Rattle.store_tests.proofs.EntryLemmas.{address-entries, get_there, length-now}
use Rattle.store_tests.proofs.plain.PlainRegistry.address_of.Goals as goal

pub returns : goal.returns
returns c =
    let count = length-now _ _ _ _ c.self.view_is c.self.invariant.same in
    let within : c.args.box_number < length c.self.inside.addresses.items = omega (arith, count) in
    ap (λ (r : Boxes). option_map (λ (found : Box). found.address) (slice_get r.boxes c.args.box_number)) (sym c.self.view_is)
    ∙ address-entries _ c.args.box_number
    ∙ ap (λ xs. slice_get xs c.args.box_number) (sym c.self.invariant.same)
    ∙ get_there _ _ _ within c.index.ensures
