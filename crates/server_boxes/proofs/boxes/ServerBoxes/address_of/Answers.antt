use Rattle.std.proofs.Common.{length, sym, ap, ◌∙◌, refl, arith}
use Rattle.std.specs.Prelude.{option_map, slice_get}
use Rattle.box_registry.specs.Boxes as registry
use Rattle.step_rules.specs.Boxes.{Box}
use Rattle.server_boxes.specs.Held.{Holdings}
use Rattle.server_boxes.proofs.Both.{length-boxes_in, fits, same_field}
use Rattle.server_boxes.proofs.boxes.ServerBoxes.address_of.Goals as goal

pub address_of-requires : goal.address_of-requires
address_of-requires c =
    let i = c.self.inside in
    omega (arith, c.requires, length-boxes_in i.registry.boxes i.shares.boxes (fits i.registry i.shares c.self.invariant), ap (λ (h : Holdings). length h.boxes) c.self.view_is)

pub returns : goal.returns
returns c =
    let i = c.self.inside in
    ap (λ (h : Holdings). option_map (λ (b : Box). b.address) (slice_get h.boxes c.args.number)) (sym c.self.view_is)
    ∙ (same_field (λ (b : registry.Box). b.address) (λ (b : Box). b.address) (λ b s. refl) i.registry.boxes i.shares.boxes c.args.number (fits i.registry i.shares c.self.invariant)
    ∙ c.address_of.ensures)
