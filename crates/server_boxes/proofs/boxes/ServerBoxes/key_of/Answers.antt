use Rattle.std.proofs.Common.{length, sym, ap, ◌∙◌, refl, arith}
use Rattle.std.specs.Prelude.{option_map, slice_get}
use Rattle.box_registry.specs.Boxes as registry
use Rattle.step_rules.specs.Boxes.{Box}
use Rattle.server_boxes.specs.Held.{Holdings}
use Rattle.server_boxes.proofs.Both.{length-boxes_in, none_there, fits, same_field}
use Rattle.server_boxes.proofs.boxes.ServerBoxes.key_of.Goals as goal

pub returns-then-number-count-clause-key : goal.returns-then-number-count-clause-key
returns-then-number-count-clause-key c =
    let i = c.self.inside in
    ap (λ (h : Holdings). option_map (λ (b : Box). b.key) (slice_get h.boxes c.args.number)) (sym c.self.view_is)
    ∙ (same_field (λ (b : registry.Box). b.key) (λ (b : Box). b.key) (λ b s. refl) i.registry.boxes i.shares.boxes c.args.number (fits i.registry i.shares c.self.invariant)
    ∙ c.key_of.ensures)

pub returns-else-number-count-clause-key : goal.returns-else-number-count-clause-key
returns-else-number-count-clause-key c =
    let i = c.self.inside in
    ap (λ (h : Holdings). option_map (λ (b : Box). b.key) (slice_get h.boxes c.args.number)) (sym c.self.view_is)
    ∙ ap (option_map (λ (b : Box). b.key)) (none_there i.registry.boxes i.shares.boxes c.args.number (omega (arith, c.count.ensures.count)))

pub returns-then-number-count-clause-there : goal.returns-then-number-count-clause-there
returns-then-number-count-clause-there c =
    let i = c.self.inside in
    omega (arith, c.count.ensures.count, length-boxes_in i.registry.boxes i.shares.boxes (fits i.registry i.shares c.self.invariant), ap (λ (h : Holdings). length h.boxes) c.self.view_is)
