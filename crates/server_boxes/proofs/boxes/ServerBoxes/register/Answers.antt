use Rattle.std.proofs.Common.{◌≡◌, length, sym, ap, subst, ◌∙◌}
use Rattle.std.specs.Prelude.{OnOk}
use Rattle.box_registry.specs.Boxes.{answer_at}
use Rattle.step_rules.specs.Boxes.{place_of, with_new}
use Rattle.server_boxes.specs.Held.{Holdings, with_boxes}
use Rattle.server_boxes.specs.Pairs.{held_in}
use Rattle.server_boxes.proofs.Both.{answer_is, registered_rows, registered_boxes}
use Rattle.server_boxes.proofs.boxes.ServerBoxes.register.Goals as goal

pub invariant_of-self : goal.invariant_of-self
invariant_of-self c =
    let i = c.self.inside in
    registered_rows i.registry i.shares c.self.invariant c.args.address c.args.key.now c.add.result c.add.new.self c.add.ensures.answer c.add.ensures.added c.add.ensures.refused

pub returns-clause-answer : goal.returns-clause-answer
returns-clause-answer c =
    let i = c.self.inside in
    c.add.ensures.answer
    ∙ (sym (answer_is i.registry i.shares c.self.invariant c.args.address)
    ∙ ap (λ (h : Holdings). answer_at h.limit (length h.boxes) (place_of c.args.address h.boxes)) c.self.view_is)

pub returns-clause-added : goal.returns-clause-added
returns-clause-added c =
    let i = c.self.inside in
    subst (λ (h : Holdings). OnOk c.add.result (held_in c.add.new.self i.shares ≡ with_boxes h (with_new h.width c.args.address c.args.key.now h.boxes))) c.self.view_is
    (registered_boxes i.registry i.shares c.self.invariant c.args.address c.args.key.now c.add.result c.add.new.self c.add.ensures.answer c.add.ensures.added)
