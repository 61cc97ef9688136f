use Rattle.std.proofs.Common.{length, sym, ap, ◌∙◌}
use Rattle.server_boxes.specs.Held.{Holdings}
use Rattle.server_boxes.proofs.Both.{length-boxes_in, fits}
use Rattle.server_boxes.proofs.boxes.ServerBoxes.count.Goals as goal

pub returns-clause-count : goal.returns-clause-count
returns-clause-count c =
    let i = c.self.inside in
    c.count.ensures.count
    ∙ (sym (length-boxes_in i.registry.boxes i.shares.boxes (fits i.registry i.shares c.self.invariant))
    ∙ ap (λ (h : Holdings). length h.boxes) c.self.view_is)
