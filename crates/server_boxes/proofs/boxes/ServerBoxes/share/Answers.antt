use Rattle.std.proofs.Common.{ap, ◌∙◌, arith}
use Rattle.server_boxes.specs.Held.{Holdings, share_at}
use Rattle.server_boxes.proofs.Both.{share_is}
use Rattle.server_boxes.proofs.boxes.ServerBoxes.share.Goals as goal

pub returns : goal.returns
returns c =
    let i = c.self.inside in
    c.share.ensures.bytes
    ∙ (share_is i.registry i.shares c.self.invariant c.args.number (omega (arith, c.requires, ap (λ (h : Holdings). h.limit) c.self.view_is))
    ∙ ap (λ (h : Holdings). share_at h c.args.number) c.self.view_is)
