use Rattle.std.proofs.Common.{◌≡◌, ◌<◌, length, sym, ap, ◌∙◌, refl, arith}
use Rattle.std.specs.Prelude.{option_map, slice_get, Some, not, Bool, true, false}
use Rattle.share_store.specs.Shares.{empty_share, share_at}
use Rattle.step_rules.specs.Boxes.{Box}
use Rattle.server_boxes.specs.Held.{Holdings}
use Rattle.server_boxes.proofs.Both.{length-boxes_in, fits, box_there, no_box}
use Rattle.server_boxes.proofs.boxes.ServerBoxes.is_live.Goals as goal

twice : (b : Bool) → not (not b) ≡ b
twice true = refl
twice false = refl

pub retired-requires : goal.retired-requires
retired-requires c =
    let i = c.self.inside in
    let f = fits i.registry i.shares c.self.invariant in
    omega (arith, c.requires, f, length-boxes_in i.registry.boxes i.shares.boxes f, ap (λ (h : Holdings). length h.boxes) c.self.view_is)

pub returns : goal.returns
returns c =
    let i = c.self.inside in
    let f = fits i.registry i.shares c.self.invariant in
    let inside : c.args.number < length i.registry.boxes =
    omega (arith, c.requires, length-boxes_in i.registry.boxes i.shares.boxes f, ap (λ (h : Holdings). length h.boxes) c.self.view_is) in
    ap (λ (h : Holdings). option_map (λ (b : Box). b.live) (slice_get h.boxes c.args.number)) (sym c.self.view_is)
    ∙ (ap (option_map (λ (b : Box). b.live)) (box_there i.registry.boxes i.shares.boxes c.args.number no_box (empty_share 0) inside f)
    ∙ ap Some (sym (twice (share_at i.shares.boxes c.args.number).live) ∙ ap not (sym c.retired.ensures)))
