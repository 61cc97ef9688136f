use Rattle.std.proofs.Common.{◌≡◌, ◌<◌, ℕ, List, length, sym, ap, subst, ◌∙◌, arith}
use Rattle.std.specs.Prelude.{Bool, false, ◌&&◌, slice_get}
use Rattle.express_words.specs.Bytes.{xor_bytes}
use Rattle.dpf_rules.specs.Expansion.{mask}
use Rattle.share_store.specs.Shares.{Shares, share_at}
use Rattle.step_rules.specs.Boxes.{with_read}
use Rattle.server_boxes.specs.Held.{Holdings, HasSameAddresses, with_boxes}
use Rattle.server_boxes.specs.Pairs.{held_in}
use Rattle.server_boxes.proofs.Both.{length-boxes_in, fits, found_share, found_key, read_rows, read_boxes, same_addresses}
use Rattle.server_boxes.proofs.Masks.{masked_is}
use Rattle.server_boxes.proofs.boxes.ServerBoxes.read.Goals as goal

pub key_of-requires : goal.key_of-requires
key_of-requires c =
    let i = c.self.inside in
    omega (arith, c.requires.there, length-boxes_in i.registry.boxes i.shares.boxes (fits i.registry i.shares c.self.invariant), ap (λ (h : Holdings). length h.boxes) c.self.view_is)

pub take-requires-clause-there : goal.take-requires-clause-there
take-requires-clause-there c =
    let i = c.self.inside in
    let f = fits i.registry i.shares c.self.invariant in
    omega (arith, c.requires.there, f, length-boxes_in i.registry.boxes i.shares.boxes f, ap (λ (h : Holdings). length h.boxes) c.self.view_is)

pub retire-requires-clause-there : goal.retire-requires-clause-there
retire-requires-clause-there c =
    let i = c.self.inside in
    let f = fits i.registry i.shares c.self.invariant in
    omega (arith, c.requires.there, f, length-boxes_in i.registry.boxes i.shares.boxes f, ap (λ (h : Holdings). length h.boxes) c.self.view_is)

pub invariant_of-self : goal.invariant_of-self
invariant_of-self c =
    let i = c.self.inside in
    let inside : c.args.number < length i.registry.boxes =
    omega (arith, c.requires.there, length-boxes_in i.registry.boxes i.shares.boxes (fits i.registry i.shares c.self.invariant), ap (λ (h : Holdings). length h.boxes) c.self.view_is) in
    read_rows i.registry i.shares c.self.invariant c.args.number (share_at i.shares.boxes c.args.number).live c.take.new.self inside c.take.ensures.cleared

pub invariant_of-self-else-stays : goal.invariant_of-self-else-stays
invariant_of-self-else-stays c =
    let i = c.self.inside in
    let inside : c.args.number < length i.registry.boxes =
    omega (arith, c.requires.there, length-boxes_in i.registry.boxes i.shares.boxes (fits i.registry i.shares c.self.invariant), ap (λ (h : Holdings). length h.boxes) c.self.view_is) in
    read_rows i.registry i.shares c.self.invariant c.args.number false c.retire.new.self inside c.retire.ensures.retired

pub returns-then-stays-clause-masked : goal.returns-then-stays-clause-masked
returns-then-stays-clause-masked c found found_is =
    let i = c.self.inside in
    let f = fits i.registry i.shares c.self.invariant in
    let here = ap (λ (h : Holdings). slice_get h.boxes c.args.number) c.self.view_is ∙ found_is in
    let inside : c.args.number < length i.registry.boxes =
    omega (arith, c.requires.there, length-boxes_in i.registry.boxes i.shares.boxes f, ap (λ (h : Holdings). length h.boxes) c.self.view_is) in
    masked_is (length c.args.masked.now) c.args.self.now.width c.clear.new.bytes c.mask_into.new.out c.take.new.out found.share found.key c.args.lane c.args.serial c.clear.ensures c.requires.width
    (c.mask_into.ensures ∙ ap (λ (k : List ℕ). xor_bytes c.clear.new.bytes (mask k c.args.lane c.args.serial (length c.clear.new.bytes))) (found_key i.registry i.shares c.self.invariant c.args.number found c.key_of.result.now inside here c.key_of.ensures))
    (c.take.ensures.given ∙ ap (xor_bytes c.mask_into.new.out) (found_share i.registry i.shares c.self.invariant c.args.number found inside here))

pub returns-else-stays-clause-masked : goal.returns-else-stays-clause-masked
returns-else-stays-clause-masked c found found_is =
    let i = c.self.inside in
    let f = fits i.registry i.shares c.self.invariant in
    let here = ap (λ (h : Holdings). slice_get h.boxes c.args.number) c.self.view_is ∙ found_is in
    let inside : c.args.number < length i.registry.boxes =
    omega (arith, c.requires.there, length-boxes_in i.registry.boxes i.shares.boxes f, ap (λ (h : Holdings). length h.boxes) c.self.view_is) in
    masked_is (length c.args.masked.now) c.args.self.now.width c.clear.new.bytes c.mask_into.new.out c.retire.new.out found.share found.key c.args.lane c.args.serial c.clear.ensures c.requires.width
    (c.mask_into.ensures ∙ ap (λ (k : List ℕ). xor_bytes c.clear.new.bytes (mask k c.args.lane c.args.serial (length c.clear.new.bytes))) (found_key i.registry i.shares c.self.invariant c.args.number found c.key_of.result.now inside here c.key_of.ensures))
    (c.retire.ensures.given ∙ ap (xor_bytes c.mask_into.new.out) (found_share i.registry i.shares c.self.invariant c.args.number found inside here))

pub returns-then-stays-clause-cleared : goal.returns-then-stays-clause-cleared
returns-then-stays-clause-cleared c found found_is =
    let i = c.self.inside in
    let f = fits i.registry i.shares c.self.invariant in
    let here = ap (λ (h : Holdings). slice_get h.boxes c.args.number) c.self.view_is ∙ found_is in
    let inside : c.args.number < length i.registry.boxes =
    omega (arith, c.requires.there, length-boxes_in i.registry.boxes i.shares.boxes f, ap (λ (h : Holdings). length h.boxes) c.self.view_is) in
    subst (λ (h : Holdings). held_in i.registry c.take.new.self ≡ with_boxes h (with_read h.width c.args.stays c.args.number found h.boxes)) c.self.view_is
    (read_boxes i.registry i.shares c.self.invariant c.args.number c.args.stays (share_at i.shares.boxes c.args.number).live found c.take.new.self inside here
    (ap (λ (t : Bool). t && (share_at i.shares.boxes c.args.number).live) (sym c.if-stays.true)) c.take.ensures.cleared)

pub returns-else-stays-clause-cleared : goal.returns-else-stays-clause-cleared
returns-else-stays-clause-cleared c found found_is =
    let i = c.self.inside in
    let f = fits i.registry i.shares c.self.invariant in
    let here = ap (λ (h : Holdings). slice_get h.boxes c.args.number) c.self.view_is ∙ found_is in
    let inside : c.args.number < length i.registry.boxes =
    omega (arith, c.requires.there, length-boxes_in i.registry.boxes i.shares.boxes f, ap (λ (h : Holdings). length h.boxes) c.self.view_is) in
    subst (λ (h : Holdings). held_in i.registry c.retire.new.self ≡ with_boxes h (with_read h.width c.args.stays c.args.number found h.boxes)) c.self.view_is
    (read_boxes i.registry i.shares c.self.invariant c.args.number c.args.stays false found c.retire.new.self inside here
    (ap (λ (t : Bool). t && (share_at i.shares.boxes c.args.number).live) (sym c.if-stays.false)) c.retire.ensures.retired)

pub returns-then-stays-clause-same : goal.returns-then-stays-clause-same
returns-then-stays-clause-same c =
    let i = c.self.inside in
    let inside : c.args.number < length i.registry.boxes =
    omega (arith, c.requires.there, length-boxes_in i.registry.boxes i.shares.boxes (fits i.registry i.shares c.self.invariant), ap (λ (h : Holdings). length h.boxes) c.self.view_is) in
    subst (λ (h : Holdings). HasSameAddresses h (held_in i.registry c.take.new.self)) c.self.view_is
    (same_addresses i.registry i.shares c.take.new.self c.self.invariant
    (read_rows i.registry i.shares c.self.invariant c.args.number (share_at i.shares.boxes c.args.number).live c.take.new.self inside c.take.ensures.cleared)
    (ap (λ (s : Shares). s.width) c.take.ensures.cleared))

pub returns-else-stays-clause-same : goal.returns-else-stays-clause-same
returns-else-stays-clause-same c =
    let i = c.self.inside in
    let inside : c.args.number < length i.registry.boxes =
    omega (arith, c.requires.there, length-boxes_in i.registry.boxes i.shares.boxes (fits i.registry i.shares c.self.invariant), ap (λ (h : Holdings). length h.boxes) c.self.view_is) in
    subst (λ (h : Holdings). HasSameAddresses h (held_in i.registry c.retire.new.self)) c.self.view_is
    (same_addresses i.registry i.shares c.retire.new.self c.self.invariant
    (read_rows i.registry i.shares c.self.invariant c.args.number false c.retire.new.self inside c.retire.ensures.retired)
    (ap (λ (s : Shares). s.width) c.retire.ensures.retired))
