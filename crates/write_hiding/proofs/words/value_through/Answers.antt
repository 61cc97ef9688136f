use Rattle.std.proofs.Common.{◌∙◌, ap, bit_xor}
use Rattle.std.specs.Int.Bits.{xor_zero_r}
use Rattle.audit_rules.specs.Audit.{value, through_three, opening_of}
use Rattle.write_hiding.proofs.words.value_through.Goals as goal

pub returns : goal.returns
unfolding opening_of
returns c =
    let share = c.masks_alone.result in
    let v = value (through_three c.args.at0 c.args.at1 c.args.at2) c.args.sigma in
    ap (λ o. o.d) c.open_share.ensures.openings
    ∙ ap (λ u. bit_xor (value (through_three u c.args.at1 c.args.at2) c.args.sigma) share.a) c.masks_alone.ensures.u
    ∙ ap (bit_xor v) c.masks_alone.ensures.a ∙ xor_zero_r v
