use Rattle.std.proofs.Common.{◌∙◌, ap, bit_xor}
use Rattle.std.specs.Int.Bits.{xor_zero_r}
use Rattle.audit_rules.specs.Audit.{product, value, through_three, opening_of}
use Rattle.write_hiding.proofs.words.moved_factors.Goals as goal

pub returns-clause-a : goal.returns-clause-a
unfolding opening_of
returns-clause-a c =
    let sums = c.args.sums.now in
    let share = c.masks_alone.result in
    let f = value (through_three c.args.u sums.x sums.m) c.args.sigma in
    ap (bit_xor c.args.opened.now.d)
    (ap (λ o. o.d) c.open_share-values.ensures.openings
    ∙ ap (λ u. bit_xor (value (through_three u sums.x sums.m) c.args.sigma) share.a) c.masks_alone.ensures.u
    ∙ ap (bit_xor f) c.masks_alone.ensures.a ∙ xor_zero_r f)

pub returns-clause-b : goal.returns-clause-b
unfolding opening_of
returns-clause-b c =
    let sums = c.args.sums.now in
    let share = c.masks_alone.result in
    let g = product c.args.sigma (value (through_three c.args.v sums.y sums.z) c.args.sigma) in
    ap (bit_xor c.args.opened.now.e)
    (ap (λ o. o.e) c.open_share-values.ensures.openings
    ∙ ap (λ v. bit_xor (product c.args.sigma (value (through_three v sums.y sums.z) c.args.sigma)) share.b) c.masks_alone.ensures.v
    ∙ ap (bit_xor g) c.masks_alone.ensures.b ∙ xor_zero_r g)
