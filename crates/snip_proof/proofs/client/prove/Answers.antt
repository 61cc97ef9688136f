use Rattle.std.proofs.Common.{◌≡◌, ◌∙◌, ap}
use Rattle.std.specs.Prelude.{bit_xor, slice_index}
use Rattle.tower_laws.specs.Polynomials.{plus_of, times_of}
use Rattle.audit_rules.specs.Audit.{product, zero_share, one_share, honest_f, honest_g}
use Rattle.snip_proof.proofs.client.prove.Goals as goal

pub returns-clause-one : goal.returns-clause-one
unfolding one_share
returns-clause-one c =
    let words = c.args.choices.now in
    let h : c.plus.result ≡ plus_of bit_xor (times_of 0 bit_xor product (honest_f c.args.m c.args.r words) (honest_g c.args.m c.args.r c.args.s words)) (zero_share words).h =
    c.plus.ensures.sum
    ∙ ap (λ l. plus_of bit_xor l c.zero_share-zero.result.h) c.whole_h-h.ensures.product
    ∙ ap (λ t. plus_of bit_xor (times_of 0 bit_xor product (honest_f c.args.m c.args.r words) (honest_g c.args.m c.args.r c.args.s words)) t.h) c.zero_share-zero.ensures.share in
    ap (λ l. record { u = slice_index words 3; v = slice_index words 5; h = l; a = slice_index words 12; b = slice_index words 14; c = bit_xor c.mul_fast.result (slice_index words 15) }) h
    ∙ ap (λ n. record { u = slice_index words 3; v = slice_index words 5; h = plus_of bit_xor (times_of 0 bit_xor product (honest_f c.args.m c.args.r words) (honest_g c.args.m c.args.r c.args.s words)) (zero_share words).h; a = slice_index words 12; b = slice_index words 14; c = bit_xor n (slice_index words 15) }) c.mul_fast.ensures
