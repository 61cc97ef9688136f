use Rattle.std.proofs.Common.{ℕ, eqb, false, map, cond, ap, ◌∙◌, arith, w8}
use Rattle.std.specs.Int.{bit_at}
use Rattle.std.proofs.lemmas.Simd.{bitmask_splat, bit_mask_l}
use Rattle.std.proofs.lemmas.List.{get_or-map}
use Rattle.sliced_sums.proofs.bytes.equal_to.Goals as goal

pub returns : goal.returns
returns c i h =
    let p = λ (x : ℕ). eqb x c.args.byte in
    ap (λ n. bit_at n i) (bitmask_splat w8 eqb c.args.v 64 c.args.byte c.fits-v.0 (omega arith))
    ∙ bit_mask_l (map p c.args.v) i
    ∙ ap (λ b. cond b 1 0) (get_or-map p c.args.v i 0 false (omega (arith, c.fits-v.0)))
