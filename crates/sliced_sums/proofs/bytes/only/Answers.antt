use Rattle.std.proofs.Common.{◌<◌, ◌^◌, ◌%◌, ◌*◌, ap, ◌∙◌, arith, replicate, get_or, length}
use Rattle.std.specs.Prelude.{bit_and}
use Rattle.std.proofs.lemmas.Nat.{one_shl}
use Rattle.std.proofs.lemmas.Nat.Bits.{and_pow}
use Rattle.std.proofs.lemmas.Simd.{get_or-zip2, get_or-replicate, length-replicate}
use Rattle.sliced_sums.proofs.bytes.only.Goals as goal

pub returns : goal.returns
returns c i h =
    let one = (1 * 2 ^ c.args.bit) % 2 ^ 8 in
    let inside : i < length (replicate 64 one) = omega (arith, length-replicate 64 one) in
    get_or-zip2 bit_and c.args.block (replicate 64 one) i 0 0 0 (omega (arith, c.fits-block.0)) inside
    ∙ ap (bit_and (get_or c.args.block i 0)) (get_or-replicate 64 i one 0 h ∙ one_shl c.args.bit 8 c.requires)
    ∙ and_pow (get_or c.args.block i 0) c.args.bit
