use Rattle.std.proofs.Common.{◌==◌, ◌^◌, ◌*◌, ◌%◌, cond, get_or, ap, ◌∙◌}
use Rattle.std.specs.Int.{bit_at}
use Rattle.std.proofs.lemmas.Nat.{one_shl}
use Rattle.std.proofs.lemmas.Nat.Bits.{bit_at-lt}
use Rattle.sliced_sums.proofs.Filled.{flag_of}
use Rattle.sliced_sums.proofs.bytes.bits_of.Goals as goal

pub returns : goal.returns
returns c i h =
    let block = c.args.block in
    let bit = c.args.bit in
    c.equal_to.ensures i h
    ∙ ap (λ n. cond (n == (1 * 2 ^ bit) % 2 ^ 8) 1 0) (c.only.ensures i h)
    ∙ ap (λ n. cond (bit_at (get_or block i 0) bit * 2 ^ bit == n) 1 0) (one_shl bit 8 c.requires)
    ∙ flag_of (bit_at (get_or block i 0) bit) bit (bit_at-lt (get_or block i 0) bit)
