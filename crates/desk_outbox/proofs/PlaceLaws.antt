-- Bytes that are no place's.
use Rattle.std.proofs.Common.{◌≤◌, Bool, true, false, arith}
use Rattle.desk_tries.specs.declared.sending.LetterEnd.TheVariants as end
use Rattle.desk_tries.specs.declared.sending.Next.{Next}
use Rattle.desk_tries.specs.declared.sending.Next.TheVariants as next
use Rattle.desk_outbox.specs.Places.{bit_of, code_of}

pub few_codes : (n : Next) → code_of n ≤ 5
few_codes next.GoOn = omega arith
few_codes next.SameAgain = omega arith
few_codes next.NewTry = omega arith
few_codes next.NextAddress = omega arith
few_codes (next.Stop end.Written) = omega arith
few_codes (next.Stop end.NotWritten) = omega arith
few_codes (next.Stop end.MaybeWritten) = omega arith

pub few_bits : (b : Bool) → bit_of b ≤ 1
few_bits true = omega arith
few_bits false = omega arith
