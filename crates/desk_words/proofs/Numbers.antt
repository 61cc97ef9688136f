-- A number is read as no other.
use Rattle.std.proofs.Common.{◌≡◌, ◌<◌, ◌^◌, ℕ, Ok, Err, Result, arith}
use Rattle.std.specs.Fmt.{decimal}
use Rattle.std.specs.Str.Parse.{ParsesUnsigned}
use Rattle.std.proofs.lemmas.Fmt.{parse-decimal}
use Rattle.clap.specs.Words.{Text}

parsed : {E : Type 0} (text : Text) (n : ℕ) (r : Result ℕ E) → ParsesUnsigned 32 10 text r → n < 2 ^ 32 → text ≡ decimal n → r ≡ Ok n
parsed text n r parses small same = parse-decimal 32 n text r (omega (arith, small)) (omega (arith, small)) same parses

same_ok : {E : Type 0} (r : Result ℕ E) (m n : ℕ) → r ≡ Ok m → r ≡ Ok n → m ≡ n
same_ok r m n h k = cc

pub unread : {E : Type 0} (text : Text) (n : ℕ) (r : Result ℕ E) (e : E) → ParsesUnsigned 32 10 text r → r ≡ Err e → n < 2 ^ 32 → text ≡ decimal n → ⊥
unread text n r e parses fails small same = let read = parsed text n r parses small same in cc

pub number_is : {E : Type 0} (text : Text) (m n : ℕ) (r : Result ℕ E) → ParsesUnsigned 32 10 text r → r ≡ Ok m → n < 2 ^ 32 → text ≡ decimal n → m ≡ n
number_is text m n r parses is small same = same_ok r m n is (parsed text n r parses small same)
