-- Which words name a port.
use Rattle.std.proofs.Common.{◌≡◌, ◌≤◌, ℕ, List, Ok, Err, Result, arith}
use Rattle.std.specs.Fmt.{decimal}
use Rattle.std.specs.Str.Parse.{ParsesUnsigned}
use Rattle.std.proofs.lemmas.Fmt.{parse-decimal}

-- what reads the digits of a port reads no other number
pub parsed : {E : Type 0} (text : List ℕ) (n : ℕ) (r : Result ℕ E) → ParsesUnsigned 16 10 text r → n ≤ 65534 → text ≡ decimal n → r ≡ Ok n
parsed text n r parses small same = parse-decimal 16 n text r (omega (arith, small)) (omega (arith, small)) same parses

same_ok : {E : Type 0} (r : Result ℕ E) (m n : ℕ) → r ≡ Ok m → r ≡ Ok n → m ≡ n
same_ok r m n first second = cc

-- digits that can't be read are those of no port
pub unread : {E : Type 0} (text : List ℕ) (n : ℕ) (r : Result ℕ E) (e : E) → ParsesUnsigned 16 10 text r → r ≡ Err e → n ≤ 65534 → text ≡ decimal n → ⊥
unread text n r e parses fails small same = let read = parsed text n r parses small same in cc

-- what was read is the port whose digits they are
pub read_is : {E : Type 0} (text : List ℕ) (m n : ℕ) (r : Result ℕ E) → ParsesUnsigned 16 10 text r → r ≡ Ok m → n ≤ 65534 → text ≡ decimal n → m ≡ n
read_is text m n r parses is small same = same_ok r m n is (parsed text n r parses small same)
