-- Sums of lists of bytes.
use Rattle.std.proofs.Common.{◌≡◌, ◌<◌, ◌≤◌, ℕ, zero, suc, List, [], ◌∷◌, length, get_or, replicate, refl, sym, ◌∙◌, ap, ap₂, arith, bit_xor}
use Rattle.std.specs.Int.Bits.{xor_assoc, xor_self, xor_zero_r}
use Rattle.std.proofs.lemmas.Nat.{xor_comm}
use Rattle.express_words.specs.Bytes.{xor_bytes}

pub xor_nil : (xs : List ℕ) → xor_bytes xs [] ≡ xs
unfolding xor_bytes
xor_nil [] = refl
xor_nil (x ∷ xs) = refl

pub xor_bytes_comm : (xs ys : List ℕ) → xor_bytes xs ys ≡ xor_bytes ys xs
unfolding xor_bytes
xor_bytes_comm [] ys = sym (xor_nil ys)
xor_bytes_comm (x ∷ xs) [] = refl
xor_bytes_comm (x ∷ xs) (y ∷ ys) = ap₂ (λ z zs. z ∷ zs) (xor_comm x y) (xor_bytes_comm xs ys)

pub xor_bytes_assoc : (xs ys zs : List ℕ) → xor_bytes (xor_bytes xs ys) zs ≡ xor_bytes xs (xor_bytes ys zs)
unfolding xor_bytes
xor_bytes_assoc [] ys zs = refl
xor_bytes_assoc (x ∷ xs) [] zs = refl
xor_bytes_assoc (x ∷ xs) (y ∷ ys) [] = refl
xor_bytes_assoc (x ∷ xs) (y ∷ ys) (z ∷ zs) = ap₂ (λ w ws. w ∷ ws) (xor_assoc x y z) (xor_bytes_assoc xs ys zs)

pub xor_bytes_exchange : (a b c d : List ℕ)
    → xor_bytes (xor_bytes a b) (xor_bytes c d) ≡ xor_bytes (xor_bytes a c) (xor_bytes b d)
xor_bytes_exchange a b c d =
    xor_bytes_assoc a b (xor_bytes c d)
    ∙ ap (xor_bytes a)
    (sym (xor_bytes_assoc b c d) ∙ ap (λ l. xor_bytes l d) (xor_bytes_comm b c) ∙ xor_bytes_assoc c b d)
    ∙ sym (xor_bytes_assoc a c (xor_bytes b d))

pub xor_bytes_self : (xs : List ℕ) → xor_bytes xs xs ≡ replicate (length xs) 0
unfolding xor_bytes
xor_bytes_self [] = refl
xor_bytes_self (x ∷ xs) = rw (xor_self x, xor_bytes_self xs) refl

-- zeros add nothing
pub xor_bytes_zeros : (xs : List ℕ) (n : ℕ) → length xs ≡ n → xor_bytes xs (replicate n 0) ≡ xs
unfolding xor_bytes
xor_bytes_zeros [] zero h = refl
xor_bytes_zeros [] (suc n) h = absurd (omega arith)
xor_bytes_zeros (x ∷ xs) zero h = absurd (omega arith)
xor_bytes_zeros (x ∷ xs) (suc n) h = rw (xor_zero_r x, xor_bytes_zeros xs n (omega arith)) refl

pub zeros_xor_bytes : (n : ℕ) (ys : List ℕ) → length ys ≡ n → xor_bytes (replicate n 0) ys ≡ ys
zeros_xor_bytes n ys h = xor_bytes_comm (replicate n 0) ys ∙ xor_bytes_zeros ys n h

-- a sum is as long as the longer list
pub length-xor_bytes_longer : (xs ys : List ℕ) → length ys ≤ length xs → length (xor_bytes xs ys) ≡ length xs
unfolding xor_bytes
length-xor_bytes_longer [] [] h = refl
length-xor_bytes_longer [] (y ∷ ys) h = absurd (omega arith)
length-xor_bytes_longer (x ∷ xs) [] h = refl
length-xor_bytes_longer (x ∷ xs) (y ∷ ys) h = ap suc (length-xor_bytes_longer xs ys (omega arith))

pub length-xor_bytes : (xs ys : List ℕ) → length xs ≡ length ys → length (xor_bytes xs ys) ≡ length xs
length-xor_bytes xs ys h = length-xor_bytes_longer xs ys (omega arith)

pub get_or-xor_bytes : (xs ys : List ℕ) (k : ℕ) → length xs ≡ length ys → k < length xs
    → get_or (xor_bytes xs ys) k 0 ≡ bit_xor (get_or xs k 0) (get_or ys k 0)
unfolding xor_bytes
get_or-xor_bytes [] ys k h l = absurd (omega arith)
get_or-xor_bytes (x ∷ xs) [] k h l = absurd (omega arith)
get_or-xor_bytes (x ∷ xs) (y ∷ ys) zero h l = refl
get_or-xor_bytes (x ∷ xs) (y ∷ ys) (suc k) h l = get_or-xor_bytes xs ys k (omega arith) (omega arith)
