-- The bits of words that were added or multiplied place by place.
use Rattle.std.specs.Prelude.{◌≡◌, ℕ, ◌*◌, ◌/◌, ◌%◌, ◌^◌, ◌<◌, List, length, slice_index, bit_and, bit_xor, refl}
use Rattle.std.proofs.Common.{zero, suc, sym, ◌∙◌, ap, arith}
use Rattle.std.specs.Int.{bit_at}
use Rattle.std.proofs.lemmas.Nat.{xor_shr, xor_mod}
use Rattle.std.proofs.lemmas.Nat.Bits.{bit_at-lt, bit_at_and}
use Rattle.std.specs.Simd.Lanes.{zip2}
use Rattle.std.proofs.lemmas.Simd.{length-zip2, get_or-zip2}
use Prim.Native.Nat.{min}
use Rattle.sliced_sums.specs.Places.{bit_of}

pub bit_of_sum : (a b i : ℕ) → bit_at (bit_xor a b) i ≡ bit_xor (bit_at a i) (bit_at b i)
bit_of_sum a b i = ap (λ n. n % 2) (xor_shr a b i) ∙ xor_mod (a / 2 ^ i) (b / 2 ^ i) 1

min_of_bits : (a b : ℕ) → a < 2 → b < 2 → min a b ≡ a * b
min_of_bits zero zero h i = refl
min_of_bits zero (suc zero) h i = refl
min_of_bits (suc zero) zero h i = refl
min_of_bits (suc zero) (suc zero) h i = refl
min_of_bits (suc (suc a)) b h i = absurd (omega arith)
min_of_bits a (suc (suc b)) h i = absurd (omega arith)

bit_of_and : (a b i : ℕ) → bit_at (bit_and a b) i ≡ bit_at a i * bit_at b i
bit_of_and a b i = bit_at_and a b i ∙ min_of_bits (bit_at a i) (bit_at b i) (bit_at-lt a i) (bit_at-lt b i)

pub summed : (xs ys : List ℕ) → length xs ≡ 4 → length ys ≡ 4 → (j : ℕ) → j < 256 → bit_of (zip2 bit_xor xs ys) j ≡ bit_xor (bit_of xs j) (bit_of ys j)
summed xs ys h i j inside =
    ap (λ w. bit_at w (j % 64)) (get_or-zip2 bit_xor xs ys (j / 64) 0 0 0 (omega arith) (omega arith)) ∙ bit_of_sum (slice_index xs (j / 64)) (slice_index ys (j / 64)) (j % 64)

pub multiplied : (xs ys : List ℕ) → length xs ≡ 4 → length ys ≡ 4 → (j : ℕ) → j < 256 → bit_of (zip2 bit_and xs ys) j ≡ bit_of xs j * bit_of ys j
multiplied xs ys h i j inside =
    ap (λ w. bit_at w (j % 64)) (get_or-zip2 bit_and xs ys (j / 64) 0 0 0 (omega arith) (omega arith)) ∙ bit_of_and (slice_index xs (j / 64)) (slice_index ys (j / 64)) (j % 64)

pub same_length : (f : ℕ → ℕ → ℕ) (xs ys : List ℕ) → length xs ≡ 4 → length ys ≡ 4 → length (zip2 f xs ys) ≡ 4
same_length f xs ys h i = length-zip2 f xs ys (h ∙ sym i) ∙ h
