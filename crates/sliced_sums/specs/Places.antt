-- Bits of 256 places in four words, bytes of 256 numbers, and sums over places.
use Rattle.std.specs.Prelude.{◌≡◌, ℕ, ◌*◌, ◌/◌, ◌%◌, ◌^◌, ◌<◌, List, [], slice_index, slice_index_or, bit_xor}
use Rattle.std.specs.Int.{bit_at}
use Rattle.std.proofs.Common.{zero, suc}

-- the bit at a place, of words that have 64 places each
abbrev pub bit_of : List ℕ → ℕ → ℕ
bit_of words j = bit_at (slice_index words (j / 64)) (j % 64)

-- the sum of the values at the first n places
unfoldable pub sum_over : ℕ → (ℕ → ℕ) → ℕ
sum_over zero f = 0
sum_over (suc n) f = bit_xor (f 0) (sum_over n (λ j. f (suc j)))

-- list b has byte b of each number
abbrev pub AreBytesOf : List (List ℕ) → List ℕ → Type 0
AreBytesOf bytes numbers =
    (b j : ℕ) → b < 16 → j < 256
    → slice_index (slice_index_or bytes b []) j ≡ slice_index numbers j / 2 ^ (8 * b) % 2 ^ 8
