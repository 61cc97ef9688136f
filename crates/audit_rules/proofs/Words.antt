-- The places of a list of numbers of the field.
use Rattle.std.specs.Prelude.{ℕ, ◌<◌, ◌^◌, List, [], ◌∷◌, All, slice_index}
use Rattle.std.proofs.Common.{zero, suc, lit<}
use Rattle.std.proofs.lemmas.List.Elements.{All-head, All-tail}

-- each place of a list of numbers of the field gives such a number, past its end zero
pub word_in_range : (words : List ℕ) → All (λ n. n < 2 ^ 128) words → (k : ℕ) → slice_index words k < 2 ^ 128
word_in_range [] h k = lit< tt
word_in_range (x ∷ xs) h zero = All-head (λ n. n < 2 ^ 128) x xs h
word_in_range (x ∷ xs) h (suc k) = word_in_range xs (All-tail (λ n. n < 2 ^ 128) x xs h) k
