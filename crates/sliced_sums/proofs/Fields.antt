-- Bits of numbers that stand side by side, in bytes and in words.
use Rattle.std.specs.Prelude.{◌≡◌, ℕ, ◌+◌, ◌*◌, ◌/◌, ◌%◌, ◌^◌, ◌<◌, [], ◌∷◌, slice_index, refl}
use Rattle.std.proofs.Common.{zero, suc, sym, ◌∙◌, ap, arith}
use Rattle.std.specs.Int.{bit_at}
use Rattle.std.proofs.lemmas.Nat.{shr-shr, mod-pow-add}
use Rattle.sliced_sums.specs.Places.{bit_of}

-- a field of h + h bits by its halves
pub field_joined : (n from h : ℕ) → (n / 2 ^ (from + h) % 2 ^ h) * 2 ^ h + n / 2 ^ from % 2 ^ h ≡ n / 2 ^ from % 2 ^ (h + h)
field_joined n from h =
    ap (λ m. m % 2 ^ h * 2 ^ h + n / 2 ^ from % 2 ^ h) (sym (shr-shr n from h)) ∙ sym (mod-pow-add (n / 2 ^ from) h h)

by_group : (a b c d : ℕ) (f : ℕ → ℕ) → ((i : ℕ) → i < 64 → bit_at a i ≡ f (0 + i)) → ((i : ℕ) → i < 64 → bit_at b i ≡ f (64 + i))
    → ((i : ℕ) → i < 64 → bit_at c i ≡ f (128 + i)) → ((i : ℕ) → i < 64 → bit_at d i ≡ f (192 + i))
    → (j : ℕ) → j < 256 → (q : ℕ) → j / 64 ≡ q → bit_of (a ∷ (b ∷ (c ∷ (d ∷ [])))) j ≡ f j
by_group a b c d f pa pb pc pd j h zero e = ap (λ q. bit_at (slice_index (a ∷ (b ∷ (c ∷ (d ∷ [])))) q) (j % 64)) e ∙ pa (j % 64) (omega arith) ∙ ap f (omega arith)
by_group a b c d f pa pb pc pd j h (suc zero) e = ap (λ q. bit_at (slice_index (a ∷ (b ∷ (c ∷ (d ∷ [])))) q) (j % 64)) e ∙ pb (j % 64) (omega arith) ∙ ap f (omega arith)
by_group a b c d f pa pb pc pd j h (suc (suc zero)) e = ap (λ q. bit_at (slice_index (a ∷ (b ∷ (c ∷ (d ∷ [])))) q) (j % 64)) e ∙ pc (j % 64) (omega arith) ∙ ap f (omega arith)
by_group a b c d f pa pb pc pd j h (suc (suc (suc zero))) e = ap (λ q. bit_at (slice_index (a ∷ (b ∷ (c ∷ (d ∷ [])))) q) (j % 64)) e ∙ pd (j % 64) (omega arith) ∙ ap f (omega arith)
by_group a b c d f pa pb pc pd j h (suc (suc (suc (suc q)))) e = absurd (omega arith)

-- four words, each with the bits of 64 places
pub by_words : (a b c d : ℕ) (f : ℕ → ℕ) → ((i : ℕ) → i < 64 → bit_at a i ≡ f (0 + i)) → ((i : ℕ) → i < 64 → bit_at b i ≡ f (64 + i))
    → ((i : ℕ) → i < 64 → bit_at c i ≡ f (128 + i)) → ((i : ℕ) → i < 64 → bit_at d i ≡ f (192 + i))
    → (j : ℕ) → j < 256 → bit_of (a ∷ (b ∷ (c ∷ (d ∷ [])))) j ≡ f j
by_words a b c d f pa pb pc pd j h = by_group a b c d f pa pb pc pd j h (j / 64) refl
