-- The product with the base by two nibbles, for each of the 256 numbers of level 3.
use Rattle.std.specs.Prelude.{◌≡◌, ℕ, ◌/◌, ◌%◌, ◌<◌, ◌==◌, Bool, true, ◌&&◌, slice_index, bit_xor, refl}
use Rattle.std.proofs.Common.{zero, suc, inl, inr, subst, sym, arith}
use Rattle.std.proofs.lemmas.Bool.{cases_eq}
use borrow.Author.Tests.{eqb-true}
use Rattle.tower_numbers.specs.Levels.{product_at, twist_at}
use Rattle.field_tables.specs.declared.tables.TheConstants.{OF_LOW, OF_HIGH}
use Rattle.field_tables.proofs.Logarithms.{from_and}

by_nibbles : ℕ → ℕ
by_nibbles a = bit_xor (slice_index OF_LOW (a % 16)) (slice_index OF_HIGH (a / 16))

agree_below : ℕ → Bool
agree_below zero = true
agree_below (suc a) = (by_nibbles a == product_at 3 a 128) && agree_below a

agree : agree_below 256 ≡ true
unfolding agree_below by_nibbles product_at twist_at
agree = refl

from_agree : (n : ℕ) → agree_below n ≡ true → (a : ℕ) → a < n → by_nibbles a ≡ product_at 3 a 128
unfolding agree_below
from_agree zero h a l = absurd (omega arith)
from_agree (suc n) h a l =
    let parts = from_and (by_nibbles n == product_at 3 n 128) (agree_below n) h in
    elim (cases_eq a n) [
      | inl e ↦ subst (λ k. by_nibbles k ≡ product_at 3 k 128) (sym e) (eqb-true _ _ parts.0)
      | inr apart ↦ from_agree n parts.1 a (omega arith)
    ]

pub nibbles_give : (a : ℕ) → a < 256 → bit_xor (slice_index OF_LOW (a % 16)) (slice_index OF_HIGH (a / 16)) ≡ product_at 3 a 128
unfolding by_nibbles
nibbles_give a h = from_agree 256 agree a h
