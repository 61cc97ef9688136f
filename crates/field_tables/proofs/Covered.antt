-- The first 255 powers of 128 are the numbers from 1 to 255, each once: by computing them.
use Rattle.std.specs.Prelude.{◌≡◌, ℕ, List, [], ◌∷◌, Bool, true, false, cond, ◌&&◌, ◌==◌, not, refl}
use Rattle.std.proofs.Common.{zero, suc}
use Rattle.tower_numbers.specs.Levels.{product_at, twist_at}
use Rattle.field_tables.specs.Powers.{power_of}

-- n powers, from x on
unfoldable pub powers : ℕ → ℕ → List ℕ
powers zero x = []
powers (suc n) x = x ∷ powers n (product_at 3 x 128)

unfoldable pub has : ℕ → List ℕ → Bool
has a [] = false
has a (x ∷ xs) = cond (a == x) true (has a xs)

-- the list has each number from 1 to n
unfoldable pub covers : ℕ → List ℕ → Bool
covers zero xs = true
covers (suc n) xs = has (suc n) xs && covers n xs

unfoldable pub all_differ : List ℕ → Bool
all_differ [] = true
all_differ (x ∷ xs) = not (has x xs) && all_differ xs

pub covered : covers 255 (powers 255 1) ≡ true
unfolding covers powers has product_at twist_at
covered = refl

pub differ : all_differ (powers 255 1) ≡ true
unfolding all_differ powers has product_at twist_at
differ = refl

pub no_zero : has 0 (powers 255 1) ≡ false
unfolding powers has product_at twist_at
no_zero = refl

pub log_of_twist : power_of 120 ≡ twist_at 3
unfolding power_of product_at twist_at
log_of_twist = refl
