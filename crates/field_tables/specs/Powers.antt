-- The powers of 128 at level 3.
use Rattle.std.specs.Prelude.{ℕ}
use Rattle.std.proofs.Common.{zero, suc}
use Rattle.tower_numbers.specs.Levels.{product_at}

unfoldable pub power_of : ℕ → ℕ
power_of zero = 1
power_of (suc i) = product_at 3 (power_of i) 128
