-- What a frontier holds.
use Rattle.std.specs.Prelude.{ℕ, List}

-- the addresses in order of their boxes, and how many there may be
pub record Listing : Type 0 where
  pub addresses : List ℕ
  pub limit : ℕ
