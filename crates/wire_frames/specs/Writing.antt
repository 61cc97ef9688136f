-- What writing into a buffer leaves.
use Rattle.std.specs.Prelude.{◌≡◌, ℕ, ◌+◌, ◌≤◌, List, ◌++◌, length, take, drop}

-- the text stands from its place to the end, and all else is as it was
pub record Writes (old : List ℕ) (place : ℕ) (text new : List ℕ) (end : ℕ) : Type 0 where
  pub written : new ≡ take place old ++ (text ++ drop end old)
  pub ends : end ≡ place + length text
  pub room : end ≤ length old
