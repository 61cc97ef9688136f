-- The sizes of an evaluation's arrays.
use Rattle.std.specs.Prelude.{◌≡◌, ◌≤◌, ℕ, vec_capacity}
use Rattle.dpf_eval.specs.declared.entries.Entries.{Entries}

-- room for a number of entries
pub record HasRoom (entries : Entries) (size : ℕ) : Type 0 where
  pub boxes : size ≤ vec_capacity entries.boxes
  pub addresses : size ≤ vec_capacity entries.addresses
  pub splits : size ≤ vec_capacity entries.splits

-- the arrays of a descent have one length
pub record AreAsLong (states nodes pairs : ℕ) : Type 0 where
  pub nodes_same : nodes ≡ states
  pub pairs_same : pairs ≡ states
