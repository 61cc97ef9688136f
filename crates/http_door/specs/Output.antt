-- What is put into a buffer.
use Rattle.std.specs.Prelude.{◌≡◌, ℕ, ◌+◌, ◌≤◌, List, ◌++◌, length, take, drop}

-- the bytes were put behind the first `at`, up to n; those before and behind them stay
pub record IsPutAt (old new : List ℕ) (at : ℕ) (bytes : List ℕ) (n : ℕ) : Type 0 where
  pub end : n ≡ at + length bytes
  pub fits : n ≤ length old
  pub text : take n new ≡ take at old ++ bytes
  pub behind : drop n new ≡ drop n old

-- the buffer's first n bytes are the text, and those behind it stay
pub record IsPut (old new wanted : List ℕ) (n : ℕ) : Type 0 where
  pub end : n ≡ length wanted
  pub fits : n ≤ length old
  pub text : take n new ≡ wanted
  pub behind : drop n new ≡ drop n old
