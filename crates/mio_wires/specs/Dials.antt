-- The connection that the server dials.
use Rattle.std.specs.Prelude.{ℕ, ◌+◌, ◌-◌, ◌^◌, min, nat_le, Bool, true, false, not, ◌&&◌, List, [], ◌∷◌, ◌++◌}

-- when connects were begun, whether one of them is under way, and from when on the next one may be begun
pub record Dial : Type 0 where
  pub begun : List ℕ
  pub under_way : Bool
  pub next : ℕ

-- a connect is begun now: none is under way, and the last one was begun a second ago
abbrev pub is_due : Dial → ℕ → Bool
is_due d now = not d.under_way && nat_le d.next now

abbrev pub begun_if : Bool → List ℕ → ℕ → List ℕ
begun_if true before now = before ++ now ∷ []
begun_if false before now = before

-- a second behind a moment, in milliseconds
abbrev pub a_second_after : ℕ → ℕ
a_second_after now = min (now + 1000) (2 ^ 64 - 1)

abbrev pub next_if : Bool → ℕ → ℕ → ℕ
next_if true before now = a_second_after now
next_if false before now = before
