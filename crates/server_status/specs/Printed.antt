-- A line that a terminal shows.
use Rattle.std.specs.Prelude.{ℕ, ◌≡◌, List, [], ◌∷◌, ◌++◌, Bool, ◌&&◌, IsTrue, nat_le, nat_lt}
use Rattle.std.specs.List.{list_all}

-- from the space to the tilde
abbrev pub is_printed : ℕ → Bool
is_printed byte = nat_le 32 byte && nat_lt byte 127

abbrev pub are_printed : List ℕ → Bool
are_printed bytes = list_all is_printed bytes

-- The bytes are this line, of printed ASCII alone, and its end.
pub record IsLineOf (bytes line : List ℕ) : Type 0 where
  pub ended : bytes ≡ line ++ 10 ∷ []
  pub printed : IsTrue (are_printed line)
