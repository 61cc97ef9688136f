-- What a reader of a card's boxes tells.
use Rattle.std.specs.Prelude.{◌≡◌, ◌≢◌, ℕ, List, length, All, AllPairs}
use Rattle.known_pieces.specs.Known.{Reading}
use Rattle.known_pieces.specs.Telling.{KnownPiece, Told, bytes_of}

-- readings of boxes of one width
abbrev pub AreBoxes : ℕ → List Reading → Type 0
AreBoxes width readings = All (λ r. length r.bytes ≡ width) readings

-- known pieces from boxes of one width, each of them once
pub record AreApart (width : ℕ) (known : List KnownPiece) : Type 0 where
  pub wide : All (λ p. length p.bytes ≡ width) known
  pub once : AllPairs (λ p q. p ≢ q) (bytes_of known)

-- these pieces are known, and these readings are left
abbrev pub told_as : List KnownPiece → List Reading → Told
told_as known left = record { known = known; left = left }
