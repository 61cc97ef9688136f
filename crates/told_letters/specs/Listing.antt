-- Letters in the order in which something became so of them, as pieces became known.
use Rattle.std.specs.Prelude.{◌≡◌, ◌≢◌, ◌⊎◌, ◌∷◌, ◌++◌, [], ℕ, List, take, All, AllPairs}
use Rattle.std.specs.List.{Contains}
use Rattle.letter_pieces.specs.Pieces.{Piece}
use Rattle.told_letters.specs.declared.heading.Heading.{Heading}

pub record AreListed (P : List Piece → Heading → Type 0) (known : List Piece) (headings : List Heading) : Type
    0 where
  -- exactly those of which it is so are listed, each once
  pub sound : All (P known) headings
  pub complete : (h : Heading) → P known h → Contains headings h
  pub once : AllPairs (λ g h. g ≢ h) headings
  -- as soon as it was so of one, it was so of all that are listed before it
  pub order : AllPairs (λ g h. (n : ℕ) → P (take n known) h → P (take n known) g) headings

-- a heading is put behind others, unless it is one of them
abbrev pub IsAdded : Heading → List Heading → List Heading → Type 0
IsAdded h old new = (Contains old h × (new ≡ old)) ⊎ ((Contains old h → ⊥) × (new ≡ old ++ h ∷ []))
