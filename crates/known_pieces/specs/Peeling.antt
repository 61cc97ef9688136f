-- Letters that met in boxes, as a table that is peeled (Goodrich and Mitzenmacher, "Invertible Bloom lookup
-- tables", 2011): a piece that lies alone in a box is taken out of the others.
use Rattle.std.specs.Prelude.{◌≡◌, ◌≢◌, ◌↔◌, ℕ, suc, ◌<◌, ◌≤◌, ◌+◌, List, [], length, map, take, replicate}
use Rattle.std.specs.Prelude.{slice_index_or, All, AllPairs}
use Rattle.std.specs.List.{Contains}
use Rattle.subset_search.specs.Subsets.{added}
use Rattle.known_pieces.specs.Known.{Reading, Names, IsKnown, most_tried}
use Rattle.known_pieces.specs.Telling.{Told, IsEmpty, awaited_at}

-- a box as it was read: the pieces that were put into it since it was read before
pub record Box : Type 0 where
  pub address : ℕ
  pub pieces : List (List ℕ)

-- their sum
abbrev pub reading_of : ℕ → Box → Reading
reading_of width box = record { address = box.address; bytes = added (replicate width 0) box.pieces }

abbrev pub readings_of : ℕ → List Box → List Reading
readings_of width boxes = map (reading_of width) boxes

-- that piece was put into a box
abbrev pub IsPut : List Box → List ℕ → Type 0
IsPut boxes piece = (b : Box) × Contains boxes b × Contains b.pieces piece

-- A table: each piece is at an address that it names, and nowhere twice.
pub record IsTable (addresses width : ℕ) (boxes : List Box) : Type 0 where
  pub named : (b : Box) → Contains boxes b → All (Names addresses b.address) b.pieces
  pub wide : (b : Box) → Contains boxes b → All (λ p. length p ≡ width) b.pieces
  pub apart : (b : Box) → Contains boxes b → AllPairs (λ p q. p ≢ q) b.pieces
  pub once : (b c : Box) (p : List ℕ) → Contains boxes b → Contains boxes c → b.address ≡ c.address
      → Contains b.pieces p → Contains c.pieces p → b ≡ c

-- No box is also the sum of other known pieces, of as many as are looked for in one: with digests on them,
-- one that is was made by finding sums of digests that collide.
abbrev pub HasOneSum : ℕ → ℕ → List Box → Type 0
HasOneSum addresses width boxes =
    (b : Box) (parts : List (List ℕ)) → Contains boxes b → AllPairs (λ p q. p ≢ q) parts
    → length parts ≤ most_tried + 1
    → All (IsKnown addresses (readings_of width boxes)) parts
    → IsEmpty (added (added (replicate width 0) b.pieces) parts)
    → (p : List ℕ) → Contains parts p ↔ Contains b.pieces p

-- Each piece of the order lies in a box with none but pieces before it.
abbrev pub Peels : List Box → List (List ℕ) → Type 0
Peels boxes order =
    (k : ℕ) → k < length order
    → (b : Box) × Contains boxes b × Contains b.pieces (slice_index_or order k [])
    × All (Contains (take (suc k) order)) b.pieces

-- At each address so few pieces are awaited that all of them are tried.
abbrev pub FewAreAwaited : Told → Type 0
FewAreAwaited told = (address : ℕ) → length (awaited_at address told.known) ≤ most_tried
