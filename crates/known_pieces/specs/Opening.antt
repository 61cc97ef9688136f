-- How a reading is opened, and what is known then.
use Rattle.std.specs.Prelude.{◌≡◌, ◌⊎◌, ℕ, ◌≤◌, List, [], ◌∷◌, ◌++◌, true, length}
use Rattle.std.specs.List.{Contains, AllZip}
use Rattle.subset_search.specs.Subsets.{added, IsSubset}
use Rattle.known_pieces.specs.Known.{Reading, IsPiece, Names, most_tried}
use Rattle.known_pieces.specs.Telling.{KnownPiece, bytes_of, is_awaited, tried_at, IsEmpty}

-- what a subset is sought for: nothing is left, or a piece that is none of those that are tried
abbrev pub IsFound : List (List ℕ) → List ℕ → Type 0
IsFound tried sum = IsEmpty sum ⊎ (IsPiece sum × (Contains tried sum → ⊥))

-- a known piece that is no longer awaited at the address, if it is one of the parts
pub record IsMarked (address : ℕ) (parts : List (List ℕ)) (old new : KnownPiece) : Type 0 where
  pub bytes : new.bytes ≡ old.bytes
  pub fewer : (a : ℕ) → is_awaited a new ≡ true → is_awaited a old ≡ true
  pub only : (a : ℕ) → is_awaited a old ≡ true → (is_awaited a new ≡ true)
      ⊎ ((a ≡ address) × Contains parts old.bytes)

abbrev pub AreMarked : ℕ → List (List ℕ) → List KnownPiece → List KnownPiece → Type 0
AreMarked address parts old new = AllZip (IsMarked address parts) old new

-- a piece that became known at an address: it is awaited at the others that it names
pub record IsNew (addresses address : ℕ) (bytes : List ℕ) (piece : KnownPiece) : Type 0 where
  pub is : piece.bytes ≡ bytes
  pub named : (a : ℕ) → is_awaited a piece ≡ true → Names addresses a bytes
  pub awaits : (a : ℕ) → Names addresses a bytes → (is_awaited a piece ≡ true) ⊎ (a ≡ address)

-- a sum that holds a piece that isn't known is put to those that are
abbrev pub IsAdmitted : ℕ → ℕ → List ℕ → List KnownPiece → List KnownPiece → Type 0
IsAdmitted addresses address sum old new =
    ((IsPiece sum → Contains (bytes_of old) sum) × (new ≡ old))
    ⊎ (IsPiece sum × (Contains (bytes_of old) sum → ⊥)
    × ((piece : KnownPiece) × IsNew addresses address sum piece × (new ≡ old ++ piece ∷ [])))

-- a reading is opened by some of the pieces that are tried at its address
pub record Opens (addresses : ℕ) (reading : Reading) (old new : List KnownPiece) : Type 0 where
  pub parts : List (List ℕ)
  pub tried : IsSubset parts (tried_at reading.address old)
  pub most : length parts ≤ most_tried
  pub found : IsFound (tried_at reading.address old) (added reading.bytes parts)
  pub marked : List KnownPiece
  pub marks : AreMarked reading.address parts old marked
  pub admits : IsAdmitted addresses reading.address (added reading.bytes parts) marked new
