-- What a reader tells of readings.
use Rattle.std.specs.Prelude.{◌≡◌, ◌≢◌, ◌⊎◌, ℕ, ◌≤◌, ◌+◌, ◌-◌, List, Bool, true, false, length, map, drop}
use Rattle.std.specs.Prelude.{replicate, slice_index_or, All, AllPairs}
use Rattle.std.specs.List.{Contains, filter}
use Rattle.subset_search.specs.Subsets.{added, IsSubset, HasNone}
use Rattle.known_pieces.specs.Known.{Reading, IsPiece, Names, AreKnown, most_tried}

-- a known piece, and at which addresses of those that it names no reading was found to hold it
pub record KnownPiece : Type 0 where
  pub bytes : List ℕ
  pub awaited : List Bool

-- what is told: the known pieces in the order in which they became known, and the readings that aren't opened
pub record Told : Type 0 where
  pub known : List KnownPiece
  pub left : List Reading

abbrev pub bytes_of : List KnownPiece → List (List ℕ)
bytes_of known = map (λ k. k.bytes) known

abbrev pub pieces_in : Told → List (List ℕ)
pieces_in told = bytes_of told.known

abbrev pub is_awaited : ℕ → KnownPiece → Bool
is_awaited address piece = slice_index_or piece.awaited address false

-- the known pieces that are awaited at an address, the newest last
abbrev pub awaited_at : ℕ → List KnownPiece → List (List ℕ)
awaited_at address known = bytes_of (filter (is_awaited address) known)

-- those of them that are tried with a reading, the newest
abbrev pub newest : {A : Type 0} → List A → List A
newest all = drop (length all - most_tried) all

abbrev pub tried_at : ℕ → List KnownPiece → List (List ℕ)
tried_at address known = newest (awaited_at address known)

-- nothing is left of a sum
abbrev pub IsEmpty : List ℕ → Type 0
IsEmpty bytes = bytes ≡ replicate (length bytes) 0

-- a sum that holds a piece, or nothing
abbrev pub IsOpen : List ℕ → Type 0
IsOpen bytes = IsEmpty bytes ⊎ IsPiece bytes

-- a reading is the sum of known pieces, of at most one more than are tried
pub record IsSumOf (known : List KnownPiece) (reading : Reading) (parts : List (List ℕ)) : Type 0 where
  pub subset : IsSubset parts (bytes_of known)
  pub most : length parts ≤ most_tried + 1
  pub sum : IsEmpty (added reading.bytes parts)

-- a reading at that address was found to hold that piece
pub record IsSeen (readings : List Reading) (known : List KnownPiece) (address : ℕ) (piece : List ℕ) : Type 0
  where
    pub reading : Reading
    pub is_read : Contains readings reading
    pub there : reading.address ≡ address
    pub parts : List (List ℕ)
    pub sum : IsSumOf known reading parts
    pub in_it : Contains parts piece

-- What becomes of readings of a card of so many addresses.
pub record Accounts (addresses : ℕ) (readings : List Reading) (told : Told) : Type 0 where
  -- each piece that is told is known, and told once
  pub sound : AreKnown addresses readings (pieces_in told)
  pub once : AllPairs (λ p q. p ≢ q) (pieces_in told)
  -- each reading is kept until it is the sum of known pieces
  pub left_read : All (Contains readings) told.left
  pub kept : All (λ r. Contains told.left r ⊎ ((parts : List (List ℕ)) × IsSumOf told.known r parts)) readings
  -- a known piece is awaited at addresses that it names, at each of them until it is found there
  pub named : (k : KnownPiece) (a : ℕ) → Contains told.known k → is_awaited a k ≡ true
      → Names addresses a k.bytes
  pub awaits : (k : KnownPiece) (a : ℕ) → Contains told.known k → Names addresses a k.bytes
      → (is_awaited a k ≡ true) ⊎ IsSeen readings told.known a k.bytes

-- No subset of those that are tried at its address opens a reading.
abbrev pub IsTried : List KnownPiece → Reading → Type 0
IsTried known reading = HasNone IsOpen reading.bytes (tried_at reading.address known)

-- What is told of readings.
pub record Tells (addresses : ℕ) (readings : List Reading) (told : Told) : Type 0 where
  pub accounts : Accounts addresses readings told
  pub complete : All (IsTried told.known) told.left
