-- What holds of the pieces that are told.
use Rattle.std.specs.Prelude.{◌≡◌, ◌⊎◌, ℕ, List, [], ◌∷◌, ◌++◌, length, All}
use Rattle.std.specs.List.{Contains}
use Rattle.subset_search.specs.Subsets.{HasNone}
use Rattle.known_pieces.specs.Known.{Reading, IsKnown}
use Rattle.known_pieces.specs.Telling.{KnownPiece, Told, Accounts, Tells, IsOpen, pieces_in}
use Rattle.known_pieces.specs.Opening.{IsFound, Opens}
use Rattle.known_pieces.specs.Peeling.{Box, readings_of, IsPut, IsTable, HasOneSum, Peels, FewAreAwaited}

-- whatever is told is known
abbrev pub ToldIsKnown : Type 0
ToldIsKnown = (addresses : ℕ) (readings : List Reading) (told : Told)
    → Tells addresses readings told → All (IsKnown addresses readings) (pieces_in told)

-- of the boxes of a table no piece is told that wasn't put into one
abbrev pub ToldWasPut : Type 0
ToldWasPut = (addresses width : ℕ) (boxes : List Box) (told : Told)
    → HasOneSum addresses width boxes → Tells addresses (readings_of width boxes) told
    → All (IsPut boxes) (pieces_in told)

-- of a table that can be peeled every piece is told
abbrev pub PeeledIsTold : Type 0
PeeledIsTold = (addresses width : ℕ) (boxes : List Box) (order : List (List ℕ)) (told : Told)
    → IsTable addresses width boxes → HasOneSum addresses width boxes → Peels boxes order
    → Tells addresses (readings_of width boxes) told → FewAreAwaited told
    → All (Contains (pieces_in told)) order

-- ---- how a reader may go on

-- of no readings nothing is told
abbrev pub NothingIsTold : Type 0
NothingIsTold = (addresses : ℕ) → Accounts addresses [] (record { known = []; left = [] })

-- a further reading is left at first
abbrev pub ReadingIsKept : Type 0
ReadingIsKept = (addresses : ℕ) (readings : List Reading) (told : Told) (r : Reading)
    → Accounts addresses readings told
    → Accounts addresses (readings ++ r ∷ []) (record { known = told.known; left = told.left ++ r ∷ [] })

-- one that is opened is left no more
abbrev pub OpenedIsTold : Type 0
OpenedIsTold = (addresses : ℕ) (readings : List Reading) (old : List KnownPiece) (left kept : List Reading)
    (r : Reading)
    → Accounts addresses readings (record { known = old; left = left }) → Contains readings r
    → ((x : Reading) → Contains left x → Contains kept x ⊎ (x ≡ r)) → All (Contains readings) kept
    → (new : List KnownPiece) → Opens addresses r old new
    → Accounts addresses readings (record { known = new; left = kept })

-- where no subset is found of boxes of one width, none opens the reading
abbrev pub NoneOpens : Type 0
NoneOpens = (width : ℕ) (bytes : List ℕ) (tried : List (List ℕ))
    → length bytes ≡ width → All (λ box. length box ≡ width) tried
    → HasNone (IsFound tried) bytes tried → HasNone IsOpen bytes tried
