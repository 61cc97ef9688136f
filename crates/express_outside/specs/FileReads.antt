-- How a file is read on: piece by piece, each behind the one before it.
use Rattle.std.specs.Prelude.{◌≡◌, ℕ, ◌+◌, Bool, true, List, [], ◌∷◌, ◌++◌, length, Option, Some, None, Ok, Err}
use Rattle.express_outside.specs.Calls.{added}
use Rattle.express_outside.specs.declared.file_calls.FileCall.{FileCall}
use Rattle.express_outside.specs.declared.file_calls.FileCall.TheVariants.{ReadAt}
use Rattle.express_outside.specs.declared.calls.Trouble.TheVariants.{Interrupted}

-- The calls behind these: a read at this offset for each piece, which was interrupted or gave the piece.
abbrev pub read_from : ℕ → List (Option (List ℕ)) → Option (List FileCall) → Option (List FileCall)
read_from at [] calls = calls
read_from at (None ∷ pieces) calls = read_from at pieces (added (ReadAt at (Err Interrupted)) calls)
read_from at (Some piece ∷ pieces) calls =
    read_from (at + length piece) pieces (added (ReadAt at (Ok piece)) calls)

-- the bytes of the pieces
abbrev pub joined : List (Option (List ℕ)) → List ℕ
joined [] = []
joined (None ∷ pieces) = joined pieces
joined (Some piece ∷ pieces) = piece ++ joined pieces

-- These bytes are what reads of the file gave from this offset on.
abbrev pub ReadFrom : ℕ → (old new : Option (List FileCall)) → List ℕ → Type 0
ReadFrom at old new bytes = (pieces : List (Option (List ℕ))) × (new ≡ read_from at pieces old)
    × (bytes ≡ joined pieces)

-- The same behind whatever it took to open the file, where that wasn't open.
abbrev pub GaveFrom : ℕ → (is_open : Bool) → (old new : Option (List FileCall)) → List ℕ → Type 0
GaveFrom at is_open old new bytes = (opened : Option (List FileCall)) × (is_open ≡ true → opened ≡ old)
    × ReadFrom at opened new bytes
