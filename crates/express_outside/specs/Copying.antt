-- How a file is copied: piece by piece, each as a read gave it and to where it was read.
use Rattle.std.specs.Prelude.{◌≡◌, ℕ, ◌+◌, List, [], ◌∷◌, length, Option, Some, None, Ok, Err}
use Rattle.express_outside.specs.Calls.{added}
use Rattle.express_outside.specs.declared.file_calls.FileCall.{FileCall}
use Rattle.express_outside.specs.declared.file_calls.FileCall.TheVariants.{ReadAt, CopiedAt}
use Rattle.express_outside.specs.declared.calls.Trouble.TheVariants.{Interrupted}

-- The calls behind these: a read at this offset for each piece, which was interrupted or gave the piece, and then
-- the piece was written to the copy at the same offset.
abbrev pub copied_from : ℕ → List (Option (List ℕ)) → Option (List FileCall) → Option (List FileCall)
copied_from at [] calls = calls
copied_from at (None ∷ pieces) calls = copied_from at pieces (added (ReadAt at (Err Interrupted)) calls)
copied_from at (Some piece ∷ pieces) calls =
    copied_from (at + length piece) pieces (added (CopiedAt at piece (Ok tt)) (added (ReadAt at (Ok piece)) calls))

-- how many bytes the pieces have
abbrev pub bytes_in : List (Option (List ℕ)) → ℕ
bytes_in [] = 0
bytes_in (None ∷ pieces) = bytes_in pieces
bytes_in (Some piece ∷ pieces) = length piece + bytes_in pieces

-- All that the file has went into the copy: from its first byte on, until a read found its end.
abbrev pub CopiedWhole : (old new : Option (List FileCall)) → Type 0
CopiedWhole old new = (pieces : List (Option (List ℕ)))
    × (new ≡ added (ReadAt (bytes_in pieces) (Ok [])) (copied_from 0 pieces old))
