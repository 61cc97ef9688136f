-- The lines of a text.
use Rattle.std.specs.Prelude.{◌≡◌, ◌≢◌, ◌⊎◌, ℕ, ◌==◌, if◌then◌else◌, List, [], ◌∷◌, ◌++◌}

abbrev pub onto_line : ℕ → List (List ℕ) → List (List ℕ)
onto_line b [] = (b ∷ []) ∷ []
onto_line b (line ∷ lines) = (b ∷ line) ∷ lines

-- each line without its LF, which the last may lack
unfoldable pub lines_of : List ℕ → List (List ℕ)
lines_of [] = []
lines_of (b ∷ bytes) = if b == 10 then [] ∷ lines_of bytes else onto_line b (lines_of bytes)

abbrev pub HasNoLf : List ℕ → Type 0
HasNoLf [] = Unit {0}
HasNoLf (b ∷ bytes) = (b ≢ 10) × HasNoLf bytes

-- the text is these lines, each ended by LF, which the last may lack where it isn't empty
abbrev pub AreLines : List (List ℕ) → List ℕ → Type 0
AreLines [] text = text ≡ []
AreLines (line ∷ []) text = HasNoLf line × ((text ≡ line ++ 10 ∷ []) ⊎ ((text ≡ line) × (line ≢ [])))
AreLines (line ∷ next ∷ lines) text =
    HasNoLf line × ((rest : List ℕ) × (text ≡ line ++ 10 ∷ rest) × AreLines (next ∷ lines) rest)
