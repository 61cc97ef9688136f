-- The lines of a sheet, without the blanks at their ends, and what they say.
use Rattle.std.specs.Prelude.{ℕ, ◌==◌, ◌||◌, if◌then◌else◌, Bool, List, [], ◌∷◌, map}
use Rattle.std.specs.Prelude.{Result, Ok, Err, is_some, unwrap_or, position, take, drop, codes}
use Rattle.express_texts.specs.LineFields.{after}
use Rattle.express_texts.specs.Lines.{lines_of}
use Rattle.express_texts.specs.GameLines.{found_or}
use Rattle.desk_texts.specs.Checks.{with_content, content_of}

-- a space, a tab or a CR
abbrev pub is_blank : ℕ → Bool
is_blank b = (b == 32 || b == 9) || b == 13

abbrev pub before : ℕ → List ℕ → List ℕ
before b [] = if is_blank b then [] else b ∷ []
before b (c ∷ bytes) = b ∷ (c ∷ bytes)

-- a line without the blanks at its end
unfoldable pub trimmed : List ℕ → List ℕ
trimmed [] = []
trimmed (b ∷ bytes) = before b (trimmed bytes)

abbrev pub lines_in : List ℕ → List (List ℕ)
lines_in text = map trimmed (lines_of text)

-- the line begins a card or a pair file
abbrev pub begins_sheet : List ℕ → Bool
begins_sheet line =
    is_some (after (codes "express card ") line) || is_some (after (codes "express pair ") line)

-- how many lines stand before the first that begins a sheet; none where none of the first 65,536 does
unfoldable pub lines_before : List (List ℕ) → ℕ
lines_before lines = unwrap_or (position begins_sheet (take 65_536 lines)) 0

-- the lines from that one on
abbrev pub from_first : List (List ℕ) → List (List ℕ)
from_first lines = drop (lines_before lines) lines

-- what the first of these lines says behind those contents, the contents with it, and the lines behind it; a
-- line that is missing is bad at its place
unfoldable pub content_at : ℕ → List ℕ → List (List ℕ)
    → Result (List ℕ × List ℕ × List (List ℕ)) ℕ
content_at place said [] = Err place
content_at place said (line ∷ lines) =
    found_or place (content_of said line) (λ content. Ok (content, with_content said content, lines))
