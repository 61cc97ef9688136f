-- What is printed of a sheet.
use Rattle.std.specs.Prelude.{ℕ, ◌-◌, List, [], ◌∷◌, ◌++◌, take, drop, length}
use Rattle.desk_texts.specs.declared.sheet.Sheet.{Sheet}
use Rattle.desk_texts.specs.Checks.{with_content, checked}
use Rattle.desk_texts.specs.Spelling.{contents}

-- these contents' lines behind those contents, each with an LF
unfoldable pub printed_from : List ℕ → List (List ℕ) → List ℕ
printed_from said [] = []
printed_from said (content ∷ contents) =
    (checked said content ++ 10 ∷ []) ++ printed_from (with_content said content) contents

abbrev pub printed : Sheet → List ℕ
printed s = printed_from [] (contents s)

-- the last five bytes before the final LF
unfoldable pub check_digits : Sheet → List ℕ
check_digits s = let text = printed s in take 5 (drop (length text - 6) text)
