-- What is told of boxes that are closed.
use Rattle.std.specs.Prelude.{ℕ, List, ◌++◌, Option, Some, None, codes}
use Rattle.desk_texts.specs.declared.day.Day.{Day}
use Rattle.desk_texts.specs.Days.{day_text}

-- since when
unfoldable pub since_text : List ℕ → Day → List ℕ
since_text name day = codes "the boxes of " ++ (name ++ (codes " are closed since " ++ day_text day))

-- and how long they are read
unfoldable pub still_read : List ℕ → List ℕ
still_read name = codes "; letters still reads them, and retire --now " ++ name ++ codes " gives them up\n"

abbrev pub closed_line : List ℕ → Day → List ℕ
closed_line name day = since_text name day ++ still_read name

-- how long the card is good
abbrev pub until_text : Option Day → List ℕ
until_text (Some day) = codes "its card is good until " ++ day_text day
until_text None = codes "its card has no last day"

-- and what becomes of letters once the boxes are gone
unfoldable pub nobody_reads : List ℕ → List ℕ
nobody_reads name = codes "; once retire --now " ++ name
    ++ codes " has given the boxes up, whoever sends with it is told written, and nobody reads it\n"

abbrev pub good_line : List ℕ → Option Day → List ℕ
good_line name last = until_text last ++ nobody_reads name
