-- What is printed of a sheet.
use Rattle.std.specs.Prelude.{ℕ, ◌-◌, List, [], take, drop, length}
use Rattle.desk_texts.specs.Printing.{printed_from}
use Rattle.desk_sheets.specs.declared.sheet.Card.{Card}
use Rattle.desk_sheets.specs.declared.sheet.Pair.{Pair}
use Rattle.desk_sheets.specs.Spelling.{card_contents, pair_contents}

abbrev pub printed_card : Card → List ℕ
printed_card c = printed_from [] (card_contents c)

abbrev pub printed_pair : Pair → List ℕ
printed_pair p = printed_from [] (pair_contents p)

-- the last five bytes of a card before the final LF
unfoldable pub check_digits : Card → List ℕ
check_digits c = let text = printed_card c in take 5 (drop (length text - 6) text)
