-- Where a letter goes, by the text of its card.
use Rattle.std.specs.Prelude.{ℕ, ◌&&◌, nat_le, if◌then◌else◌, Bool, max, min, List, [], length, None, Result}
use Rattle.std.specs.Prelude.{Ok, Err}
use Rattle.desk_texts.specs.Lines.{lines_in}
use Rattle.desk_sheets.specs.declared.fault.SheetFault.{SheetFault}
use Rattle.desk_sheets.specs.declared.sheet.Card.{Card}
use Rattle.desk_sheets.specs.Sheets.{card_in}
use Rattle.letter_pieces.specs.Pieces.{parts_of}
use Rattle.letter_pieces.specs.Sizes.{copies, most_text}
use Rattle.kept_letter.specs.declared.plan.Plan.{Plan}

-- a card of so many addresses with boxes of that width takes a letter of so many bytes
abbrev pub takes_letter : (addresses width count : ℕ) → Bool
takes_letter addresses width count =
    nat_le 1 addresses && (nat_le 1 count && nat_le count (most_text addresses width))

-- of no box
abbrev pub no_card : Card
no_card = record { width = 32; until = None; leader = []; helper = []; addresses = [] }

-- where nothing goes
abbrev pub no_plan : Plan
no_plan = record { card = no_card; count = 0 }

abbrev pub plan_on : (count : ℕ) → Card → Plan
plan_on count card =
    if takes_letter (length card.addresses) card.width count then record { card = card; count = count } else no_plan

abbrev pub plan_by : (count : ℕ) → Result Card SheetFault → Plan
plan_by count (Ok card) = plan_on count card
plan_by count (Err fault) = no_plan

-- of a text that spells a card which takes such a letter; of another text, none
unfoldable pub plan_of : (card : List ℕ) (count : ℕ) → Plan
plan_of card count = plan_by count (card_in (lines_in card))

-- how many parts a text of so many bytes has there, none where that is no letter's length
abbrev pub parts_for : Plan → (count : ℕ) → ℕ
parts_for p count =
    if takes_letter (length p.card.addresses) p.card.width count then parts_of p.card.width count else 0

-- to so many addresses each part goes
abbrev pub each_of : Plan → ℕ
each_of p = max 1 (min copies (length p.card.addresses))
