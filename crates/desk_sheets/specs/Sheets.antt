-- A sheet as a function from its lines: what it says, or its first bad line; and what is told of a text.
use Rattle.std.specs.Prelude.{◌≡◌, ℕ, ◌+◌, List, [], codes, Result, Ok, Err}
use Rattle.express_texts.specs.GameLines.{◌>>=◌}
use Rattle.desk_texts.specs.Fields.{place_of}
use Rattle.desk_texts.specs.Lines.{lines_before, from_first}
use Rattle.desk_texts.specs.Sheets.{line_as, addresses_at}
use Rattle.desk_sheets.specs.declared.fault.SheetFault.{SheetFault}
use Rattle.desk_sheets.specs.declared.fault.SheetFault.TheVariants as faults
use Rattle.desk_sheets.specs.declared.head.CardHead.{CardHead}
use Rattle.desk_sheets.specs.declared.head.Head.{Head}
use Rattle.desk_sheets.specs.declared.head.Head.TheVariants as heads
use Rattle.desk_sheets.specs.declared.head.PairHead.{PairHead}
use Rattle.desk_sheets.specs.declared.sheet.Card.{Card}
use Rattle.desk_sheets.specs.declared.sheet.Pair.{Pair}
use Rattle.desk_sheets.specs.declared.sheet.Sheet.{Sheet}
use Rattle.desk_sheets.specs.declared.sheet.Sheet.TheVariants as sheets
use Rattle.desk_sheets.specs.Earlier.{fault_at}
use Rattle.desk_sheets.specs.Heads.{head_of}
use Rattle.desk_sheets.specs.Keys.{server_of}

-- the lines of a card behind its first, which has this number
unfoldable pub card_at : ℕ → CardHead → List ℕ → List (List ℕ) → Result Card ℕ
card_at place head said lines = do
  leader ← line_as (place + 1) said (place_of (codes "leader ")) lines
  helper ← line_as (place + 2) leader.1 (place_of (codes "helper ")) leader.2
  addresses ← addresses_at head.addresses (place + 3) helper.1 [] helper.2
  Ok (record {
    width = head.width;
    until = head.until;
    leader = leader.0;
    helper = helper.0;
    addresses = addresses;
  })

-- and those of a pair file
unfoldable pub pair_at : ℕ → PairHead → List ℕ → List (List ℕ) → Result Pair ℕ
pair_at place head said lines = do
  leader ← line_as (place + 1) said (server_of (codes "leader ")) lines
  helper ← line_as (place + 2) leader.1 (server_of (codes "helper ")) leader.2
  Ok (record {
    width = head.width;
    boxes = head.boxes;
    lane = head.lane;
    leader = leader.0;
    helper = helper.0;
  })

abbrev pub behind_head : ℕ → Head → List ℕ → List (List ℕ) → Result Sheet ℕ
behind_head place (heads.Card h) said lines = card_at place h said lines >>= (λ card. Ok (sheets.Card card))
behind_head place (heads.Pair h) said lines = pair_at place h said lines >>= (λ pair. Ok (sheets.Pair pair))

-- a sheet whose first line has this number
unfoldable pub sheet_at : ℕ → List (List ℕ) → Result Sheet ℕ
sheet_at place lines = line_as place [] head_of lines >>= (λ head. behind_head place head.0 head.1 head.2)

-- the first of these lines that begins a sheet is its first line
unfoldable pub sheet_of : List (List ℕ) → Result Sheet ℕ
sheet_of lines = sheet_at (lines_before lines + 1) (from_first lines)

-- ---- what is told

abbrev pub told_by : List (List ℕ) → Result Sheet ℕ → Result Sheet SheetFault
told_by lines (Ok sheet) = Ok sheet
told_by lines (Err n) = Err (fault_at lines n)

unfoldable pub sheet_in : List (List ℕ) → Result Sheet SheetFault
sheet_in lines = told_by lines (sheet_of lines)

abbrev pub as_card : Result Sheet SheetFault → Result Card SheetFault
as_card (Ok (sheets.Card card)) = Ok card
as_card (Ok (sheets.Pair pair)) = Err faults.OtherKind
as_card (Err fault) = Err fault

abbrev pub as_pair : Result Sheet SheetFault → Result Pair SheetFault
as_pair (Ok (sheets.Card card)) = Err faults.OtherKind
as_pair (Ok (sheets.Pair pair)) = Ok pair
as_pair (Err fault) = Err fault

-- the card of these lines, or why there is none
abbrev pub card_in : List (List ℕ) → Result Card SheetFault
card_in lines = as_card (sheet_in lines)

-- the pair file of these lines, or why there is none
abbrev pub pair_in : List (List ℕ) → Result Pair SheetFault
pair_in lines = as_pair (sheet_in lines)

-- This is what was to be told. Want of memory says nothing.
abbrev pub Tells : {A : Type 0} → Result A SheetFault → Result A SheetFault → Type 0
Tells (Err faults.NoMemory) right = Unit {0}
Tells (Err faults.Earlier) right = right ≡ Err faults.Earlier
Tells (Err (faults.Wrong n)) right = right ≡ Err (faults.Wrong n)
Tells (Err faults.OtherKind) right = right ≡ Err faults.OtherKind
Tells (Ok a) right = right ≡ Ok a
