-- The first line of a sheet, as functions from what it says.
use Rattle.std.specs.Prelude.{ℕ, ◌%◌, ◌==◌, List, [], ◌∷◌, codes, Option, Some, None}
use Rattle.express_texts.specs.LineFields.{◌>>=◌, after, wanted}
use Rattle.express_texts.specs.Numbers.{number_at, last_number}
use Rattle.desk_texts.specs.declared.day.Day.{Day}
use Rattle.desk_texts.specs.Days.{day_of}
use Rattle.desk_sheets.specs.declared.head.CardHead.{CardHead}
use Rattle.desk_sheets.specs.declared.head.Head.{Head}
use Rattle.desk_sheets.specs.declared.head.Head.TheVariants.{Card, Pair}
use Rattle.desk_sheets.specs.declared.head.PairHead.{PairHead}

-- a space and the last day, or nothing
abbrev pub until_of : List ℕ → Option (Option Day)
until_of [] = Some None
until_of (b ∷ text) = after (codes " ") (b ∷ text) >>= (λ rest. day_of rest >>= (λ day. Some (Some day)))

-- express card 2 WIDTH ADDRESSES [UNTIL]
unfoldable pub card_of : List ℕ → Option CardHead
card_of content = do
  rest ← after (codes "express card 2 ") content
  width ← number_at 32 4096 rest
  _ ← wanted (width.0 % 16 == 0)
  rest ← after (codes " ") width.1
  addresses ← number_at 1 64 rest
  until ← until_of addresses.1
  Some (record { width = width.0; addresses = addresses.0; until = until })

-- express pair 2 WIDTH BOXES LANE
unfoldable pub pair_of : List ℕ → Option PairHead
pair_of content = do
  rest ← after (codes "express pair 2 ") content
  width ← number_at 32 4096 rest
  _ ← wanted (width.0 % 16 == 0)
  rest ← after (codes " ") width.1
  boxes ← number_at 1 4096 rest
  rest ← after (codes " ") boxes.1
  lane ← last_number 0 255 rest
  Some (record { width = width.0; boxes = boxes.0; lane = lane })

abbrev pub head_by : Option CardHead → Option PairHead → Option Head
head_by (Some card) pair = Some (Card card)
head_by None (Some pair) = Some (Pair pair)
head_by None None = None

unfoldable pub head_of : List ℕ → Option Head
head_of content = head_by (card_of content) (pair_of content)

-- how many addresses follow
abbrev pub count_of : Head → ℕ
count_of (Card h) = h.addresses
count_of (Pair h) = 0
