-- The fields of a sheet's lines, as functions from what a line says.
use Rattle.std.specs.Prelude.{ℕ, nat_le, ◌%◌, ◌==◌, ◌&&◌, if◌then◌else◌, Bool, List, codes}
use Rattle.std.specs.Prelude.{Option, Some, None}
use Rattle.std.specs.Int.{w128, to_be_bytes}
use Rattle.std.specs.Str.{bytes_eq}
use Rattle.hex.specs.Hex.{encode_lower}
use Rattle.express_texts.specs.LineFields.{◌>>=◌, after, end, spelled_word, wanted}
use Rattle.express_texts.specs.Numbers.{number_at, last_number}
use Rattle.desk_texts.specs.declared.sheet.CardHead.{CardHead}
use Rattle.desk_texts.specs.declared.sheet.Head.{Head}
use Rattle.desk_texts.specs.declared.sheet.Head.TheVariants.{Card, Pair}
use Rattle.desk_texts.specs.declared.sheet.PairHead.{PairHead}
use Rattle.desk_texts.specs.Days.{day_of}
use Rattle.desk_texts.specs.Places.{is_place}

-- WIDTH FROM TO ADDRESSES, of a card that lasts, and what follows them
unfoldable pub card_numbers : List ℕ → Option (CardHead × List ℕ)
card_numbers content = do
  width ← number_at 32 4096 content
  _ ← wanted (width.0 % 16 == 0)
  rest ← after (codes " ") width.1
  from ← number_at 0 255 rest
  rest ← after (codes " ") from.1
  to ← number_at from.0 255 rest
  rest ← after (codes " ") to.1
  addresses ← number_at 1 64 rest
  Some (
    record { width = width.0; from = from.0; to = to.0; addresses = addresses.0; until = None },
    addresses.1,
  )

-- express card 1 WIDTH FROM TO ADDRESSES
unfoldable pub lasting_card : List ℕ → Option CardHead
lasting_card content = do
  rest ← after (codes "express card 1 ") content
  card ← card_numbers rest
  _ ← end card.1
  Some card.0

-- express card 2 WIDTH FROM TO ADDRESSES UNTIL
unfoldable pub dated_card : List ℕ → Option CardHead
dated_card content = do
  rest ← after (codes "express card 2 ") content
  card ← card_numbers rest
  rest ← after (codes " ") card.1
  day ← day_of rest
  Some (record card.0 { until = Some day })

-- one of both
abbrev pub card_by : Option CardHead → Option CardHead → Option CardHead
card_by (Some card) dated = Some card
card_by None dated = dated

unfoldable pub card_of : List ℕ → Option CardHead
card_of content = card_by (lasting_card content) (dated_card content)

-- express pair 1 WIDTH BOXES LANE FROM TO
unfoldable pub pair_numbers : List ℕ → Option PairHead
pair_numbers content = do
  rest ← after (codes "express pair 1 ") content
  width ← number_at 32 4096 rest
  _ ← wanted (width.0 % 16 == 0)
  rest ← after (codes " ") width.1
  boxes ← number_at 1 4096 rest
  rest ← after (codes " ") boxes.1
  lane ← number_at 0 255 rest
  rest ← after (codes " ") lane.1
  from ← number_at 0 255 rest
  rest ← after (codes " ") from.1
  to ← last_number from.0 255 rest
  Some (record { width = width.0; boxes = boxes.0; lane = lane.0; from = from.0; to = to })

-- the owner's lane is one of the strangers'
abbrev pub is_strangers : PairHead → Bool
is_strangers pair = nat_le pair.from pair.lane && nat_le pair.lane pair.to

-- where it is none of them
unfoldable pub pair_of : List ℕ → Option PairHead
pair_of content = pair_numbers content >>= (λ pair. if is_strangers pair then None else Some pair)

abbrev pub head_by : Option CardHead → Option PairHead → Option Head
head_by (Some card) pair = Some (Card card)
head_by None (Some pair) = Some (Pair pair)
head_by None None = None

unfoldable pub head_of : List ℕ → Option Head
head_of content = head_by (card_of content) (pair_of content)

-- a word and a place
unfoldable pub place_of : List ℕ → List ℕ → Option (List ℕ)
place_of word content = after word content >>= (λ place. if is_place place then Some place else None)

-- 32 hexadecimal digits in lower case, the most significant first
abbrev pub address_digits : ℕ → List ℕ
address_digits address = encode_lower (to_be_bytes w128 address)

-- address ADDRESS
unfoldable pub address_of : List ℕ → Option ℕ
address_of content = do
  digits ← after (codes "address ") content
  address ← spelled_word digits
  if bytes_eq digits (address_digits address) then Some address else None
