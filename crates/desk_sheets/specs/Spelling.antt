-- The grammar of a card and of a pair file: the lines that are printed of it, and its first bad line.
use Rattle.std.specs.Prelude.{◌≡◌, ℕ, ◌+◌, ◌≤◌, true, List, [], ◌∷◌, ◌++◌, map, length, codes}
use Rattle.std.specs.Prelude.{Option, None, Some, IfSome, Ok}
use Rattle.std.specs.Fmt.{decimal}
use Rattle.hex.specs.Hex.{decode_sized}
use Rattle.express_texts.specs.GameSpelling.{FaultFrom}
use Rattle.lane_gate.specs.declared.ticket.Ticket.{Ticket}
use Rattle.desk_texts.specs.declared.day.Day.{Day}
use Rattle.desk_texts.specs.Checks.{checked_lines}
use Rattle.desk_texts.specs.Days.{IsDay, day_text}
use Rattle.desk_texts.specs.Lines.{lines_in, from_first}
use Rattle.desk_texts.specs.Places.{is_place}
use Rattle.desk_texts.specs.Spelling.{HasRoom, address_text, AreNew, SpellsPlace, Says, FaultOfAddresses}
use Rattle.desk_sheets.specs.declared.head.CardHead.{CardHead}
use Rattle.desk_sheets.specs.declared.head.Head.{Head}
use Rattle.desk_sheets.specs.declared.head.Head.TheVariants as heads
use Rattle.desk_sheets.specs.declared.head.PairHead.{PairHead}
use Rattle.desk_sheets.specs.declared.sheet.Card.{Card}
use Rattle.desk_sheets.specs.declared.sheet.OwnersServer.{OwnersServer}
use Rattle.desk_sheets.specs.declared.sheet.Pair.{Pair}
use Rattle.desk_sheets.specs.declared.sheet.Sheet.{Sheet}
use Rattle.desk_sheets.specs.declared.sheet.Sheet.TheVariants as sheets
use Rattle.desk_sheets.specs.Earlier.{first_place}
use Rattle.desk_sheets.specs.Keys.{key_digits}

-- ---- first lines

abbrev pub until_text : Option Day → List ℕ
until_text None = []
until_text (Some day) = codes " " ++ day_text day

-- express card 2 WIDTH ADDRESSES [UNTIL]
abbrev pub card_text : CardHead → List ℕ
card_text h =
    codes "express card 2 " ++ (decimal h.width ++ (codes " " ++ (decimal h.addresses ++ until_text h.until)))

-- express pair 2 WIDTH BOXES LANE
abbrev pub pair_text : PairHead → List ℕ
pair_text h =
    codes "express pair 2 " ++ (decimal h.width ++ (codes " " ++ (decimal h.boxes ++ (codes " "
    ++ decimal h.lane))))

abbrev pub head_text : Head → List ℕ
head_text (heads.Card h) = card_text h
head_text (heads.Pair h) = pair_text h

pub record IsCardHead (h : CardHead) : Type 0 where
  pub width : HasRoom h.width
  pub some : 1 ≤ h.addresses
  pub few : h.addresses ≤ 64
  pub until : IfSome h.until IsDay

pub record IsPairHead (h : PairHead) : Type 0 where
  pub width : HasRoom h.width
  pub some : 1 ≤ h.boxes
  pub few : h.boxes ≤ 4096
  pub lane : h.lane ≤ 255

abbrev pub IsHead : Head → Type 0
IsHead (heads.Card h) = IsCardHead h
IsHead (heads.Pair h) = IsPairHead h

abbrev pub SpellsHead : Head → List ℕ → Type 0
SpellsHead head content = IsHead head × (content ≡ head_text head)

-- ---- servers of an owner

-- sixteen bytes, which their 32 digits spell
abbrev pub IsKey : Ticket → Type 0
IsKey key = decode_sized (key_digits key) 16 ≡ Ok key.0

pub record IsServer (s : OwnersServer) : Type 0 where
  pub place : is_place s.place ≡ true
  pub key : IsKey s.key

-- WORD PLACE KEY
abbrev pub server_text : List ℕ → OwnersServer → List ℕ
server_text word s = word ++ (s.place ++ (codes " " ++ key_digits s.key))

abbrev pub SpellsServer : List ℕ → OwnersServer → List ℕ → Type 0
SpellsServer word s content = IsServer s × (content ≡ server_text word s)

-- ---- sheets

abbrev pub card_head : Card → CardHead
card_head c = record { width = c.width; addresses = length c.addresses; until = c.until }

abbrev pub pair_head : Pair → PairHead
pair_head p = record { width = p.width; boxes = p.boxes; lane = p.lane }

pub record IsCard (c : Card) : Type 0 where
  pub head : IsCardHead (card_head c)
  pub leader : is_place c.leader ≡ true
  pub helper : is_place c.helper ≡ true
  pub addresses : AreNew [] c.addresses

pub record IsPair (p : Pair) : Type 0 where
  pub head : IsPairHead (pair_head p)
  pub leader : IsServer p.leader
  pub helper : IsServer p.helper

abbrev pub IsSheet : Sheet → Type 0
IsSheet (sheets.Card c) = IsCard c
IsSheet (sheets.Pair p) = IsPair p

-- what its lines say
abbrev pub card_contents : Card → List (List ℕ)
card_contents c =
    card_text (card_head c) ∷ ((codes "leader " ++ c.leader) ∷ ((codes "helper " ++ c.helper)
    ∷ map address_text c.addresses))

abbrev pub pair_contents : Pair → List (List ℕ)
pair_contents p =
    pair_text (pair_head p) ∷ (server_text (codes "leader ") p.leader
    ∷ (server_text (codes "helper ") p.helper ∷ []))

abbrev pub contents : Sheet → List (List ℕ)
contents (sheets.Card c) = card_contents c
contents (sheets.Pair p) = pair_contents p

-- The first line in the text that begins a sheet is the first of this one's lines, each with its check word.
-- Blanks at a line's end, and other lines before and behind those, aren't looked at.
pub record SpellsSheet (s : Sheet) (text : List ℕ) : Type 0 where
  pub sheet : IsSheet s
  pub behind : List (List ℕ)
  pub lines : from_first (lines_in text) ≡ checked_lines [] (contents s) ++ behind

-- ---- the first bad line

-- Line n is the first bad one behind the first line of a card, which has the number `place`.
abbrev pub FaultOfCard : ℕ → CardHead → List ℕ → ℕ → List (List ℕ) → Type 0
FaultOfCard place head said =
    FaultFrom (place + 1) (Says said (SpellsPlace (codes "leader "))) (λ leader.
    FaultFrom (place + 2) (Says leader.1 (SpellsPlace (codes "helper "))) (λ helper.
    FaultOfAddresses head.addresses (place + 3) helper.1 []))

-- and behind that of a pair file, which has three lines
abbrev pub FaultOfPair : ℕ → List ℕ → ℕ → List (List ℕ) → Type 0
FaultOfPair place said =
    FaultFrom (place + 1) (Says said (SpellsServer (codes "leader "))) (λ leader.
    FaultFrom (place + 2) (Says leader.1 (SpellsServer (codes "helper "))) (λ helper n lines. ⊥))

abbrev pub FaultBehind : ℕ → Head → List ℕ → ℕ → List (List ℕ) → Type 0
FaultBehind place (heads.Card h) = FaultOfCard place h
FaultBehind place (heads.Pair h) = FaultOfPair place

-- Line n is the first bad one of a sheet whose first line has the number `place`: it is missing, its check
-- word is wrong, or it doesn't say what it should.
abbrev pub FaultOfLines : ℕ → ℕ → List (List ℕ) → Type 0
FaultOfLines place =
    FaultFrom place (Says [] SpellsHead) (λ head. FaultBehind place head.0 head.1)

-- counted from the text's first line, which is bad where none begins a sheet
abbrev pub IsFirstBadLine : ℕ → List ℕ → Type 0
IsFirstBadLine n text = FaultOfLines (first_place (lines_in text)) n (from_first (lines_in text))
