-- The grammar of a card and of a pair file: the lines that are printed of it, and its first bad line.
use Rattle.std.specs.Prelude.{◌≡◌, ℕ, zero, suc, ◌+◌, ◌≤◌, ◌%◌, true, false, List, [], ◌∷◌, ◌++◌, map, length}
use Rattle.std.specs.Prelude.{codes, Option, None, Some, IfSome}
use Rattle.std.specs.Fmt.{decimal}
use Rattle.express_texts.specs.LineFields.{spelled_word}
use Rattle.express_texts.specs.GameSpelling.{FaultFrom}
use Rattle.desk_texts.specs.declared.day.Day.{Day}
use Rattle.desk_texts.specs.declared.sheet.CardHead.{CardHead}
use Rattle.desk_texts.specs.declared.sheet.Head.{Head}
use Rattle.desk_texts.specs.declared.sheet.Head.TheVariants.{Card, Pair}
use Rattle.desk_texts.specs.declared.sheet.PairHead.{PairHead}
use Rattle.desk_texts.specs.declared.sheet.Sheet.{Sheet}
use Rattle.desk_texts.specs.Checks.{with_content, checked, checked_lines}
use Rattle.desk_texts.specs.Days.{IsDay, day_text}
use Rattle.desk_texts.specs.Fields.{is_strangers, address_digits}
use Rattle.desk_texts.specs.Lines.{lines_in, lines_before, from_first}
use Rattle.desk_texts.specs.Places.{is_place}
use Rattle.desk_texts.specs.Sheets.{count_of, is_among}

-- ---- what lines say

-- WIDTH FROM TO ADDRESSES, and what follows
abbrev pub numbers_text : CardHead → List ℕ → List ℕ
numbers_text h rest =
    decimal h.width ++ (codes " " ++ (decimal h.from ++ (codes " " ++ (decimal h.to ++ (codes " "
    ++ (decimal h.addresses ++ rest))))))

-- of a card that lasts
abbrev pub lasting_text : CardHead → List ℕ
lasting_text h = codes "express card 1 " ++ numbers_text h []

-- of a card with a last day
abbrev pub dated_text : CardHead → Day → List ℕ
dated_text h day = codes "express card 2 " ++ numbers_text h (codes " " ++ day_text day)

abbrev pub card_text_by : CardHead → Option Day → List ℕ
card_text_by h None = lasting_text h
card_text_by h (Some day) = dated_text h day

abbrev pub card_text : CardHead → List ℕ
card_text h = card_text_by h h.until

-- WIDTH BOXES LANE FROM TO
abbrev pub pair_text : PairHead → List ℕ
pair_text h =
    codes "express pair 1 " ++ (decimal h.width ++ (codes " " ++ (decimal h.boxes ++ (codes " "
    ++ (decimal h.lane ++ (codes " " ++ (decimal h.from ++ (codes " " ++ decimal h.to))))))))

abbrev pub head_text : Head → List ℕ
head_text (Card h) = card_text h
head_text (Pair h) = pair_text h

-- a width of messages in which letters have room
pub record HasRoom (width : ℕ) : Type 0 where
  pub least : 32 ≤ width
  pub most : width ≤ 4096
  pub sixteens : width % 16 ≡ 0

-- a range of lanes
pub record AreLanes (from to : ℕ) : Type 0 where
  pub order : from ≤ to
  pub last : to ≤ 255

pub record IsCard (h : CardHead) : Type 0 where
  pub width : HasRoom h.width
  pub lanes : AreLanes h.from h.to
  pub some : 1 ≤ h.addresses
  pub few : h.addresses ≤ 64
  pub until : IfSome h.until IsDay

-- the owner's lane is none of the strangers'
pub record IsPair (h : PairHead) : Type 0 where
  pub width : HasRoom h.width
  pub some : 1 ≤ h.boxes
  pub few : h.boxes ≤ 4096
  pub lane : h.lane ≤ 255
  pub lanes : AreLanes h.from h.to
  pub own : is_strangers h ≡ false

abbrev pub IsHead : Head → Type 0
IsHead (Card h) = IsCard h
IsHead (Pair h) = IsPair h

abbrev pub SpellsHead : Head → List ℕ → Type 0
SpellsHead head content = IsHead head × (content ≡ head_text head)

abbrev pub SpellsPlace : List ℕ → List ℕ → List ℕ → Type 0
SpellsPlace word place content = (is_place place ≡ true) × (content ≡ word ++ place)

-- a number that 32 digits spell
abbrev pub IsAddress : ℕ → Type 0
IsAddress address = spelled_word (address_digits address) ≡ Some address

abbrev pub address_text : ℕ → List ℕ
address_text address = codes "address " ++ address_digits address

-- an address that stands on none of the lines before
abbrev pub SpellsNew : List ℕ → ℕ → List ℕ → Type 0
SpellsNew before address content =
    IsAddress address × (is_among address before ≡ false) × (content ≡ address_text address)

-- ---- a sheet

abbrev pub AreNew : List ℕ → List ℕ → Type 0
AreNew before [] = Unit {0}
AreNew before (a ∷ addresses) =
    IsAddress a × (is_among a before ≡ false) × AreNew (before ++ a ∷ []) addresses

pub record IsSheet (s : Sheet) : Type 0 where
  pub head : IsHead s.head
  pub leader : is_place s.leader ≡ true
  pub helper : is_place s.helper ≡ true
  pub addresses : AreNew [] s.addresses
  pub count : length s.addresses ≡ count_of s.head

abbrev pub contents : Sheet → List (List ℕ)
contents s =
    head_text s.head ∷ ((codes "leader " ++ s.leader) ∷ ((codes "helper " ++ s.helper)
    ∷ map address_text s.addresses))

-- The first line in the text that begins a sheet is the first of this one's lines, each with its check word.
-- Blanks at a line's end, and other lines before and behind those, aren't looked at.
pub record SpellsSheet (s : Sheet) (text : List ℕ) : Type 0 where
  pub sheet : IsSheet s
  pub behind : List (List ℕ)
  pub lines : from_first (lines_in text) ≡ checked_lines [] (contents s) ++ behind

-- ---- the first bad line

-- a line behind these contents: what it says, and the contents with it
abbrev pub Says : {A : Type 0} → List ℕ → (A → List ℕ → Type 0) → A × List ℕ → List ℕ → Type 0
Says said Spells r line =
    (content : List ℕ) × Spells r.0 content × (line ≡ checked said content)
    × (r.1 ≡ with_content said content)

-- Line n is the first bad one of so many addresses' lines from a place on.
abbrev pub FaultOfAddresses : ℕ → ℕ → List ℕ → List ℕ → ℕ → List (List ℕ) → Type 0
FaultOfAddresses zero place said before n lines = ⊥
FaultOfAddresses (suc room) place said before n lines =
    FaultFrom place (Says said (SpellsNew before))
    (λ r. FaultOfAddresses room (place + 1) r.1 (before ++ r.0 ∷ [])) n lines

-- Line n is the first bad one of a sheet whose first line has the number `place`: it is missing, its check
-- word is wrong, or it doesn't say what it should.
abbrev pub FaultOfLines : ℕ → ℕ → List (List ℕ) → Type 0
FaultOfLines place =
    FaultFrom place (Says [] SpellsHead) (λ head.
    FaultFrom (place + 1) (Says head.1 (SpellsPlace (codes "leader "))) (λ leader.
    FaultFrom (place + 2) (Says leader.1 (SpellsPlace (codes "helper "))) (λ helper.
    FaultOfAddresses (count_of head.0) (place + 3) helper.1 [])))

-- counted from the text's first line, which is bad where none begins a sheet
abbrev pub IsFirstBadLine : ℕ → List ℕ → Type 0
IsFirstBadLine n text = FaultOfLines (lines_before (lines_in text) + 1) n (from_first (lines_in text))
