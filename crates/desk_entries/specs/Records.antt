-- The records of entries. Numbers are big-endian.
use Rattle.std.specs.Prelude.{◌≡◌, ◌≤◌, ℕ, Bool, true, false, List, [], ◌∷◌, ◌++◌, Option, Some, None, length}
use Rattle.std.specs.Int.{w16, w32, w64, w128, to_be_bytes}
use Rattle.std.specs.List.{flat_map}
use Rattle.desk_texts.specs.Days.{IsDay}
use Rattle.desk_texts.specs.declared.day.Day.{Day}
use Rattle.desk_entries.specs.declared.entry.BoxAt.{BoxAt}
use Rattle.desk_entries.specs.declared.entry.ClosedName.{ClosedName}
use Rattle.desk_entries.specs.declared.entry.Denial.{Denial}
use Rattle.desk_entries.specs.declared.entry.Denial.TheVariants.{Taken, Full}
use Rattle.desk_entries.specs.declared.entry.Denied.{Denied}
use Rattle.desk_entries.specs.declared.entry.Entry.{Entry}
use Rattle.desk_entries.specs.declared.entry.Entry.TheVariants.{Pair, Named, Registered, Refused, Read}
use Rattle.desk_entries.specs.declared.entry.Entry.TheVariants.{Retiring, Shown, Written, Closed}
use Rattle.desk_entries.specs.declared.entry.Held.{Held}
use Rattle.desk_entries.specs.declared.entry.Held.TheVariants.{Nothing, Letter, Met}
use Rattle.desk_entries.specs.declared.entry.NamedBoxes.{NamedBoxes}
use Rattle.desk_entries.specs.declared.entry.Reading.{Reading}
use Rattle.desk_entries.specs.Entries.{IsClosed, IsFormed, IsNamed}

-- the year in two bytes, the month, and the day of the month
abbrev pub day_record : Day → List ℕ
day_record d = to_be_bytes w16 d.year ++ d.month ∷ d.day ∷ []

-- how many addresses, the addresses in 16 bytes each, and the name
abbrev pub named_record : NamedBoxes → List ℕ
named_record n = length n.addresses ∷ flat_map (to_be_bytes w128) n.addresses ++ n.name

-- the day, if there is one
abbrev pub until_record : Option Day → List ℕ
until_record (Some d) = day_record d
until_record None = []

abbrev pub closed_record : ClosedName → List ℕ
closed_record c = day_record c.day ++ c.name

abbrev pub box_record : BoxAt → List ℕ
box_record b = to_be_bytes w32 b.serial ++ to_be_bytes w128 b.address

abbrev pub denial_byte : Denial → ℕ
denial_byte Taken = 0
denial_byte Full = 1

abbrev pub denied_record : Denied → List ℕ
denied_record d = denial_byte d.denial ∷ to_be_bytes w32 d.serial ++ to_be_bytes w128 d.address

abbrev pub held_record : Held → List ℕ
held_record Nothing = 0 ∷ []
held_record (Letter id text) = 1 ∷ to_be_bytes w64 id ++ text
held_record Met = 2 ∷ []

abbrev pub flag : Bool → ℕ
flag true = 1
flag false = 0

abbrev pub reading_record : Reading → List ℕ
reading_record r =
    flag r.last ∷ to_be_bytes w32 r.serial ++ to_be_bytes w32 r.registered ++ to_be_bytes w64 r.seconds
    ++ held_record r.held

-- the bytes are no reading's
abbrev pub IsNoReading : List ℕ → Type 0
IsNoReading bytes = (r : Reading) → bytes ≡ reading_record r → ⊥

abbrev pub IsNoNamed : List ℕ → Type 0
IsNoNamed bytes = (n : NamedBoxes) → IsNamed n → bytes ≡ named_record n → ⊥

-- no day of the calendar stands first
abbrev pub HasNoDay : List ℕ → Type 0
HasNoDay bytes = (d : Day) (rest : List ℕ) → IsDay d → bytes ≡ day_record d ++ rest → ⊥

abbrev pub IsNoDated : List ℕ → Type 0
IsNoDated bytes =
    (n : NamedBoxes) (d : Day) → IsNamed n → IsDay d → bytes ≡ day_record d ++ named_record n → ⊥

abbrev pub IsNoClosed : List ℕ → Type 0
IsNoClosed bytes = (c : ClosedName) → IsClosed c → bytes ≡ closed_record c → ⊥

-- ---- any entry

-- boxes whose card has a last day have a tag of their own
abbrev pub named_tag : Option Day → ℕ
named_tag (Some d) = 10
named_tag None = 2

abbrev pub tag : Entry → ℕ
tag (Pair text) = 1
tag (Named n) = named_tag n.until
tag (Registered b) = 3
tag (Refused d) = 4
tag (Read r) = 5
tag (Retiring name) = 6
tag (Shown count) = 7
tag (Written count) = 8
tag (Closed c) = 9

abbrev pub content : Entry → List ℕ
content (Pair text) = text
content (Named n) = until_record n.until ++ named_record n
content (Registered b) = box_record b
content (Refused d) = denied_record d
content (Read r) = reading_record r
content (Retiring name) = name
content (Shown count) = to_be_bytes w32 count
content (Written count) = to_be_bytes w32 count
content (Closed c) = closed_record c

-- a tag for each kind, and behind it what the entry holds
abbrev pub entry_record : Entry → List ℕ
entry_record e = tag e ∷ content e

-- ---- which values are entries

-- an entry of the form, with a record of at most 8,213 bytes
pub record IsEntry (e : Entry) : Type 0 where
  pub formed : IsFormed e
  pub few : length (entry_record e) ≤ 8213

abbrev pub AreEntries : List Entry → Type 0
AreEntries [] = Unit {0}
AreEntries (e ∷ entries) = IsEntry e × AreEntries entries

-- the record is no entry's
abbrev pub IsNoEntry : List ℕ → Type 0
IsNoEntry bytes = (e : Entry) → IsEntry e → bytes ≡ entry_record e → ⊥
