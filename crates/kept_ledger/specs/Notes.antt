-- What a ledger's journal notes, and the records of it. All numbers are big-endian.
use Rattle.std.specs.Prelude.{◌≡◌, ℕ, ◌<◌, ◌≤◌, ◌^◌, true, List, [], ◌∷◌, ◌++◌, length, Option, Some, None}
use Rattle.std.specs.Prelude.{IfSome}
use Rattle.std.specs.Int.{w16, w32, w64, w128, to_be_bytes}
use Rattle.std.specs.List.{flat_map}
use Rattle.std.specs.Str.{is_utf8}
use Rattle.express_words.specs.Limits.{IsWidth}
use Rattle.desk_sheets.specs.declared.sheet.OwnersServer.{OwnersServer}
use Rattle.desk_sheets.specs.declared.sheet.Pair.{Pair}
use Rattle.desk_texts.specs.Days.{IsDay}
use Rattle.desk_texts.specs.declared.day.Day.{Day}
use Rattle.kept_ledger.specs.declared.entry.Denial.{Denial}
use Rattle.kept_ledger.specs.declared.entry.Denial.TheVariants as denial
use Rattle.kept_ledger.specs.declared.entry.Denied.{Denied as DeniedAt}
use Rattle.kept_ledger.specs.declared.entry.Handling.{Handling}
use Rattle.kept_ledger.specs.declared.entry.Handling.TheVariants as handling
use Rattle.kept_ledger.specs.declared.entry.Marked.{Marked as MarkedLetter}
use Rattle.kept_ledger.specs.declared.entry.OwnBox.{OwnBox}
use Rattle.kept_ledger.specs.declared.entry.Reading.{Reading}
use Rattle.kept_ledger.specs.declared.note.CarriedReading.{CarriedReading}
use Rattle.kept_ledger.specs.declared.note.LedgerNote.{LedgerNote}
use Rattle.kept_ledger.specs.declared.note.LedgerNote.TheVariants as note
use Rattle.kept_ledger.specs.declared.note.WantedBoxes.{WantedBoxes}
use Rattle.kept_ledger.specs.declared.opening.LedgerOpening.{LedgerOpening}
use Rattle.kept_ledger.specs.declared.opening.ServerAt.{ServerAt}
use Rattle.kept_ledger.specs.declared.task.Task.{Task}
use Rattle.kept_ledger.specs.declared.task.Task.TheVariants as task
use Rattle.kept_ledger.specs.Names.{is_name}

-- ---- the opening

-- the pair, the seed of all that is drawn, and the serial of the first request
pub record Opening : Type 0 where
  pub pair : Pair
  pub seed : List ℕ
  pub first_serial : ℕ

abbrev pub plain_server : ServerAt → OwnersServer
plain_server s = record { place = s.place.now; key = s.key }

abbrev pub plain_opening : LedgerOpening → Opening
plain_opening o = record {
  pair = record {
    width = o.width;
    boxes = o.boxes;
    lane = o.lane;
    leader = plain_server o.leader;
    helper = plain_server o.helper;
  };
  seed = o.seed;
  first_serial = o.first_serial;
}

-- the tag, first serial, seed, width, boxes, lane, the keys of leader and helper, and their places, that of
-- the leader behind its length
abbrev pub opening_record : Opening → List ℕ
opening_record o =
    48 ∷ to_be_bytes w32 o.first_serial ++ (o.seed ++ (to_be_bytes w32 o.pair.width
    ++ (to_be_bytes w32 o.pair.boxes ++ (to_be_bytes w16 o.pair.lane
    ++ (o.pair.leader.key.0 ++ (o.pair.helper.key.0
    ++ (length o.pair.leader.place ∷ o.pair.leader.place ++ o.pair.helper.place)))))))

-- a place is a text of at most 255 bytes, and a key has 16 bytes
pub record IsServer (s : OwnersServer) : Type 0 where
  pub text : is_utf8 s.place ≡ true
  pub few : length s.place ≤ 255
  pub key : length s.key.0 ≡ 16

-- a width, 1 to 4,096 boxes, a lane, and two servers
pub record IsPair (p : Pair) : Type 0 where
  pub width : IsWidth p.width
  pub some : 1 ≤ p.boxes
  pub boxes : p.boxes ≤ 4096
  pub lane : p.lane < 2 ^ 16
  pub leader : IsServer p.leader
  pub helper : IsServer p.helper

-- a pair, 32 bytes, and a serial that isn't 0
pub record IsOpening (o : Opening) : Type 0 where
  pub pair : IsPair o.pair
  pub seed : length o.seed ≡ 32
  pub serial : 1 ≤ o.first_serial
  pub unspent : o.first_serial < 2 ^ 32

-- ---- the notes behind it

-- boxes that are wanted at these addresses, with a name and the last day of their card, if it has one
pub record Wanted : Type 0 where
  pub name : List ℕ
  pub addresses : List ℕ
  pub until : Option Day

-- Boxes with a name are wanted; those with this name are closed on a day; they are to be retired; a letter
-- was shown or written out; a request was asked; it is this time; a server's frame was heard; the current
-- request was given up. And of an earlier ledger: a box is owned; an address has no box to come; a box held
-- this.
pub data Noted : Type 0 where
  Named : Wanted → Noted
  Closed : (name : List ℕ) → Day → Noted
  Retiring : (name : List ℕ) → Noted
  Marked : MarkedLetter → Noted
  Asked : Task → Noted
  Time : (seconds : ℕ) → Noted
  Heard : (frame : List ℕ) → Noted
  GivenUp : Noted
  Owned : OwnBox → Noted
  Denied : DeniedAt → Noted
  Carried : Reading → Noted

abbrev pub plain_wanted : WantedBoxes → Wanted
plain_wanted w = record { name = w.name.now; addresses = w.addresses.now; until = w.until }

abbrev pub plain_reading : CarriedReading → Reading
plain_reading r = record { address = r.address; seconds = r.seconds; bytes = r.bytes.now }

abbrev pub plain_note : LedgerNote → Noted
plain_note (note.Named w) = Named (plain_wanted w)
plain_note (note.Closed c) = Closed c.name.now c.day
plain_note (note.Retiring name) = Retiring name.now
plain_note (note.Marked m) = Marked m
plain_note (note.Asked t) = Asked t
plain_note (note.Time seconds) = Time seconds
plain_note (note.Heard frame) = Heard frame.now
plain_note note.GivenUp = GivenUp
plain_note (note.Owned b) = Owned b
plain_note (note.Denied d) = Denied d
plain_note (note.Carried r) = Carried (plain_reading r)

-- ---- the parts of records

-- the year in two bytes, the month, and the day of the month
abbrev pub day_bytes : Day → List ℕ
day_bytes d = to_be_bytes w16 d.year ++ d.month ∷ d.day ∷ []

-- the day, or four zeros where there is none
abbrev pub until_bytes : Option Day → List ℕ
until_bytes (Some d) = day_bytes d
until_bytes None = 0 ∷ 0 ∷ 0 ∷ 0 ∷ []

-- addresses in 16 bytes each
abbrev pub address_bytes : List ℕ → List ℕ
address_bytes addresses = flat_map (to_be_bytes w128) addresses

-- how many addresses, the addresses, and the name
abbrev pub named_bytes : Wanted → List ℕ
named_bytes w = length w.addresses ∷ address_bytes w.addresses ++ w.name

-- the last day, and these
abbrev pub wanted_bytes : Wanted → List ℕ
wanted_bytes w = until_bytes w.until ++ named_bytes w

abbrev pub handling_tag : Handling → ℕ
handling_tag handling.Shown = 52
handling_tag handling.Written = 53

-- the letter's id, how many parts it has, and when it was shown or written
abbrev pub marked_bytes : MarkedLetter → List ℕ
marked_bytes m = to_be_bytes w64 m.mark.id ++ (m.mark.parts ∷ to_be_bytes w64 m.seconds)

abbrev pub task_record : Task → List ℕ
task_record (task.Register address) = 54 ∷ to_be_bytes w128 address
task_record (task.Read own) = 55 ∷ to_be_bytes w32 own
task_record (task.Retire own) = 56 ∷ to_be_bytes w32 own

-- number, serial and address
abbrev pub own_bytes : OwnBox → List ℕ
own_bytes b = to_be_bytes w32 b.number ++ (to_be_bytes w32 b.serial ++ to_be_bytes w128 b.address)

abbrev pub denial_byte : Denial → ℕ
denial_byte denial.Taken = 0
denial_byte denial.Full = 1
denial_byte denial.Retired = 2

abbrev pub denied_bytes : DeniedAt → List ℕ
denied_bytes d = denial_byte d.denial ∷ to_be_bytes w128 d.address

-- when it was read, at which address, and what it held
abbrev pub reading_bytes : Reading → List ℕ
reading_bytes r = to_be_bytes w64 r.seconds ++ (to_be_bytes w128 r.address ++ r.bytes)

-- a tag for each kind, and behind it what the note holds
abbrev pub note_record : Noted → List ℕ
note_record (Named w) = 49 ∷ wanted_bytes w
note_record (Closed name day) = 50 ∷ day_bytes day ++ name
note_record (Retiring name) = 51 ∷ name
note_record (Marked m) = handling_tag m.handling ∷ marked_bytes m
note_record (Asked t) = task_record t
note_record (Time seconds) = 57 ∷ to_be_bytes w64 seconds
note_record (Heard frame) = 58 ∷ frame
note_record GivenUp = 59 ∷ []
note_record (Owned b) = 60 ∷ own_bytes b
note_record (Denied d) = 61 ∷ denied_bytes d
note_record (Carried r) = 62 ∷ reading_bytes r

-- ---- which are notes

abbrev pub AreAddresses : List ℕ → Type 0
AreAddresses [] = Unit {0}
AreAddresses (a ∷ addresses) = (a < 2 ^ 128) × AreAddresses addresses

-- a name, 1 to 64 addresses, and a day of the calendar where there is one
pub record IsWanted (w : Wanted) : Type 0 where
  pub name : is_name w.name ≡ true
  pub some : 1 ≤ length w.addresses
  pub few : length w.addresses ≤ 64
  pub addresses : AreAddresses w.addresses
  pub until : IfSome w.until IsDay

abbrev pub IsTask : Task → Type 0
IsTask (task.Register address) = address < 2 ^ 128
IsTask (task.Read own) = own < 2 ^ 32
IsTask (task.Retire own) = own < 2 ^ 32

-- numbers fit their bytes, names are names, days are days, and a serial isn't 0
abbrev pub IsNote : Noted → Type 0
IsNote (Named w) = IsWanted w
IsNote (Closed name day) = (is_name name ≡ true) × IsDay day
IsNote (Retiring name) = is_name name ≡ true
IsNote (Marked m) = (m.mark.id < 2 ^ 64) × (m.seconds < 2 ^ 64)
IsNote (Asked t) = IsTask t
IsNote (Time seconds) = seconds < 2 ^ 64
IsNote (Heard frame) = Unit {0}
IsNote GivenUp = Unit {0}
IsNote (Owned b) = (b.number < 2 ^ 32) × (b.serial < 2 ^ 32) × (b.address < 2 ^ 128)
IsNote (Denied d) = d.address < 2 ^ 128
IsNote (Carried r) = (r.seconds < 2 ^ 64) × (r.address < 2 ^ 128)

-- at most as many bytes as a record has behind its tag and the other parts
abbrev pub FitsRecord : Noted → Type 0
FitsRecord (Heard frame) = length frame ≤ 8213
FitsRecord (Carried r) = length r.bytes ≤ 8189
FitsRecord note = Unit {0}
