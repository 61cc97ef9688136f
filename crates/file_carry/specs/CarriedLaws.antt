-- What holds of parts that are carried over the table.
use Rattle.std.specs.Prelude.{◌≡◌, ◌<◌, ◌-◌, ◌++◌, ℕ, Bool, List, ◌∷◌, length, Some, Ok, Err}
use Rattle.mailbox_rules.specs.Requests.{Request, Write, ReadBox, request_at}
use Rattle.mailbox_rules.specs.Tables.{Gave, Registered, result_of, plain_writes}
use Rattle.file_carry.specs.Parts.{count_of}
use Rattle.file_carry.specs.Boxes.{join}
use Rattle.file_carry.specs.Laws.{CanBeCut}
use Rattle.file_carry.specs.Carried.{Journal, IsCarried, IsUnwritten, AreCarried, IsNothing, table_at}
use Rattle.file_carry.specs.Carried.{result_at, answers}

-- the read gives the part: as an entry of the journal, and at the table before it
pub record GivesPart (j : Journal) (address : ℕ) (part : List ℕ) (read : ℕ)
    (c : IsCarried j address part read) : Type 0 where
  pub result : result_at j read ≡ Some (Gave c.box part)
  pub there : result_of j.limit j.writes (table_at j read) c.line (ReadBox c.box) ≡ Gave c.box part

-- a read to which bytes as many as the width were carried gives them
abbrev pub PartsAreGiven : Type 0
PartsAreGiven = (j : Journal) (address : ℕ) (part : List ℕ) (read : ℕ) (c : IsCarried j address part read)
    → length part ≡ j.width → GivesPart j address part read c

-- the answers to the reads of all parts of a file join to the file
abbrev pub AnswersJoin : Type 0
AnswersJoin = (j : Journal) (file : List ℕ) (id : ℕ) (addresses reads : List ℕ) → CanBeCut file id j.width
    → length addresses ≡ count_of (length file) (j.width - 16)
    → AreCarried j file id 0 addresses reads → join (answers j reads) ≡ Ok file

-- where only the first parts are carried and the next box was not written, that part is named as missing
abbrev pub UnwrittenIsMissing : Type 0
UnwrittenIsMissing = (j : Journal) (file : List ℕ) (id : ℕ) (addresses reads : List ℕ) (read : ℕ)
    (more : List ℕ) → CanBeCut file id j.width → length addresses < count_of (length file) (j.width - 16)
    → AreCarried j file id 0 addresses reads → IsUnwritten j read
    → join (answers j (reads ++ read ∷ more)) ≡ Err (length addresses)

-- a box that a line registered is there ever after: so each write that begins later counts it
abbrev pub RegisteredStay : Type 0
RegisteredStay = (j : Journal) (register later box : ℕ) → result_at j register ≡ Some (Registered box)
    → register < later → box < length (table_at j later).boxes

-- what a client's write adds at its target and at each other address
pub record AddsItsMessage (sent : ℕ → List Request) (accepts : ℕ → ℕ → Bool) (lane serial target : ℕ)
    (message : List ℕ) : Type 0 where
  pub at_target : (plain_writes sent accepts).adds lane serial target ≡ message
  pub elsewhere : (width address : ℕ) → (target ≡ address → ⊥)
      → IsNothing width ((plain_writes sent accepts).adds lane serial address)

abbrev pub PlainWritesAdd : Type 0
PlainWritesAdd = (sent : ℕ → List Request) (accepts : ℕ → ℕ → Bool) (lane serial target : ℕ)
    (message : List ℕ) → request_at sent lane serial ≡ Some (Write target message)
    → AddsItsMessage sent accepts lane serial target message
