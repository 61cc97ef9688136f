-- A ledger that is worked off at its pair's doors.
use Rattle.std.specs.Prelude.{◌≡◌, ◌++◌, ℕ, false, List, [], ◌∷◌, map, Option, Result, Ok, Err, codes}
use Rattle.express_words.specs.Calls.{Call}
use Rattle.express_words.specs.Seen.{Seen}
use Rattle.express_words.specs.declared.role.Role.{Role}
use Rattle.desk_sheets.specs.declared.sheet.Pair.{Pair}
use Rattle.http_door.specs.Values.{is_value}
use Rattle.kept_machine.specs.Kept.{KeptState}
use Rattle.node_journal.specs.Disk.{DiskSeen}
use Rattle.door_work.specs.Steps.{place_of, wanted}
use Rattle.door_work.specs.Texts.{halt_text, role_text}
use Rattle.door_work.specs.Works.{KeptStep, WorkedOff}
use Rattle.door_work.specs.declared.halt.Halt.{Halt}
use Rattle.door_work.specs.declared.places.Places.{Places}
use Rattle.kept_ledger.specs.declared.machine.KeptLedger.{KeptLedger}
use Rattle.kept_ledger.specs.declared.working.Unworked.{Unworked}
use Rattle.kept_ledger.specs.declared.working.Unworked.TheVariants as unworked
use Rattle.kept_ledger.specs.Asking.{ledger_asking, ledger_wants}
use Rattle.kept_ledger.specs.Ledgers.{LedgerState, fold_from, ledger_after}
use Rattle.kept_ledger.specs.Machines.{ledger_rules}
use Rattle.kept_ledger.specs.Notes.{Opening, Noted, Heard}

-- the doors are those that the pair names
pub record ArePairsPlaces (pair : Pair) (places : Places) : Type 0 where
  pub leader : places.leader ≡ pair.leader.place
  pub helper : places.helper ≡ pair.helper.place

-- ---- whose requests go out

-- each of these steps is what some notes of a ledger with this opening leave it to do
abbrev pub AreOfLedger : Opening → List KeptStep → Type 0
AreOfLedger o [] = Unit {0}
AreOfLedger o (made ∷ others) =
    ((notes : List Noted) × (ledger_wants (ledger_after o notes) ≡ wanted made.step)) × AreOfLedger o others

-- All steps are those of one ledger, and so is the last one, which halted or had nothing left to do.
pub record IsOneLedger (made : List KeptStep) (last : LedgerState) : Type 0 where
  pub opening : Opening
  pub steps : AreOfLedger opening made
  pub notes : List Noted
  pub came_to : last ≡ ledger_after opening notes

-- It was worked off at the doors that its pair names, and what was asked there is what the ledger had to ask.
pub record WorkedAtPair {D : Type 0} (shows : D → DiskSeen) (counts : D → Seen)
    (old new : KeptState KeptLedger D) (result : Result (Unit {0}) Halt) (before now : Option (List Call))
    : Type 0 where
  pub places : Places
  pub are : ArePairsPlaces old.machine.ledger.state.pair places
  pub works : WorkedOff ledger_rules ledger_asking places shows counts old new result before now
  pub own : old.journal.closed ≡ false → IsOneLedger works.made works.last.machine.ledger.state

-- what was noted from the one to the other are frames that were heard, and nothing else
abbrev pub HearsOnly : LedgerState → LedgerState → Type 0
HearsOnly s now = (frames : List (List ℕ)) × (now ≡ fold_from s (map Heard frames))

-- ---- what came of it

abbrev pub pair_place : Pair → Role → List ℕ
pair_place pair server =
    place_of (record { leader = pair.leader.place; helper = pair.helper.place }) server

-- The ledger came to rest, or the work halted; or the pair names no door, or no memory was found, and nothing
-- was done.
abbrev pub LedgerWorked : {D : Type 0} → (D → DiskSeen) → (D → Seen) → (old new : KeptState KeptLedger D)
    → Result (Unit {0}) Unworked → (before now : Option (List Call)) → Type 0
LedgerWorked shows counts old new (Ok done) before now =
    WorkedAtPair shows counts old new (Ok done) before now
LedgerWorked shows counts old new (Err (unworked.Halted why)) before now =
    WorkedAtPair shows counts old new (Err why) before now
LedgerWorked shows counts old new (Err (unworked.NoPlace server)) before now =
    (is_value (pair_place old.machine.ledger.state.pair server) ≡ false) × (new ≡ old) × (now ≡ before)
LedgerWorked shows counts old new (Err unworked.NoMemory) before now = (new ≡ old) × (now ≡ before)

-- the halt of the work, where that halted
abbrev pub work_of : Result (Unit {0}) Unworked → Result (Unit {0}) Halt
work_of (Ok done) = Ok done
work_of (Err (unworked.Halted why)) = Err why
work_of (Err (unworked.NoPlace server)) = Ok tt
work_of (Err unworked.NoMemory) = Ok tt

-- ---- texts

abbrev pub unworked_text : Unworked → List ℕ
unworked_text (unworked.NoPlace server) =
    codes "the pair's place of " ++ (role_text server ++ codes " is no door's")
unworked_text unworked.NoMemory = codes "out of memory"
unworked_text (unworked.Halted why) = halt_text why
