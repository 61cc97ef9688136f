-- The entries that outcomes leave.
use Rattle.std.specs.Prelude.{◌≡◌, ◌⊎◌, ℕ, ◌<◌, ◌≤◌, if◌then◌else◌, Bool, true, false, List, [], ◌∷◌, ◌++◌}
use Rattle.std.specs.Prelude.{drop, length}
use Rattle.std.specs.Prelude.{Option, Some, None, Result, IfOk, OnOk, OnErr, slice_get}
use Rattle.std.specs.Option.{option_to_list}
use Rattle.express_words.specs.declared.refusal.Refusal.{Refusal}
use Rattle.express_words.specs.declared.refusal.Refusal.TheVariants as refusal
use Rattle.step_rules.specs.Client.{Outcome, Registered, Accepted, Message, Refused}
use Rattle.client_restart.specs.declared.errand.Errand.{Errand}
use Rattle.client_restart.specs.declared.errand.Errand.TheVariants as errand
use Rattle.kept_machine.specs.declared.fault.KeepFault.{KeepFault}
use Rattle.client_restart.specs.declared.owned_box.OwnedBox.{OwnedBox}
use Rattle.client_restart.specs.Steps.{EndedRequest}
use Rattle.desk_letters.specs.Opening.{Content, Opens}
use Rattle.desk_letters.specs.Opening as content
use Rattle.desk_entries.specs.declared.entry.Denial.{Denial}
use Rattle.desk_entries.specs.declared.entry.Denial.TheVariants.{Taken, Full}
use Rattle.desk_entries.specs.declared.entry.Entry.{Entry}
use Rattle.desk_entries.specs.declared.entry.Entry.TheVariants as entry
use Rattle.desk_entries.specs.declared.entry.Held.{Held}
use Rattle.desk_entries.specs.declared.entry.Held.TheVariants.{Nothing, Letter, Met}
use Rattle.desk_entries.specs.declared.entry.Reading.{Reading}
use Rattle.desk_entries.specs.Desks.{has_outcome}
use Rattle.desk_entries.specs.Letters.{is_telling}
use Rattle.desk_ledger.specs.declared.stored.Stored.{Stored}
use Rattle.desk_ledger.specs.declared.storing.Read.{Read}
use Rattle.desk_ledger.specs.Ledgers.{LedgerState}

-- ---- a register

abbrev pub refused : ℕ → ℕ → Denial → Option Entry
refused serial address denial =
    Some (entry.Refused (record { serial = serial; address = address; denial = denial }))

-- the box, or that the address is taken or the servers are full
abbrev pub of_register : ℕ → ℕ → Outcome → Option Entry
of_register serial address (Registered number) =
    Some (entry.Registered (record { serial = serial; address = address }))
of_register serial address (Refused (refusal.Taken number)) = refused serial address Taken
of_register serial address (Refused (refusal.Full limit)) = refused serial address Full
of_register serial address outcome = None

-- ---- a box that was read

abbrev pub content_of : Held → Content
content_of Nothing = content.Empty
content_of (Letter id text) = content.Letter id text
content_of Met = content.Met

-- what a box with these bytes held; no box has more than 4,096
abbrev pub Holds : Held → List ℕ → Type 0
Holds held bytes = (length bytes ≤ 4096 → Opens (content_of held) bytes) × (4096 < length bytes → held ≡ Met)

abbrev pub serial_in : Option OwnedBox → ℕ
serial_in (Some b) = b.serial
serial_in None = 0

-- the serial that registered the own box of this number
abbrev pub registered_by : List OwnedBox → ℕ → ℕ
registered_by boxes own = serial_in (slice_get boxes own)

abbrev pub reading_of : Read → Held → Reading
reading_of r held = record {
  serial = r.serial;
  registered = r.registered;
  last = r.last;
  seconds = r.seconds;
  held = held;
}

-- the reading, where the box held something or is retired
abbrev pub told : Reading → Option Entry
told r = if is_telling r then Some (entry.Read r) else None

abbrev pub LeavesReading : Read → List ℕ → Option Entry → Type 0
LeavesReading r bytes found = (held : Held) × Holds held bytes × (found ≡ told (reading_of r held))

abbrev pub OfRead : Read → Outcome → Option Entry → Type 0
OfRead r (Message bytes) found = LeavesReading r bytes found
OfRead r outcome found = found ≡ None

-- a box that the servers don't have, or no longer, is retired
abbrev pub OfRetire : Read → Outcome → Option Entry → Type 0
OfRetire r (Message bytes) found = LeavesReading r bytes found
OfRetire r (Refused (refusal.NoBox number)) found = LeavesReading r [] found
OfRetire r outcome found = found ≡ None

-- ---- any outcome

abbrev pub read_by : List OwnedBox → ℕ → EndedRequest → ℕ → Bool → Read
read_by boxes seconds e own last =
    record { serial = e.serial; registered = registered_by boxes own; last = last; seconds = seconds }

abbrev pub LeavesBy : List OwnedBox → ℕ → EndedRequest → Errand → Option Entry → Type 0
LeavesBy boxes seconds e (errand.Register address) found = found ≡ of_register e.serial address e.outcome
LeavesBy boxes seconds e (errand.Write address) found = found ≡ None
LeavesBy boxes seconds e (errand.Read own) found = OfRead (read_by boxes seconds e own false) e.outcome found
LeavesBy boxes seconds e (errand.Retire own) found =
    OfRetire (read_by boxes seconds e own true) e.outcome found

-- the entry that an outcome leaves at this time
abbrev pub Leaves : List OwnedBox → ℕ → EndedRequest → Option Entry → Type 0
Leaves boxes seconds e found = LeavesBy boxes seconds e e.errand found

abbrev pub MissesBy : Bool → List OwnedBox → ℕ → EndedRequest → Option Entry → Type 0
MissesBy true boxes seconds e found = found ≡ None
MissesBy false boxes seconds e found = Leaves boxes seconds e found

-- the same, where no outcome of its serial is noted already
abbrev pub Misses : List Entry → List OwnedBox → ℕ → EndedRequest → Option Entry → Type 0
Misses entries boxes seconds e found = MissesBy (has_outcome entries e.serial) boxes seconds e found

-- the same of a ledger's entries and boxes
abbrev pub MissesAt : {D : Type 0} → LedgerState D → ℕ → EndedRequest → Option Entry → Type 0
MissesAt l seconds e found = Misses l.entries l.client.core.boxes seconds e found

-- ---- storing

-- P, of the oldest outcome that wasn't told, if there is one
abbrev pub OfOldest : {D : Type 0} → LedgerState D → (EndedRequest → Type 0) → Type 0
OfOldest l P = (e : EndedRequest) (rest : List EndedRequest) → l.client.core.untold ≡ e ∷ rest → P e

abbrev pub refusal_in : Outcome → Option Refusal
refusal_in (Refused refusal) = Some refusal
refusal_in (Registered number) = None
refusal_in Accepted = None
refusal_in (Message bytes) = None

abbrev pub stored_of : EndedRequest → Stored
stored_of e = record { serial = e.serial; errand = e.errand; refusal = refusal_in e.outcome }

-- behind the entries the one that is missing, if any
abbrev pub Adds : {D : Type 0} → ℕ → EndedRequest → (old new : LedgerState D) → Type 0
Adds seconds e old new =
    (found : Option Entry) × Misses old.entries old.client.core.boxes seconds e found
    × (new.entries ≡ old.entries ++ option_to_list found)

-- The oldest outcome's entry is there before the outcome is told to the client. Where a fault is answered it
-- isn't told, whether the entry is there or not.
pub record Stores {D : Type 0} (seconds : ℕ) (e : EndedRequest) (old new : LedgerState D)
    (r : Result (Option Stored) KeepFault) : Type 0 where
  pub answer : IfOk r (λ stored. stored ≡ Some (stored_of e))
  pub entry : OnOk r (Adds seconds e old new)
  pub told : OnOk r (new.client.core.untold ≡ drop 1 old.client.core.untold)
  pub untold : OnErr r (new.client.core.untold ≡ old.client.core.untold)
  pub no_other : OnErr r ((new.entries ≡ old.entries) ⊎ Adds seconds e old new)
  pub pair : new.pair ≡ old.pair
  pub opening : new.client.opening ≡ old.client.opening
  pub boxes : new.client.core.boxes ≡ old.client.core.boxes
  pub client : new.client.core.client ≡ old.client.core.client
