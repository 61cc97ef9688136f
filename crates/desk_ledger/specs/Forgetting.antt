-- A ledger that follows another one.
use Rattle.std.specs.Prelude.{◌≡◌, ◌≢◌, ◌⊎◌, ℕ, ◌+◌, ◌≤◌, ◌^◌, List, [], None, false, max, is_some}
use Rattle.std.specs.Prelude.{if◌then◌else◌}
use Rattle.std.specs.List.{filter}
use Rattle.node_journal.specs.Disk.{DiskSeen}
use Rattle.kept_machine.specs.declared.fault.KeepFault.TheVariants.{NoMemory}
use Rattle.client_restart.specs.declared.opening.ClientOpening.{ClientOpening}
use Rattle.client_restart.specs.declared.owned_box.OwnedBox.{OwnedBox}
use Rattle.client_restart.specs.Kept.{ClientState, StandsByNotes}
use Rattle.client_restart.specs.Steps.{CoreState}
use Rattle.desk_entries.specs.declared.entry.Entry.{Entry}
use Rattle.desk_entries.specs.Letters.{unseen_of}
use Rattle.desk_ledger.specs.declared.fault.ForgetFault.{ForgetFault}
use Rattle.desk_ledger.specs.declared.fault.ForgetFault.TheVariants.{Busy, Spent, Unseen, Keep}
use Rattle.desk_ledger.specs.Ledgers.{LedgerState}
use Rattle.desk_ledger.specs.Tasks.{is_live}

-- ---- how its client is opened

-- as this client was opened, from this serial on
abbrev pub opening_at : {D : Type 0} → ℕ → ClientState D → ClientOpening
opening_at serial k = record k.opening { first_serial = serial }

-- from the next serial of a client that has no request
abbrev pub next_opening : {D : Type 0} → ClientState D → ClientOpening
next_opening k = opening_at k.core.client.serial k

-- the next serial: a request that is under way has used its own
abbrev pub next_serial : CoreState → ℕ
next_serial k = if is_some k.client.current then k.client.serial + 1 else k.client.serial

-- the serial from which a ledger goes on: this one, or its next one where that is higher
abbrev pub serial_from : ℕ → CoreState → ℕ
serial_from first k = max first (next_serial k)

abbrev pub opening_from : {D : Type 0} → ℕ → ClientState D → ClientOpening
opening_from first k = opening_at (serial_from first k.core) k

-- the boxes that aren't retired, in order
abbrev pub live_boxes : {D : Type 0} → LedgerState D → List OwnedBox
live_boxes l = filter (is_live l.entries) l.client.core.boxes

-- A client that has no request, and now has others' boxes or remarks besides: nothing else of it has changed,
-- and it is what its disk gives.
pub record GoesOn {D : Type 0} (shows : D → DiskSeen) (old new : ClientState D) : Type 0 where
  pub opening : new.opening ≡ old.opening
  pub idle : new.core.client.current ≡ None
  pub serial : new.core.client.serial ≡ old.core.client.serial
  pub untold : new.core.untold ≡ old.core.untold
  pub stands : (new ≡ old)
      ⊎ (new.journal.closed ≡ false → StandsByNotes new.opening new.core (shows new.disk).reads)

-- ---- why there is none

-- a request is current, or its outcome isn't stored
abbrev pub OnBusy : CoreState → ForgetFault → Type 0
OnBusy k Busy = (k.client.current ≢ None) ⊎ (k.untold ≢ [])
OnBusy k other = Unit {0}

-- an outcome isn't stored
abbrev pub OnUntold : CoreState → ForgetFault → Type 0
OnUntold k Busy = k.untold ≢ []
OnUntold k other = Unit {0}

-- a letter wasn't seen
abbrev pub OnUnseen : List Entry → ForgetFault → Type 0
OnUnseen entries Unseen = unseen_of entries ≢ 0
OnUnseen entries other = Unit {0}

-- serials are from 1 on, in four bytes
abbrev pub IsNoSerial : ℕ → Type 0
IsNoSerial serial = (serial ≡ 0) ⊎ (2 ^ 32 ≤ serial)

abbrev pub OnSpent : ℕ → ForgetFault → Type 0
OnSpent serial Spent = IsNoSerial serial
OnSpent serial other = Unit {0}

abbrev pub IsSpent : ℕ → ForgetFault → Type 0
IsSpent serial fault = (fault ≡ Spent) × IsNoSerial serial

-- ---- the faults of the old ledger

abbrev pub IsOfSeeing : ForgetFault → Type 0
IsOfSeeing fault = (fault ≡ Unseen) ⊎ (fault ≡ Keep NoMemory)

abbrev pub IsOfFollowing : ForgetFault → Type 0
IsOfFollowing fault = (fault ≡ Busy) ⊎ (fault ≡ Spent) ⊎ (fault ≡ Keep NoMemory)

abbrev pub IsOfJudging : ForgetFault → Type 0
IsOfJudging fault = (fault ≡ Unseen) ⊎ IsOfFollowing fault
