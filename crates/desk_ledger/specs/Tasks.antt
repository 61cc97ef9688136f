-- What a desk asks, and what is left to be done.
use Rattle.std.specs.Prelude.{ℕ, ◌+◌, ◌-◌, ◌==◌, ◌||◌, ◌&&◌, nat_le, not, if◌then◌else◌, Bool, true, false}
use Rattle.std.specs.Prelude.{List, [], ◌∷◌}
use Rattle.std.specs.Prelude.{◌++◌, length, Option, Some, None, IsOk, is_some}
use Rattle.mailbox_rules.specs.Requests.{Request}
use Rattle.mailbox_rules.specs.Requests as plain
use Rattle.step_rules.specs.ClientAsks.{asked}
use Rattle.client_restart.specs.declared.owned_box.OwnedBox.{OwnedBox}
use Rattle.desk_entries.specs.declared.entry.Entry.{Entry}
use Rattle.desk_entries.specs.Desks.{are_new, is_retiring, name_of, named, waiting}
use Rattle.desk_entries.specs.Names.{is_name}
use Rattle.desk_entries.specs.Standings.{is_retired}
use Rattle.desk_ledger.specs.declared.fault.NameFault.{NameFault}
use Rattle.desk_ledger.specs.declared.fault.NameFault.TheVariants as fault
use Rattle.desk_ledger.specs.Ledgers.{LedgerState}
use Rattle.desk_ledger.specs.declared.task.Task.{Task}
use Rattle.desk_ledger.specs.declared.task.Task.TheVariants as task

abbrev pub request_of : Task → Request
request_of (task.Register address) = plain.Register address
request_of (task.Read own) = plain.Read own
request_of (task.Retire own) = plain.Retire own

-- the ledger's client takes the request of this task
abbrev pub TakesTask : {D : Type 0} → LedgerState D → Task → Type 0
TakesTask l t = IsOk (asked l.client.core.client (request_of t))

-- ---- names

-- how many boxes have room yet: of a capacity those that stand and those that are to come are taken
abbrev pub room : ℕ → List OwnedBox → List Entry → ℕ
room capacity boxes entries = (capacity - length boxes) - length (waiting entries)

-- why a name isn't taken, in the order in which this is judged
abbrev pub name_fault : ℕ → List OwnedBox → List Entry → List ℕ → List ℕ → Option NameFault
name_fault capacity boxes entries name addresses =
    if not (is_name name) then Some fault.Form else
    (if is_some (named entries name) then Some fault.Used else
    (if (length addresses == 0) || not (nat_le (length addresses) 64) then Some fault.Count else
    (if not (are_new entries addresses) then Some fault.SameAddress else
    (if nat_le (length addresses) (room capacity boxes entries) then None else
    Some (fault.NoRoom (room capacity boxes entries))))))

-- why a ledger doesn't take it
abbrev pub fault_at : {D : Type 0} → LedgerState D → (name addresses : List ℕ) → Option NameFault
fault_at l name addresses =
    name_fault l.client.opening.capacity l.client.core.boxes l.entries name addresses

-- ---- boxes

abbrev pub is_live : List Entry → OwnedBox → Bool
is_live entries b = not (is_retired entries b.serial)

-- live, and its name is to be retired
unfoldable pub is_leaving : List Entry → OwnedBox → Bool
is_leaving entries b = is_live entries b && is_retiring entries (name_of entries b.serial)

-- the place of the first such box, from a place on
abbrev pub place_of : (OwnedBox → Bool) → ℕ → List OwnedBox → Option ℕ
place_of is place [] = None
place_of is place (b ∷ boxes) = if is b then Some place else place_of is (place + 1) boxes

-- the place, if it is one
abbrev pub place_if : Bool → ℕ → List ℕ
place_if true place = place ∷ []
place_if false place = []

-- the places of all such boxes, from a place on
abbrev pub places_of : (OwnedBox → Bool) → ℕ → List OwnedBox → List ℕ
places_of is place [] = []
places_of is place (b ∷ boxes) = place_if (is b) place ++ places_of is (place + 1) boxes

-- those of a ledger's live boxes
abbrev pub live_places : {D : Type 0} → LedgerState D → List ℕ
live_places l = places_of (is_live l.entries) 0 l.client.core.boxes

-- ---- what is left to be done

abbrev pub retiring_task : Option ℕ → Option Task
retiring_task (Some own) = Some (task.Retire own)
retiring_task None = None

abbrev pub task_by : List ℕ → Option ℕ → Option Task
task_by (address ∷ addresses) leaving = Some (task.Register address)
task_by [] leaving = retiring_task leaving

-- the next box to be registered, or else to be retired
abbrev pub next_task : List Entry → List OwnedBox → Option Task
next_task entries boxes = task_by (waiting entries) (place_of (is_leaving entries) 0 boxes)
