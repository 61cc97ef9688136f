-- What is left to be done, and why a name isn't taken.
use Rattle.std.specs.Prelude.{ℕ, ◌+◌, ◌-◌, ◌==◌, ◌&&◌, ◌||◌, not, nat_le, if◌then◌else◌, Bool, true, false}
use Rattle.std.specs.Prelude.{List, [], ◌∷◌, ◌++◌, length, Option, Some, None, slice_get}
use Rattle.std.specs.List.{list_any}
use Rattle.kept_ledger.specs.declared.entry.LedgerBox.{LedgerBox}
use Rattle.kept_ledger.specs.declared.entry.NamedBoxes.{NamedBoxes}
use Rattle.kept_ledger.specs.declared.fault.NameFault.{NameFault}
use Rattle.kept_ledger.specs.declared.fault.NameFault.TheVariants as fault
use Rattle.kept_ledger.specs.declared.task.Task.{Task}
use Rattle.kept_ledger.specs.declared.task.Task.TheVariants as task
use Rattle.kept_ledger.specs.Ledgers.{LedgerState, are_new, is_used, names_address}
use Rattle.kept_ledger.specs.Names.{is_name}
use Rattle.kept_ledger.specs.Standings.{waiting}

-- ---- boxes, each by its place among the client's own

abbrev pub is_live : LedgerBox → Bool
is_live b = not b.is_retired

abbrev pub retires_address : ℕ → NamedBoxes → Bool
retires_address address n = n.is_retiring && names_address address n

abbrev pub is_retiring_at : LedgerState → ℕ → Bool
is_retiring_at s address = list_any (retires_address address) s.named

-- live, and its name is to be retired
abbrev pub is_leaving : LedgerState → LedgerBox → Bool
is_leaving s b = is_live b && is_retiring_at s b.address

-- the place of the first such box, from a place on
abbrev pub place_of : (LedgerBox → Bool) → ℕ → List LedgerBox → Option ℕ
place_of is place [] = None
place_of is place (b ∷ boxes) = if is b then Some place else place_of is (place + 1) boxes

abbrev pub place_if : Bool → ℕ → List ℕ
place_if true place = place ∷ []
place_if false place = []

-- the places of all such boxes, from a place on
abbrev pub places_of : (LedgerBox → Bool) → ℕ → List LedgerBox → List ℕ
places_of is place [] = []
places_of is place (b ∷ boxes) = place_if (is b) place ++ places_of is (place + 1) boxes

abbrev pub live_places : LedgerState → List ℕ
live_places s = places_of is_live 0 s.boxes

-- ---- what is left to be done

abbrev pub retiring_task : Option ℕ → Option Task
retiring_task (Some own) = Some (task.Retire own)
retiring_task None = None

abbrev pub task_by : Option ℕ → Option ℕ → Option Task
task_by (Some address) leaving = Some (task.Register address)
task_by None leaving = retiring_task leaving

-- the first address at which a box is to be registered, or else the first box that is to be retired
abbrev pub next_task : LedgerState → Option Task
next_task s = task_by (slice_get (waiting s) 0) (place_of (is_leaving s) 0 s.boxes)

-- ---- names

-- how many boxes have room yet: those that stand and those that are to come are taken
abbrev pub room : LedgerState → ℕ
room s = (s.pair.boxes - length s.boxes) - length (waiting s)

-- why a name isn't taken, in the order in which this is judged
abbrev pub name_fault : LedgerState → (name addresses : List ℕ) → Option NameFault
name_fault s name addresses =
    if not (is_name name) then Some fault.Form else
    (if is_used s.named name then Some fault.Used else
    (if (length addresses == 0) || not (nat_le (length addresses) 64) then Some fault.Count else
    (if not (are_new s.named addresses) then Some fault.SameAddress else
    (if nat_le (length addresses) (room s) then None else Some (fault.NoRoom (room s))))))
