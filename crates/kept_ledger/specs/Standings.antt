-- How an address stands, and which addresses wait.
use Rattle.std.specs.Prelude.{ℕ, ◌==◌, if◌then◌else◌, Bool, true, false, List, [], Option, Some, None}
use Rattle.std.specs.List.{filter, find, flat_map}
use Rattle.kept_ledger.specs.declared.entry.Denial.{Denial}
use Rattle.kept_ledger.specs.declared.entry.Denial.TheVariants as denial
use Rattle.kept_ledger.specs.declared.entry.Denied.{Denied}
use Rattle.kept_ledger.specs.declared.entry.LedgerBox.{LedgerBox}
use Rattle.kept_ledger.specs.declared.entry.NamedBoxes.{NamedBoxes}
use Rattle.kept_ledger.specs.declared.entry.Reading.{Reading}
use Rattle.kept_ledger.specs.declared.standing.Standing.{Standing}
use Rattle.kept_ledger.specs.declared.standing.Standing.TheVariants as standing
use Rattle.kept_ledger.specs.Ledgers.{LedgerState, has_name, is_among}

-- the boxes with this name
abbrev pub named_boxes : List NamedBoxes → List ℕ → Option NamedBoxes
named_boxes named name = find (has_name name) named

abbrev pub of_box : Bool → Standing
of_box true = standing.Retired
of_box false = standing.Live

abbrev pub of_denial : Denial → Standing
of_denial denial.Taken = standing.Refused
of_denial denial.Full = standing.Refused
of_denial denial.Retired = standing.Retired

abbrev pub of_denied : Option Denied → Standing
of_denied None = standing.Waiting
of_denied (Some d) = of_denial d.denial

abbrev pub stands_at : ℕ → LedgerBox → Bool
stands_at address b = b.address == address

abbrev pub is_denied_at : ℕ → Denied → Bool
is_denied_at address d = d.address == address

abbrev pub standing_by : Option LedgerBox → Option Denied → Standing
standing_by (Some b) denied = of_box b.is_retired
standing_by None denied = of_denied denied

-- that of its box, if there is one, or else by what was told of it
abbrev pub standing_of : LedgerState → ℕ → Standing
standing_of s address =
    standing_by (find (stands_at address) s.boxes) (find (is_denied_at address) s.denied)

abbrev pub is_same : Standing → Standing → Bool
is_same standing.Waiting standing.Waiting = true
is_same standing.Live standing.Live = true
is_same standing.Retired standing.Retired = true
is_same standing.Refused standing.Refused = true
is_same one other = false

abbrev pub stands : LedgerState → Standing → ℕ → Bool
stands s standing address = is_same (standing_of s address) standing

abbrev pub addresses_in : Option NamedBoxes → List ℕ
addresses_in None = []
addresses_in (Some n) = n.addresses

-- the addresses of a name that stand so, in order
abbrev pub addresses_that : LedgerState → List ℕ → Standing → List ℕ
addresses_that s name standing = filter (stands s standing) (addresses_in (named_boxes s.named name))

abbrev pub is_read_at : List ℕ → Reading → Bool
is_read_at addresses r = is_among r.address addresses

-- what the boxes with a name held, oldest first
abbrev pub readings_of : LedgerState → List ℕ → List Reading
readings_of s name = filter (is_read_at (addresses_in (named_boxes s.named name))) s.readings

-- of a name that isn't to be retired the addresses of which nothing was heard
abbrev pub waiting_at : LedgerState → NamedBoxes → List ℕ
waiting_at s n = if n.is_retiring then [] else filter (stands s standing.Waiting) n.addresses

-- the addresses at which boxes are to be registered yet
unfoldable pub waiting : LedgerState → List ℕ
waiting s = flat_map (waiting_at s) s.named
