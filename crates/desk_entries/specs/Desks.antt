-- What is so of a desk after its entries: names, addresses, and what is left to be done.
use Rattle.std.specs.Prelude.{ℕ, ◌==◌, ◌||◌, ◌&&◌, not, if◌then◌else◌, Bool, true, false, List, [], ◌∷◌}
use Rattle.std.specs.Prelude.{Option, Some, None, bytes_eq, option_and_then}
use Rattle.std.specs.List.{filter, flat_map, list_any}
use Rattle.desk_texts.specs.declared.day.Day.{Day}
use Rattle.desk_entries.specs.declared.entry.Entry.{Entry}
use Rattle.desk_entries.specs.declared.entry.Entry.TheVariants.{Named, Registered, Refused, Read}
use Rattle.desk_entries.specs.declared.entry.Entry.TheVariants.{Retiring, Closed}
use Rattle.desk_entries.specs.declared.entry.NamedBoxes.{NamedBoxes}
use Rattle.desk_entries.specs.declared.standing.Standing.TheVariants.{Waiting}
use Rattle.desk_entries.specs.Standings.{stands}

-- ---- names

-- the first boxes with this name
abbrev pub named : List Entry → List ℕ → Option NamedBoxes
named [] name = None
named (Named n ∷ entries) name = if bytes_eq n.name name then Some n else named entries name
named (e ∷ entries) name = named entries name

abbrev pub retires_name : List ℕ → Entry → Bool
retires_name name (Retiring other) = bytes_eq other name
retires_name name e = false

-- the boxes with this name are to be retired
abbrev pub is_retiring : List Entry → List ℕ → Bool
is_retiring entries name = list_any (retires_name name) entries

-- the last day of the card of the boxes with this name
abbrev pub last_day : List Entry → List ℕ → Option Day
last_day entries name = option_and_then (λ n. n.until) (named entries name)

-- the day on which the boxes with this name were closed first
abbrev pub closed_at : List Entry → List ℕ → Option Day
closed_at [] name = None
closed_at (Closed c ∷ entries) name = if bytes_eq c.name name then Some c.day else closed_at entries name
closed_at (e ∷ entries) name = closed_at entries name

-- ---- addresses

abbrev pub is_among : ℕ → List ℕ → Bool
is_among address addresses = list_any (λ a. a == address) addresses

abbrev pub draws : ℕ → Entry → Bool
draws address (Named n) = is_among address n.addresses
draws address e = false

abbrev pub is_drawn : List Entry → ℕ → Bool
is_drawn entries address = list_any (draws address) entries

-- all different, and none was drawn before
abbrev pub are_new : List Entry → List ℕ → Bool
are_new entries [] = true
are_new entries (a ∷ addresses) =
    not (is_among a addresses || is_drawn entries a) && are_new entries addresses

-- the address of the box that this serial registered
abbrev pub address_of : List Entry → ℕ → Option ℕ
address_of [] registered = None
address_of (Registered b ∷ entries) registered =
    if b.serial == registered then Some b.address else address_of entries registered
address_of (e ∷ entries) registered = address_of entries registered

-- the name, where this address was drawn for it
abbrev pub name_with : ℕ → Entry → Option (List ℕ)
name_with address (Named n) = if is_among address n.addresses then Some n.name else None
name_with address e = None

abbrev pub name_or : Option (List ℕ) → List ℕ → List ℕ
name_or (Some name) other = name
name_or None other = other

-- the name for which this address was drawn
abbrev pub name_at : List Entry → ℕ → List ℕ
name_at [] address = []
name_at (e ∷ entries) address = name_or (name_with address e) (name_at entries address)

abbrev pub name_by : List Entry → Option ℕ → List ℕ
name_by entries (Some address) = name_at entries address
name_by entries None = []

-- the name of the box that this serial registered
abbrev pub name_of : List Entry → ℕ → List ℕ
name_of entries registered = name_by entries (address_of entries registered)

-- ---- what is left to be done

abbrev pub named_in : Entry → Option NamedBoxes
named_in (Named n) = Some n
named_in e = None

-- of a name that isn't to be retired the addresses of which nothing was heard
abbrev pub waiting_by : List Entry → Option NamedBoxes → List ℕ
waiting_by entries (Some n) =
    if is_retiring entries n.name then [] else filter (stands entries Waiting) n.addresses
waiting_by entries None = []

abbrev pub waiting_of : List Entry → Entry → List ℕ
waiting_of entries e = waiting_by entries (named_in e)

-- the addresses at which boxes are to be registered yet
abbrev pub waiting : List Entry → List ℕ
waiting entries = flat_map (waiting_of entries) entries

-- ---- outcomes

abbrev pub is_outcome : ℕ → Entry → Bool
is_outcome serial (Registered b) = b.serial == serial
is_outcome serial (Refused d) = d.serial == serial
is_outcome serial (Read r) = r.serial == serial
is_outcome serial e = false

-- an outcome of the request of this serial is noted
abbrev pub has_outcome : List Entry → ℕ → Bool
has_outcome entries serial = list_any (is_outcome serial) entries
