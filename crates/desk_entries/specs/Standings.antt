-- What is so of a desk after its entries: names, addresses, boxes, and what is left to be done.
use Rattle.std.specs.Prelude.{ℕ, ◌==◌, ◌&&◌, if◌then◌else◌, Bool, true, false, List, [], ◌∷◌}
use Rattle.std.specs.List.{list_any}
use Rattle.desk_entries.specs.declared.entry.Entry.{Entry}
use Rattle.desk_entries.specs.declared.entry.Entry.TheVariants.{Registered, Refused, Read}
use Rattle.desk_entries.specs.declared.standing.Standing.{Standing}
use Rattle.desk_entries.specs.declared.standing.Standing.TheVariants as standing

-- ---- boxes, each known by the serial that registered it

-- a box was read for the last time
abbrev pub retires : ℕ → Entry → Bool
retires registered (Read r) = r.last && (r.registered == registered)
retires registered e = false

abbrev pub is_retired : List Entry → ℕ → Bool
is_retired entries registered = list_any (retires registered) entries

-- ---- addresses

abbrev pub of_box : Bool → Standing
of_box true = standing.Retired
of_box false = standing.Live

-- the first entry that tells of the address decides
abbrev pub standing_in : List Entry → ℕ → List Entry → Standing
standing_in entries address [] = standing.Waiting
standing_in entries address (Registered b ∷ rest) =
    if b.address == address then of_box (is_retired entries b.serial) else standing_in entries address rest
standing_in entries address (Refused d ∷ rest) =
    if d.address == address then standing.Refused else standing_in entries address rest
standing_in entries address (e ∷ rest) = standing_in entries address rest

abbrev pub is_same : Standing → Standing → Bool
is_same standing.Waiting standing.Waiting = true
is_same standing.Live standing.Live = true
is_same standing.Retired standing.Retired = true
is_same standing.Refused standing.Refused = true
is_same one other = false

abbrev pub stands : List Entry → Standing → ℕ → Bool
stands entries standing address = is_same (standing_in entries address entries) standing
