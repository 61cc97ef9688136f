-- Which addresses stand on the card of a name, and what its boxes held, by their places on it.
use Rattle.std.specs.Prelude.{ℕ, ◌-◌, ◌==◌, if◌then◌else◌, Bool, true, false, List, take, length}
use Rattle.std.specs.Prelude.{slice_get, Option, Some, None}
use Rattle.std.specs.List.{filter, filter_map, position}
use Rattle.known_pieces.specs.Known.{Reading as BoxReading}
use Rattle.kept_ledger.specs.declared.entry.Reading.{Reading}
use Rattle.kept_ledger.specs.declared.standing.Standing.{Standing}
use Rattle.kept_ledger.specs.declared.standing.Standing.TheVariants as standing
use Rattle.kept_ledger.specs.Ledgers.{LedgerState}
use Rattle.kept_ledger.specs.Standings.{addresses_in, named_boxes, readings_of, standing_of}

-- a box stands there, or stood
abbrev pub has_box : Standing → Bool
has_box standing.Live = true
has_box standing.Retired = true
has_box standing.Waiting = false
has_box standing.Refused = false

abbrev pub has_box_at : LedgerState → ℕ → Bool
has_box_at s address = has_box (standing_of s address)

-- of a name's addresses those that got a box, in order; a card has at most 64
abbrev pub card_addresses : LedgerState → List ℕ → List ℕ
card_addresses s name = take 64 (filter (has_box_at s) (addresses_in (named_boxes s.named name)))

abbrev pub is_at : ℕ → ℕ → Bool
is_at address one = one == address

-- what the box at this place of a card held, if it is as wide as the card's boxes
abbrev pub placed_at : (width : ℕ) → Reading → Option ℕ → Option BoxReading
placed_at width r None = None
placed_at width r (Some place) =
    if length r.bytes == width then Some (record { address = place; bytes = r.bytes }) else None

abbrev pub placed : (card : List ℕ) → (width : ℕ) → Reading → Option BoxReading
placed card width r = placed_at width r (position (is_at r.address) card)

-- what the boxes with a name held, oldest first, by their places on its card
abbrev pub box_readings : LedgerState → List ℕ → List BoxReading
box_readings s name = filter_map (placed (card_addresses s name) s.pair.width) (readings_of s name)

-- ---- when they were read

abbrev pub seconds_at : Option Reading → ℕ
seconds_at None = 0
seconds_at (Some r) = r.seconds

-- when the newest was made, and 0 where there is none
abbrev pub newest_seconds : List Reading → ℕ
newest_seconds readings = seconds_at (slice_get readings (length readings - 1))
