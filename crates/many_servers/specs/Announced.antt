-- A lease as the leader announces it: the record that the helper's log takes of it.
use Rattle.std.specs.Prelude.{ℕ, ◌==◌, ◌&&◌, Bool, false, nat_lt, List, [], ◌∷◌, length, drop, Option, Some, None, if◌then◌else◌}
use Rattle.lane_gate.specs.declared.note.Note.TheVariants.{Lease}
use Rattle.lane_gate.specs.Gates.{GateState, row_at}
use Rattle.lane_gate.specs.Holders.{last_serial}
use Rattle.lane_gate.specs.Notes.{note_record}
use Rattle.lane_leases.specs.declared.ask.Announced.{Announced}
use Rattle.gated_servers.specs.Records.{note_lane, note_serial}

abbrev pub announced_record : Announced → List ℕ
announced_record lease = note_record (Lease lease.lane lease.serial lease.hash)

-- the lease that a record is, by its tag and its length
abbrev pub announced_in : List ℕ → Option Announced
announced_in [] = None
announced_in (tag ∷ rest) =
    if (tag == 19) && (length rest == 38)
    then Some (record { lane = note_lane rest; serial = note_serial rest; hash = record { 0 = drop 6 rest } })
    else None

abbrev pub is_above : Option ℕ → ℕ → Bool
is_above None serial = false
is_above (Some last) serial = nat_lt last serial

-- its serial is above the last one of its lane, which is a strangers'
abbrev pub is_next : GateState → Announced → Bool
is_next gate lease = is_above (last_serial (row_at gate.rows lease.lane).holder) lease.serial
