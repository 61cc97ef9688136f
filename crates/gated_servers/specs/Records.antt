-- What the records of a gated server's log are.
use Rattle.std.specs.Prelude.{ℕ, ◌==◌, ◌⊎◌, List, [], ◌∷◌, take, drop, Option, Some, None, if◌then◌else◌}
use Rattle.std.specs.Int.{w16, w32, from_be_bytes}
use Rattle.lane_gate.specs.declared.note.Note.{Note}
use Rattle.lane_gate.specs.declared.note.Note.TheVariants.{Key, Statement, Lease}
use Rattle.lane_gate.specs.Machines.{IsNoteRecord}
use Rattle.lane_leases.specs.declared.ask.Ask.{Ask}
use Rattle.lane_leases.specs.declared.ended.Ended.{Ended}
use Rattle.lane_leases.specs.declared.ended.End.{End}
use Rattle.lane_leases.specs.declared.ended.End.TheVariants.{Written, NotWritten}
use Rattle.lane_leases.specs.Machines as leases
use Rattle.node_restart.specs.Machines.{IsFrameRecord}

-- the parts of a note's record behind its tag: a lane, a serial, and a hash of 32 bytes
abbrev pub note_lane : List ℕ → ℕ
note_lane rest = from_be_bytes w16 (take 2 rest)

abbrev pub note_serial : List ℕ → ℕ
note_serial rest = from_be_bytes w32 (take 4 (drop 2 rest))

-- the note of a record by its tag, and what stands behind it
abbrev pub note_in : ℕ → List ℕ → Option Note
note_in tag rest =
    if tag == 17 then Some (Key (note_lane rest) (record { 0 = drop 6 rest })) else
    (if tag == 18 then Some (Statement (note_lane rest) (note_serial rest) (record { 0 = drop 6 rest })) else
    (if tag == 19 then Some (Lease (note_lane rest) (note_serial rest) (record { 0 = drop 6 rest })) else None))

-- the record of a helper's log is a frame's, or a note's
abbrev pub IsHelperRecord : List ℕ → Type 0
IsHelperRecord bytes = IsFrameRecord bytes ⊎ IsNoteRecord bytes

-- that of a leader's is a frame's, or a note's of its gate
abbrev pub IsLeaderRecord : List ℕ → Type 0
IsLeaderRecord bytes = IsFrameRecord bytes ⊎ leases.IsLeaderRecord bytes

-- what is asked, and how a request ended, of what stands behind their tags
abbrev pub ask_in : List ℕ → Ask
ask_in rest = record { own = record { 0 = take 32 rest }; helper = record { 0 = drop 32 rest } }

abbrev pub end_of : ℕ → End
end_of number = if number == 1 then Written else NotWritten

abbrev pub ended_of : List ℕ → Option Ended
ended_of [] = None
ended_of (number ∷ hash) = Some (record { hash = record { 0 = hash }; end = end_of number })
