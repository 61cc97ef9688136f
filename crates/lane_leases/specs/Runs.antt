-- What a leader's gate does over whole lists of notes.
use Rattle.std.specs.Prelude.{◌≡◌, ℕ, List, [], ◌∷◌, Some, Result, Ok, Err}
use Rattle.circular_buffer.specs.Buffer.{keep_last}
use Rattle.kept_machine.specs.Machines.{Gives}
use Rattle.lane_gate.specs.declared.row.GateRow.{GateRow}
use Rattle.lane_gate.specs.Gates.{GateState}
use Rattle.lane_gate.specs.Runs.{Granted, Rise}
use Rattle.lane_leases.specs.declared.ask.Announced.{Announced}
use Rattle.lane_leases.specs.declared.ended.Ended.{Ended}
use Rattle.lane_leases.specs.declared.fault.UsedUp.{UsedUp}
use Rattle.lane_leases.specs.declared.record.LeaderNote.{LeaderNote}
use Rattle.lane_leases.specs.declared.record.LeaderNote.TheVariants as leader
use Rattle.lane_leases.specs.Ends.{last_end}
use Rattle.lane_leases.specs.Leases.{LeasesState, IsTold, IsOfRow, with_end}
use Rattle.lane_leases.specs.Machines.{leader_rules, IsStepOf}
use Rattle.lane_leases.specs.Resting.{HasRestedLongest}

-- ---- which lane

-- one lane has rested longest
abbrev pub OneRestedLongest : Type 0
OneRestedLongest = (rows : List GateRow) (a b : ℕ) → HasRestedLongest rows a → HasRestedLongest rows b → a ≡ b

-- ---- leases

-- a lease before the others, where one was given
abbrev pub given_before : Result Announced UsedUp → List Granted → List Granted
given_before (Ok lease) rest = record { lane = lease.lane; serial = lease.serial } ∷ rest
given_before (Err fault) rest = rest

-- the step of a note, and what leases are given by it and behind it
abbrev pub StepGives : LeaderNote → (before now : LeasesState) → (rest all : List Granted) → Type 0
StepGives (leader.Row note) before now rest all =
    IsOfRow note × IsStepOf (leader.Row note) before now × (all ≡ rest)
StepGives (leader.Asked ask) before now rest all =
    (told : Result Announced UsedUp) × IsTold before ask told now × (all ≡ given_before told rest)
StepGives (leader.Ended ended) before now rest all = IsStepOf (leader.Ended ended) before now × (all ≡ rest)

-- these notes make the second of the first, and give these leases, in this order
abbrev pub GivesLeases : LeasesState → List LeaderNote → List Granted → LeasesState → Type 0
GivesLeases before [] all now = (all ≡ []) × (now ≡ before)
GivesLeases before (note ∷ notes) all now =
    (then : LeasesState) × (rest : List Granted) × StepGives note before then rest all
    × GivesLeases then notes rest now

-- whatever is noted, the leases of each lane rise: no two have one lane and serial
abbrev pub LeaderLeasesRise : Type 0
LeaderLeasesRise = (before now : LeasesState) (notes : List LeaderNote) (all : List Granted) →
    GivesLeases before notes all now → Rise all

-- ---- ends

abbrev pub after_ends : LeasesState → List Ended → LeasesState
after_ends leases [] = leases
after_ends leases (ended ∷ ends) = after_ends (with_end leases ended) ends

-- the last 4,096 ends are remembered
abbrev pub LastEndsAreKept : Type 0
LastEndsAreKept = (gate : GateState) (ends : List Ended) →
    after_ends (record { gate = gate; ends = [] }) ends ≡ record { gate = gate; ends = keep_last 4096 ends }

-- the end that was remembered last is that of its ticket
abbrev pub LastEndIsTold : Type 0
LastEndIsTold = (leases : LeasesState) (ended : Ended) → last_end (with_end leases ended).ends ended.hash ≡ Some ended.end

-- ---- records

-- the same records give the same leader's gate
abbrev pub RecordsGiveOneLeader : Type 0
RecordsGiveOneLeader = (records : List (List ℕ)) (a b : LeasesState) →
    Gives leader_rules records a → Gives leader_rules records b → a ≡ b
