-- A leader's gate as a caller sees it, and what a lease makes of it.
use Rattle.std.specs.Prelude.{◌≡◌, ◌≤◌, ◌+◌, ◌-◌, ◌^◌, ◌⊎◌, ℕ, List, [], ◌∷◌, ◌++◌}
use Rattle.std.specs.Prelude.{Option, Some, None, Result, Ok, Err}
use Rattle.circular_buffer.specs.Buffer.{keep_last}
use Rattle.lane_gate.specs.declared.note.Note.{Note}
use Rattle.lane_gate.specs.declared.note.Note.TheVariants.{Key, Statement, Lease}
use Rattle.lane_gate.specs.Gates.{GateState, row_at, opened_gate, lease_answer, after_note}
use Rattle.lane_gate.specs.Holders.{last_serial}
use Rattle.lane_leases.specs.declared.ask.Ask.{Ask}
use Rattle.lane_leases.specs.declared.ask.Announced.{Announced}
use Rattle.lane_leases.specs.declared.ended.Ended.{Ended}
use Rattle.lane_leases.specs.declared.fault.UsedUp.{UsedUp}
use Rattle.lane_leases.specs.Resting.{HasRestedLongest, NoneRests}

-- the gate, and the ends that are remembered, the oldest one first
pub record LeasesState : Type 0 where
  pub gate : GateState
  pub ends : List Ended

abbrev pub opened_leases : ℕ → ℕ → LeasesState
opened_leases owners strangers = record { gate = opened_gate owners strangers; ends = [] }

abbrev pub with_gate : LeasesState → GateState → LeasesState
with_gate leases gate = record { gate = gate; ends = leases.ends }

-- with one end more, of which the last 4,096 are remembered
abbrev pub with_end : LeasesState → Ended → LeasesState
with_end leases ended = record { gate = leases.gate; ends = keep_last 4096 (leases.ends ++ ended ∷ []) }

-- the serial behind the last one
abbrev pub IsNext : Option ℕ → ℕ → Type 0
IsNext None serial = ⊥
IsNext (Some last) serial = serial ≡ last + 1

-- no strangers' lane has a serial left, or no number is left for a lease
abbrev pub IsUsedUp : GateState → Type 0
IsUsedUp gate = NoneRests gate.rows ⊎ (2 ^ 64 - 1 ≤ gate.leases)

-- A lease was given: of the lane that has rested longest, with its next serial, to the leader's ticket; and
-- it is announced with the hash of the helper's.
pub record IsLeased (before : LeasesState) (ask : Ask) (lease : Announced) (now : LeasesState) : Type 0 where
  pub rested : HasRestedLongest before.gate.rows lease.lane
  pub next : IsNext (last_serial (row_at before.gate.rows lease.lane).holder) lease.serial
  pub taken : lease_answer before.gate lease.lane lease.serial ≡ Ok tt
  pub leased : now ≡ with_gate before (after_note before.gate (Lease lease.lane lease.serial ask.own))
  pub announced : lease.hash ≡ ask.helper

-- what is told of an ask: a lease, or that all are used up, which changes nothing
abbrev pub IsTold : LeasesState → Ask → Result Announced UsedUp → LeasesState → Type 0
IsTold before ask (Ok lease) now = IsLeased before ask lease now
IsTold before ask (Err fault) now = IsUsedUp before.gate × (now ≡ before)

-- a note of a row: a key, or a statement
abbrev pub IsOfRow : Note → Type 0
IsOfRow (Key lane hash) = Unit {0}
IsOfRow (Statement lane serial hash) = Unit {0}
IsOfRow (Lease lane serial hash) = ⊥
