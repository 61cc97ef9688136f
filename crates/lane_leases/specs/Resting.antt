-- Which lane has rested longest.
use Rattle.std.specs.Prelude.{◌≡◌, ◌≤◌, ◌-◌, ◌^◌, ℕ, nat_lt, if◌then◌else◌, List, Option, Some, None}
use Rattle.lane_gate.specs.declared.holder.Holder.{Holder}
use Rattle.lane_gate.specs.declared.holder.Holder.TheVariants.{Keyless, Owner, Free, Leased}
use Rattle.lane_gate.specs.declared.row.GateRow.{GateRow}
use Rattle.lane_gate.specs.Gates.{row_at}

-- since which lease a strangers' lane rests that has a serial left: 0 where it was never leased
abbrev pub holder_rested : Holder → Option ℕ
holder_rested Keyless = None
holder_rested (Owner key) = None
holder_rested Free = Some 0
holder_rested (Leased lease) = if nat_lt lease.serial (2 ^ 32 - 1) then Some lease.number else None

abbrev pub rested : GateRow → Option ℕ
rested row = holder_rested row.holder

-- no other lane rests since an earlier lease, and of those that do since the same this is the first
pub record HasRestedLongest (rows : List GateRow) (lane : ℕ) : Type 0 where
  pub since : ℕ
  pub rests : rested (row_at rows lane) ≡ Some since
  pub longest : (other at : ℕ) → rested (row_at rows other) ≡ Some at → since ≤ at
  pub first : (other : ℕ) → rested (row_at rows other) ≡ Some since → lane ≤ other

abbrev pub NoneRests : List GateRow → Type 0
NoneRests rows = (lane : ℕ) → rested (row_at rows lane) ≡ None
