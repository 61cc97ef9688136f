-- What an operator is told of a server's state.
use Rattle.std.specs.Prelude.{ℕ, max, List, [], ◌∷◌, length}
use Rattle.lane_gate.specs.declared.holder.Holder.{Holder}
use Rattle.lane_gate.specs.declared.holder.Holder.TheVariants.{Keyless, Owner, Free, Leased}
use Rattle.lane_gate.specs.declared.row.GateRow.{GateRow}
use Rattle.lane_gate.specs.Gates.{GateState}
use Rattle.server_status.specs.declared.figures.Figures.{Figures}

-- a lease's number among all, from 1; 0 where there is none
abbrev pub number_of : Holder → ℕ
number_of Keyless = 0
number_of (Owner hash) = 0
number_of Free = 0
number_of (Leased lease) = lease.number

abbrev pub lease_number : GateRow → ℕ
lease_number row = number_of row.holder

-- The highest number of a lease: how many were given.
abbrev pub last_lease : List GateRow → ℕ
last_lease [] = 0
last_lease (row ∷ rows) = max (lease_number row) (last_lease rows)

abbrev pub figures_of : GateState → (boxes outstanding : ℕ) → Figures
figures_of gate boxes outstanding = record {
  boxes = boxes;
  lanes = length gate.rows;
  leases = last_lease gate.rows;
  outstanding = outstanding;
}
