-- How a gate is opened, and the record of it.
use Rattle.std.specs.Prelude.{◌+◌, ◌≤◌, ℕ, List, ◌∷◌, ◌++◌}
use Rattle.std.specs.Int.{w16, to_be_bytes}
use Rattle.lane_gate.specs.declared.opening.GateOpening.{GateOpening}

-- at most 256 lanes in all
abbrev pub IsGateOpening : GateOpening → Type 0
IsGateOpening o = o.owners + o.strangers ≤ 256

-- the record's tag, and how many lanes are owners' and the strangers', big-endian
abbrev pub opening_record : GateOpening → List ℕ
opening_record o = (16 ∷ to_be_bytes w16 o.owners) ++ to_be_bytes w16 o.strangers
