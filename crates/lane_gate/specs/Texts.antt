-- The texts of faults.
use Rattle.std.specs.Prelude.{ℕ, List, codes}
use Rattle.lane_gate.specs.declared.fault.GateFault.{GateFault}
use Rattle.lane_gate.specs.declared.fault.GateFault.TheVariants as fault

abbrev pub fault_text : GateFault → List ℕ
fault_text fault.NotOwners = codes "not an owner's lane"
fault_text fault.NotStrangers = codes "not a strangers' lane"
fault_text fault.HasLease = codes "serial leased"
fault_text fault.NoRequest = codes "no such request"
fault_text fault.HasStatement = codes "serial has a statement"
fault_text fault.NoNumber = codes "no lease number"
