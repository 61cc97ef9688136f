-- How a server behind its gate is opened, and the record of it.
use Rattle.std.specs.Prelude.{◌≡◌, ◌+◌, ℕ, List, ◌++◌}
use Rattle.lane_gate.specs.Openings as gate
use Rattle.lane_gate.specs.Openings.{IsGateOpening}
use Rattle.node_restart.specs.Openings as server
use Rattle.node_restart.specs.Openings.{IsOpening}
use Rattle.gated_servers.specs.declared.opening.GatedOpening.{GatedOpening}

-- the gate has a row for each lane of the server
pub record IsGatedOpening (o : GatedOpening) : Type 0 where
  pub server : IsOpening o.server
  pub gate : IsGateOpening o.gate
  pub lanes : o.gate.owners + o.gate.strangers ≡ o.server.settings.lanes

abbrev pub gated_record : GatedOpening → List ℕ
gated_record o = server.opening_record o.server ++ gate.opening_record o.gate
