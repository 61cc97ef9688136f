-- What an operator is told of each server's state.
use Rattle.std.specs.Prelude.{length}
use Rattle.many_servers.specs.declared.helper.HelperServer.{HelperServer}
use Rattle.many_servers.specs.declared.leader.LeaderServer.{LeaderServer}
use Rattle.server_status.specs.declared.figures.Figures.{Figures}
use Rattle.server_status.specs.Figures.{figures_of}

-- a helper answers commands at once: none is outstanding
abbrev pub helper_figures : HelperServer → Figures
helper_figures s = figures_of s.gated.gate (length s.gated.helper.server.boxes) 0

abbrev pub leader_figures : LeaderServer → Figures
leader_figures s =
    figures_of s.gated.leases.gate (length s.gated.leader.boxes) (length s.gated.leader.outstanding)
