-- A helper behind its gate: what each record makes of both.
use Rattle.std.specs.Prelude.{ℕ, ◌==◌, List, [], ◌∷◌, Option, Some, None, if◌then◌else◌}
use Rattle.frame_rules.specs.Whole.{whole}
use Rattle.step_rules.specs.Helper.{Helper, row_at, opened_helper}
use Rattle.step_rules.specs.HelperClients.{on_client}
use Rattle.step_rules.specs.HelperCommands.{on_link_bytes}
use Rattle.helper_core.specs.Challenged.{challenged_in}
use Rattle.lane_gate.specs.declared.note.Note.{Note}
use Rattle.lane_gate.specs.Gates.{after_note, opened_gate}
use Rattle.gated_servers.specs.Frames.{passes_link, request_open, lane_in}
use Rattle.gated_servers.specs.Records.{note_in}
use Rattle.gated_servers.specs.Statements.{with_statement_of}
use Rattle.gated_servers.specs.declared.helper.GatedHelper.{GatedHelper}
use Rattle.gated_servers.specs.declared.opening.GatedOpening.{GatedOpening}

abbrev pub opened_gated : GatedOpening → GatedHelper
opened_gated o = record {
  opening = o;
  helper = opened_helper o.server.settings o.server.seed;
  gate = opened_gate o.gate.owners o.gate.strangers;
}

-- The helper took a frame of this lane. Where a write of the lane waits for its proof now, the gate has its statement.
abbrev pub helper_took : GatedHelper → ℕ → Helper → GatedHelper
helper_took s lane helper = record s {
  helper = helper;
  gate = with_statement_of lane (challenged_in (row_at helper.server lane)) s.gate;
}

-- A client's bytes: one frame of a lane and serial of which somebody may still send frames is handed on.
abbrev pub helper_heard : GatedHelper → List ℕ → GatedHelper
helper_heard s bytes = if request_open s.gate (whole bytes)
    then helper_took s (lane_in (whole bytes)) (on_client s.helper bytes).helper else s

-- The leader's bytes: one command, but no audit at the point 1 or 2, is handed on.
abbrev pub helper_commanded : GatedHelper → List ℕ → GatedHelper
helper_commanded s bytes = if passes_link (whole bytes)
    then helper_took s (lane_in (whole bytes)) (on_link_bytes s.helper bytes).helper else s

-- a key, or a lease that the leader announced
abbrev pub helper_noted : GatedHelper → Option Note → GatedHelper
helper_noted s None = s
helper_noted s (Some note) = record s { gate = after_note s.gate note }

-- what a record makes of them, by its tag
abbrev pub helper_after : GatedHelper → List ℕ → GatedHelper
helper_after s [] = s
helper_after s (tag ∷ rest) =
    if tag == 1 then helper_heard s rest else
    (if tag == 2 then helper_commanded s rest else helper_noted s (note_in tag rest))
