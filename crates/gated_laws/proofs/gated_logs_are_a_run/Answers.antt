use Rattle.gated_laws.proofs.Handing.{gated_logs_are_a_run}
use Rattle.gated_laws.proofs.gated_logs_are_a_run.Goals as goal

pub returns : goal.returns
returns c =
    let parts = c.cores_take_a_part_of_what_came.ensures in
    gated_logs_are_a_run parts.helper parts.leader c.logs_are_a_run.ensures
