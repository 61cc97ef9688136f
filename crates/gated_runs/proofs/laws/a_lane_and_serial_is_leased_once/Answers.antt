use Rattle.gated_runs.proofs.LeaseLaws.{helpers-lease-once, leaders-lease-once}
use Rattle.gated_runs.proofs.laws.a_lane_and_serial_is_leased_once.Goals as goal

pub returns-clause-helper : goal.returns-clause-helper
returns-clause-helper c = helpers-lease-once

pub returns-clause-leader : goal.returns-clause-leader
returns-clause-leader c = leaders-lease-once
