use Rattle.gated_runs.proofs.HelperLaws.{helpers-carry}
use Rattle.gated_runs.proofs.LeaderLaws.{leaders-carry}
use Rattle.gated_runs.proofs.laws.logged_frames_carry_their_tickets.Goals as goal

pub returns-clause-helper : goal.returns-clause-helper
returns-clause-helper c = helpers-carry c.tests_are_the_gates.ensures

pub returns-clause-leader : goal.returns-clause-leader
returns-clause-leader c = leaders-carry c.tests_are_the_gates.ensures
