use Rattle.step_hiding.proofs.Real.{helpers_are_real, leaders_are_real}
use Rattle.step_hiding.proofs.worlds_have_the_tables.Goals as goal

pub returns : goal.returns
returns c = record { helper = helpers_are_real; leader = leaders_are_real }
