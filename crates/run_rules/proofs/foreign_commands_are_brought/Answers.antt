use Rattle.run_rules.proofs.BroughtEnds.{commands_were_brought}
use Rattle.run_rules.proofs.foreign_commands_are_brought.Goals as goal

pub returns : goal.returns
returns c = commands_were_brought
