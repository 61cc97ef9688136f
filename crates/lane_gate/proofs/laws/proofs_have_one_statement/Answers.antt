use Rattle.lane_gate.proofs.StatementLaws.{proves-one-statement}
use Rattle.lane_gate.proofs.laws.proofs_have_one_statement.Goals as goal

pub returns : goal.returns
returns c = proves-one-statement
