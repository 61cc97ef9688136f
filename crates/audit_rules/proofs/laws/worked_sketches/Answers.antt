use Rattle.audit_rules.proofs.Worked.{caught, squares, bad, hidden_verdict}
use Rattle.audit_rules.proofs.laws.worked_sketches.Goals as goal

pub returns : goal.returns
returns c = record { caught = caught; squares = squares; bad = bad; hidden = hidden_verdict }
