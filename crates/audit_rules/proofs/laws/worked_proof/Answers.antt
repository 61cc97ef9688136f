use Rattle.audit_rules.proofs.Worked.{passes, refused, hidden_at_one}
use Rattle.audit_rules.proofs.laws.worked_proof.Goals as goal

pub returns : goal.returns
returns c = record { passes = passes; refused = refused; hidden = hidden_at_one }
