use Rattle.audit_rules.proofs.ValueLemmas.{audit-in_range, values_tell, passes_tell}
use Rattle.audit_rules.proofs.laws.values_accept.Goals as goal

pub returns : goal.returns
returns c = record {
  in_range = audit-in_range;
  accept = values_tell;
  passes = passes_tell;
}
