use Rattle.batch_audit.proofs.Values.{few_pass}
use Rattle.batch_audit.proofs.laws.few_values_pass.Goals as goal

pub returns : goal.returns
returns c = few_pass
