use Rattle.audit_rules.proofs.Soundness.{bad_r-fixed, bad_s-fixed}
use Rattle.audit_rules.proofs.laws.bad_values_are_fixed.Goals as goal

pub returns : goal.returns
returns c = record {
  r = bad_r-fixed;
  s = bad_s-fixed;
}
