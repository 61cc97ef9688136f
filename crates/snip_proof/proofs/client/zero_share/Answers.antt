use Rattle.std.proofs.Common.{refl}
use Rattle.audit_rules.specs.Audit.{zero_share}
use Rattle.snip_proof.proofs.client.zero_share.Goals as goal

pub returns : goal.returns
unfolding zero_share
returns c = record { share = refl }
