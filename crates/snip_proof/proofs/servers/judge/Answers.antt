use Rattle.std.proofs.lemmas.Grind.{common_steps}
use Rattle.std.proofs.Common.{arith}
use Rattle.audit_rules.specs.Audit.{accepts, IsAccepted}
use Rattle.snip_proof.proofs.servers.judge.Goals as goal

pub returns-then-zero-one-eq0 : goal.returns-then-zero-one-eq0
unfolding accepts IsAccepted
returns-then-zero-one-eq0 c = grind (arith, common_steps)

pub returns-else-zero-one-eq0 : goal.returns-else-zero-one-eq0
unfolding accepts IsAccepted
returns-else-zero-one-eq0 c = grind (arith, common_steps)
