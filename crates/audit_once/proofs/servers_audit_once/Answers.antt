use Rattle.audit_once.proofs.HelperOnce.{helpers_audit_once}
use Rattle.audit_once.proofs.LeaderOnce.{leaders_audit_once}
use Rattle.audit_once.proofs.servers_audit_once.Goals as goal

pub returns : goal.returns
returns c = record { helper = helpers_audit_once; leader = leaders_audit_once }
