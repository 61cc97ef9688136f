use Rattle.write_hiding.proofs.MaliciousHidingLemmas.{malicious_writes_are_seen}
use Rattle.write_hiding.proofs.laws.malicious_writes_are_seen.Goals as goal

pub returns : goal.returns
returns c = malicious_writes_are_seen
