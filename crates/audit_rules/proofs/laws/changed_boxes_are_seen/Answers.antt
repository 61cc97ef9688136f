use Rattle.audit_rules.proofs.LeafLemmas.{changes_seen}
use Rattle.audit_rules.proofs.laws.changed_boxes_are_seen.Goals as goal

pub returns : goal.returns
returns c = changes_seen
