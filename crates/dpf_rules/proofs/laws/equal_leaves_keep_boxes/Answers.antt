use Rattle.dpf_rules.proofs.BoxLemmas.{write_alike, box_stays}
use Rattle.dpf_rules.proofs.laws.equal_leaves_keep_boxes.Goals as goal

pub returns : goal.returns
returns c = record {
  alike = write_alike;
  sum = box_stays;
}
