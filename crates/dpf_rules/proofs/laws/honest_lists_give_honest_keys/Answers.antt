use Rattle.dpf_rules.proofs.IdealLemmas.{own_path, own_path1, honest_other0, honest_other1}
use Rattle.dpf_rules.proofs.RangeLemmas.{honest-form}
use Rattle.dpf_rules.proofs.laws.honest_lists_give_honest_keys.Goals as goal

pub returns : goal.returns
returns c = record {
  form = honest-form;
  paths = λ target root0 root1 width i h. (own_path target root0 root1 width i h, own_path1 target root0 root1 width i h);
  keys = λ target message root0 root1. (honest_other1 target message root0 root1, honest_other0 target message root0 root1);
}
