use Rattle.dpf_rules.proofs.IdealLemmas.{own_walk, given_walk}
use Rattle.dpf_rules.proofs.laws.ideal_walks.Goals as goal

pub returns : goal.returns
returns c = record {
  own = λ target message viewer root other i states h. own_walk target message viewer root other states i h;
  given = λ part target server root width i h. given_walk part target server root width i h;
}
