use Rattle.dpf_rules.proofs.RangeLemmas.{part-bytes, length-part, word_lt, state_lt, own_lt, given_lt}
use Rattle.dpf_rules.proofs.laws.states_are_in_range.Goals as goal

pub returns : goal.returns
returns c = record {
  keys = λ target message viewer root other form bytes.
      (part-bytes target message viewer root other form.bytes bytes, length-part target message viewer root other form.size);
  words = word_lt;
  walks = state_lt;
  own = own_lt;
  given = given_lt;
}
