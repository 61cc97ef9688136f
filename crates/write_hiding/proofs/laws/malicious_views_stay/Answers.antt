use Rattle.write_hiding.proofs.MaskLemmas.{weights_are_zero_at_one_and_two}
use Rattle.write_hiding.proofs.MaliciousHidingLemmas.{malicious_views_stay, malicious_distinct_stay, honest_openings_give_views}
use Rattle.write_hiding.proofs.laws.malicious_views_stay.Goals as goal

pub returns : goal.returns
returns c = record { views_stay = malicious_views_stay; distinct_stay = malicious_distinct_stay; weights = weights_are_zero_at_one_and_two; honest = honest_openings_give_views }
