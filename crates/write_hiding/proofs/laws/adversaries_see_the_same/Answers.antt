use Rattle.write_hiding.proofs.AdversaryLemmas.{adversaries_play_the_same, adversaries_see_the_same, adversary_moves_return, distinct_stay_for_adversaries}
use Rattle.write_hiding.proofs.laws.adversaries_see_the_same.Goals as goal

pub returns : goal.returns
returns c = record { plays_stay = adversaries_play_the_same; sights_stay = adversaries_see_the_same; moves_return = adversary_moves_return; distinct_stay = distinct_stay_for_adversaries }
