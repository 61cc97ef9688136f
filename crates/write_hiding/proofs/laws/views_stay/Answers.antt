use Rattle.write_hiding.proofs.HidingLemmas.{choices_stay, views_stay, moves_return, distinct_stay}
use Rattle.write_hiding.proofs.laws.views_stay.Goals as goal

pub returns : goal.returns
returns c = record { choices_stay = choices_stay; views_stay = views_stay; moves_return = moves_return; distinct_stay = distinct_stay }
