use Rattle.moved_worlds.proofs.Twins.{choices_are_twins}
use Rattle.moved_worlds.proofs.moved_choices_are_twins.Goals as goal

pub returns : goal.returns
returns c = choices_are_twins c.malicious_views_stay.ensures.views_stay
