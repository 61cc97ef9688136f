use Rattle.known_pieces.proofs.PeelingLaws.{told_is_known}
use Rattle.known_pieces.proofs.laws.told_is_known.Goals as goal

pub returns : goal.returns
returns c = told_is_known
