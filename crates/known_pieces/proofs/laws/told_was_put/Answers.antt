use Rattle.known_pieces.proofs.PeelingLaws.{told_was_put}
use Rattle.known_pieces.proofs.laws.told_was_put.Goals as goal

pub returns : goal.returns
returns c = told_was_put
