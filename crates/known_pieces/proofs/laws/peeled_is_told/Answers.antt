use Rattle.known_pieces.proofs.PeelingLaws.{peeled_is_told}
use Rattle.known_pieces.proofs.laws.peeled_is_told.Goals as goal

pub returns : goal.returns
returns c = peeled_is_told
