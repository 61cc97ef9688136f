use Rattle.known_pieces.proofs.OpeningLaws.{none_opens}
use Rattle.known_pieces.proofs.laws.none_opens.Goals as goal

pub returns : goal.returns
returns c width bytes tried long wide none = none_opens width bytes tried long wide none
