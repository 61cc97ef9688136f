use Rattle.kept_letter.proofs.PieceLaws.{pieces_go_to_their_places}
use Rattle.kept_letter.proofs.RunLaws.{letters_keep_their_opening}
use Rattle.kept_letter.proofs.laws.pieces_go_to_their_places.Goals as goal

pub returns : goal.returns
returns c = record { places = pieces_go_to_their_places; opening = letters_keep_their_opening }
