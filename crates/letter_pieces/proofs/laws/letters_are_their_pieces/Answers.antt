use Rattle.letter_pieces.proofs.CutLemmas.{parts_fit, parts_have_places, pieces_join}
use Rattle.letter_pieces.proofs.laws.letters_are_their_pieces.Goals as goal

pub returns-clause-fit : goal.returns-clause-fit
returns-clause-fit c = parts_fit

pub returns-clause-placed : goal.returns-clause-placed
returns-clause-placed c = parts_have_places

pub returns-clause-join : goal.returns-clause-join
returns-clause-join c = pieces_join
