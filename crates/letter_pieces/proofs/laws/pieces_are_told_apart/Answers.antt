use Rattle.letter_pieces.proofs.PieceLemmas.{encoded_hold, one_piece, encoded_differ, empty_hold_none}
use Rattle.letter_pieces.proofs.laws.pieces_are_told_apart.Goals as goal

pub returns-clause-hold : goal.returns-clause-hold
returns-clause-hold c = encoded_hold

pub returns-clause-one : goal.returns-clause-one
returns-clause-one c = one_piece

pub returns-clause-differ : goal.returns-clause-differ
returns-clause-differ c = encoded_differ

pub returns-clause-empty : goal.returns-clause-empty
returns-clause-empty c = empty_hold_none
