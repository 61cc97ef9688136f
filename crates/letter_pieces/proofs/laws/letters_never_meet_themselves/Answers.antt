use Rattle.letter_pieces.proofs.PlaceLemmas.{permuted, copied, differ, on_the_card}
use Rattle.letter_pieces.proofs.laws.letters_never_meet_themselves.Goals as goal

pub returns-clause-permuted : goal.returns-clause-permuted
returns-clause-permuted c = permuted

pub returns-clause-copied : goal.returns-clause-copied
returns-clause-copied c = copied

pub returns-clause-differ : goal.returns-clause-differ
returns-clause-differ c = differ

pub returns-clause-on_the_card : goal.returns-clause-on_the_card
returns-clause-on_the_card c = on_the_card
