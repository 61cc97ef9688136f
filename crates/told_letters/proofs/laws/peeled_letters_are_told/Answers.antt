use Rattle.told_letters.proofs.PeeledLaws.{peeled_letters_are_told}
use Rattle.told_letters.proofs.laws.peeled_letters_are_told.Goals as goal

pub returns : goal.returns
returns c =
    peeled_letters_are_told c.pieces_are_told_apart.ensures.hold c.pieces_are_told_apart.ensures.one
    c.letters_are_their_pieces.ensures.fit c.letters_are_their_pieces.ensures.join
