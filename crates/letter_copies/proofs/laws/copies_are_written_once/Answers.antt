use Rattle.letter_copies.proofs.EndLaws.{tries_are_few, written_once}
use Rattle.letter_copies.proofs.laws.copies_are_written_once.Goals as goal

pub returns : goal.returns
returns c = record { once = written_once; few = tries_are_few }
