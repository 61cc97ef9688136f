use Rattle.kept_letter.proofs.RunLaws.{letters_are_runs_of_tries}
use Rattle.kept_letter.proofs.laws.letters_are_runs_of_tries.Goals as goal

pub returns : goal.returns
returns c = letters_are_runs_of_tries c.copies_are_written_once.ensures.once
