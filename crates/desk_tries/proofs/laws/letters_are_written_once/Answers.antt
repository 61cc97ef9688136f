use Rattle.desk_tries.proofs.RunLaws.{written_once}
use Rattle.desk_tries.proofs.laws.letters_are_written_once.Goals as goal

pub returns : goal.returns
returns c = record { once = written_once }
