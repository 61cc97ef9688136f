use Rattle.known_pieces.proofs.OpeningLaws.{nothing_told, one_more_read, accounts_opened}
use Rattle.known_pieces.proofs.laws.readings_are_told.Goals as goal

pub returns-clause-start : goal.returns-clause-start
returns-clause-start c = nothing_told

pub returns-clause-keep : goal.returns-clause-keep
returns-clause-keep c = one_more_read

pub returns-clause-open : goal.returns-clause-open
returns-clause-open c addresses readings old left kept r before is_read others all_read new o =
    accounts_opened addresses readings old left kept r before is_read others all_read new o
