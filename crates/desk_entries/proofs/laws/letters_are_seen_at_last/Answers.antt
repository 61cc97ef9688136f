use Rattle.desk_entries.proofs.SeenLaws.{seen_shown, seen_written}
use Rattle.desk_entries.proofs.laws.letters_are_seen_at_last.Goals as goal

pub returns-clause-written : goal.returns-clause-written
returns-clause-written c = seen_written

pub returns-clause-shown : goal.returns-clause-shown
returns-clause-shown c = seen_shown
