use Rattle.desk_sheets.proofs.JudgeLaws.{told_found, told_only, told_of_earlier, told_earlier_only, told_bad, told_bad_only}
use Rattle.desk_sheets.proofs.reading.sheet_is_read_exactly.Goals as goal

pub returns-clause-found : goal.returns-clause-found
returns-clause-found c = told_found

pub returns-clause-only : goal.returns-clause-only
returns-clause-only c = told_only

pub returns-clause-earlier : goal.returns-clause-earlier
returns-clause-earlier c = told_of_earlier

pub returns-clause-only_earlier : goal.returns-clause-only_earlier
returns-clause-only_earlier c = told_earlier_only

pub returns-clause-bad : goal.returns-clause-bad
returns-clause-bad c = told_bad

pub returns-clause-only_bad : goal.returns-clause-only_bad
returns-clause-only_bad c = told_bad_only
