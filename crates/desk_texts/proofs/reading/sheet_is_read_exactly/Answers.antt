use Rattle.desk_texts.proofs.SheetLaws.{is_found, is_only, is_bad, is_bad_only}
use Rattle.desk_texts.proofs.reading.sheet_is_read_exactly.Goals as goal

pub returns-clause-found : goal.returns-clause-found
returns-clause-found c = is_found

pub returns-clause-only : goal.returns-clause-only
returns-clause-only c = is_only

pub returns-clause-bad : goal.returns-clause-bad
returns-clause-bad c = is_bad

pub returns-clause-only_bad : goal.returns-clause-only_bad
returns-clause-only_bad c = is_bad_only
