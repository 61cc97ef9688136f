use Rattle.schedule_text.proofs.ScheduleLaws.{schedule_found, schedule_only, bad_found, bad_is_first}
use Rattle.schedule_text.proofs.laws.read_exactly.Goals as goal

pub returns-clause-found : goal.returns-clause-found
returns-clause-found c = schedule_found

pub returns-clause-only : goal.returns-clause-only
returns-clause-only c = schedule_only

pub returns-clause-bad : goal.returns-clause-bad
returns-clause-bad c = bad_found

pub returns-clause-only_bad : goal.returns-clause-only_bad
returns-clause-only_bad c = bad_is_first
