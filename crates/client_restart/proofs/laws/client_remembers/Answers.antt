use Rattle.client_restart.proofs.HistoryLaws.{happenings_go, frames_are_one, never_again, outcome_ends, outcome_stands}
use Rattle.client_restart.proofs.laws.client_remembers.Goals as goal

pub returns-clause-serials_rise : goal.returns-clause-serials_rise
returns-clause-serials_rise c o happened more = (happenings_go o happened more).serial

pub returns-clause-one_request : goal.returns-clause-one_request
returns-clause-one_request c = frames_are_one

pub returns-clause-never_again : goal.returns-clause-never_again
returns-clause-never_again c = never_again

pub returns-clause-untold : goal.returns-clause-untold
returns-clause-untold c = outcome_ends

pub returns-clause-stands : goal.returns-clause-stands
returns-clause-stands c = outcome_stands
