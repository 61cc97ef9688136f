use Rattle.replay_world.proofs.Strangers.{clients_are_alone, schedule_fits, strangers_are_foreign}
use Rattle.replay_world.proofs.laws.schedules_fit.Goals as goal

pub returns-clause-lanes : goal.returns-clause-lanes
returns-clause-lanes c = strangers_are_foreign

pub returns-clause-alone : goal.returns-clause-alone
returns-clause-alone c = clients_are_alone

pub returns-clause-fit : goal.returns-clause-fit
returns-clause-fit c = schedule_fits
