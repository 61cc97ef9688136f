use Rattle.replay_world.proofs.Strangers.{finishes_drain, schedules_answer, schedules_tell}
use Rattle.replay_world.proofs.laws.requests_are_told.Goals as goal

pub returns : goal.returns
returns c = record { told = schedules_tell; finished = schedules_answer; drained = finishes_drain }
