use Rattle.run_hiding.proofs.Ends.{runs_fit}
use Rattle.run_hiding.proofs.Schedules.{runs_fit_beside, schedules_fit}
use Rattle.run_hiding.proofs.runs_fit_other_aims.Goals as goal

pub returns : goal.returns
returns c = record { fit = runs_fit; schedules = schedules_fit; beside = runs_fit_beside }
