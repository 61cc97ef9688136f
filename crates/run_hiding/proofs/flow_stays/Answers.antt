use Rattle.run_hiding.proofs.Flow.{flow_stays}
use Rattle.run_hiding.proofs.Letters.{results_stay}
use Rattle.run_hiding.proofs.Outcomes.{outcomes_stay, outcomes_stay_beside}
use Rattle.run_hiding.proofs.TwinEnds.{acts_stay}
use Rattle.run_hiding.proofs.flow_stays.Goals as goal

pub returns : goal.returns
returns c = record { flow = flow_stays; results = results_stay; outcomes = outcomes_stay; acts = acts_stay; beside = outcomes_stay_beside }
