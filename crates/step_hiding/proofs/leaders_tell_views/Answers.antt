use Rattle.step_hiding.proofs.LeaderSteps.{leaders_answer_clients, leaders_answer_helpers, leader_sights_stay}
use Rattle.step_hiding.proofs.leaders_tell_views.Goals as goal

pub returns : goal.returns
returns c = record {
  clients = leaders_answer_clients;
  helpers = leaders_answer_helpers;
  sights = leader_sights_stay;
}
