use Rattle.step_hiding.proofs.HelperSteps.{helpers_answer_clients, helpers_answer_leaders, helper_sights_stay}
use Rattle.step_hiding.proofs.helpers_tell_views.Goals as goal

pub returns : goal.returns
returns c = record {
  clients = helpers_answer_clients;
  leaders = helpers_answer_leaders;
  sights = helper_sights_stay;
}
