use Rattle.replay_world.proofs.ClientAnswers.{clients_get_answers}
use Rattle.replay_world.proofs.laws.clients_get_answers.Goals as goal

pub returns : goal.returns
returns c = clients_get_answers
