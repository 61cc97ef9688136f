use Rattle.logged_hub.proofs.RunLaws.{told-written}
use Rattle.logged_hub.proofs.laws.the_log_is_what_is_told.Goals as goal

pub returns : goal.returns
returns g c hub = told-written hub.held hub.calls
