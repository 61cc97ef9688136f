use Rattle.run_sights.proofs.Clients.{clients_send_theirs, leaves_are_real}
use Rattle.run_sights.proofs.clients_are_honest.Goals as goal

pub returns : goal.returns
returns c =
    let made = c.writes_are_choices.ensures in
    record {
      frames = clients_send_theirs made.keys made.end;
      leaves = leaves_are_real made.keys made.leaf;
    }
