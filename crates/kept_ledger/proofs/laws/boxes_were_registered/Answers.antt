use Rattle.kept_ledger.proofs.OwnLaws.{boxes_are_the_clients}
use Rattle.kept_ledger.proofs.ReadLaws.{boxes_were_registered}
use Rattle.kept_ledger.proofs.laws.boxes_were_registered.Goals as goal

pub returns : goal.returns
returns c = record { registered = boxes_were_registered; own = boxes_are_the_clients }
