use Rattle.http_door.proofs.ComingLaws.{coming}
use Rattle.http_door.proofs.laws.requests_come_as_they_were_sent.Goals as goal

pub returns : goal.returns
returns c = coming
