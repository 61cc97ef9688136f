use Rattle.http_door.proofs.ReadBack.{back_as_written, cut_as_awaited}
use Rattle.http_door.proofs.laws.answers_are_read_back.Goals as goal

pub returns-clause-back : goal.returns-clause-back
returns-clause-back c = back_as_written

pub returns-clause-cut : goal.returns-clause-cut
returns-clause-cut c = cut_as_awaited
