use Rattle.owner_work.proofs.KeepLaws.{work_keeps_the_desk}
use Rattle.owner_work.proofs.laws.work_keeps_the_desk.Goals as goal

pub returns : goal.returns
returns c = work_keeps_the_desk
