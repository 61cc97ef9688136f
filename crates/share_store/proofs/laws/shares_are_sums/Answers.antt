use Rattle.share_store.proofs.CallLaws.{shares_are_sums}
use Rattle.share_store.proofs.laws.shares_are_sums.Goals as goal

pub returns : goal.returns
returns c = shares_are_sums
