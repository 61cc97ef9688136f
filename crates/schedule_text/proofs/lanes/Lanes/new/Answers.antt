use Rattle.std.proofs.Common.{refl}
use Rattle.schedule_text.proofs.LaneLemmas.{table_of_none}
use Rattle.schedule_text.proofs.lanes.Lanes.new.Goals as goal

pub returns : goal.returns
returns c = table_of_none _ refl refl
