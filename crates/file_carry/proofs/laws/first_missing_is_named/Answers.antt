use Rattle.file_carry.proofs.BoxLaws.{first_missing}
use Rattle.file_carry.proofs.laws.first_missing_is_named.Goals as goal

pub returns : goal.returns
returns c = first_missing
