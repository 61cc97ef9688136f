use Rattle.file_carry.proofs.CutLaws.{cut_joins}
use Rattle.file_carry.proofs.laws.cut_files_join.Goals as goal

pub returns : goal.returns
returns c = λ file id width more can. cut_joins file id width more can.0 can.1.0 can.1.1.1 can.2
