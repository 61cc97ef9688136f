use Rattle.file_carry.proofs.BoxLaws.{joined_are_cut}
use Rattle.file_carry.proofs.laws.joined_files_are_cut.Goals as goal

pub returns : goal.returns
returns c = joined_are_cut
