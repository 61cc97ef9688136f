use Rattle.write_hiding.proofs.LevelLemmas.{level_stays, level_returns}
use Rattle.write_hiding.proofs.PartLemmas.{path_stays, public_part_stays}
use Rattle.write_hiding.proofs.laws.public_part_stays.Goals as goal

pub returns : goal.returns
returns c = record { level_stays = level_stays; level_returns = level_returns; path_stays = path_stays; part_stays = public_part_stays }
