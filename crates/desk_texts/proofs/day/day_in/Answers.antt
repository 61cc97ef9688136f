use Rattle.desk_texts.proofs.DayLaws.{judged}
use Rattle.desk_texts.proofs.day.day_in.Goals as goal

pub returns-clause-judges : goal.returns-clause-judges
returns-clause-judges c = judged _ _ c.read_day.ensures
