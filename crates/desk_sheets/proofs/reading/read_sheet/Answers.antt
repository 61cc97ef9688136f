use Rattle.desk_sheets.proofs.JudgeLaws.{judged}
use Rattle.desk_sheets.proofs.reading.read_sheet.Goals as goal

pub returns-clause-judges : goal.returns-clause-judges
returns-clause-judges c = judged _ _ c.sheet_in.ensures
