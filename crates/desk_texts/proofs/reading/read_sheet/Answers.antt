use Rattle.std.proofs.Common.{ℕ, List, Result, Ok, Err}
use Rattle.express_texts.specs.Judging.{Gives}
use Rattle.express_texts.specs.declared.fault.TextFault.{TextFault}
use Rattle.express_texts.specs.declared.fault.TextFault.TheVariants.{Wrong, WrongKey, NoMemory}
use Rattle.desk_texts.specs.declared.sheet.Sheet.{Sheet}
use Rattle.desk_texts.specs.Judging.{Judges}
use Rattle.desk_texts.specs.Lines.{lines_in}
use Rattle.desk_texts.specs.Sheets.{sheet_of}
use Rattle.desk_texts.proofs.SheetLaws.{is_found, is_bad}
use Rattle.desk_texts.proofs.reading.read_sheet.Goals as goal

judged : (text : List ℕ) (r : Result Sheet TextFault) → Gives (λ sheet. sheet) r (sheet_of (lines_in text)) → Judges text r
judged text (Ok sheet) h = is_found text sheet h
judged text (Err (Wrong n)) h = is_bad text n h
judged text (Err (WrongKey key)) h = absurd h
judged text (Err NoMemory) h = tt

pub returns-clause-judges : goal.returns-clause-judges
returns-clause-judges c = judged _ _ c.sheet_in.ensures
