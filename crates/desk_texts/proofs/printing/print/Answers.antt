use Rattle.std.proofs.Common.{◌≤◌, ◌∙◌, List, ℕ, ap, length, subst, sym}
use Rattle.desk_texts.specs.Lines.{lines_in}
use Rattle.desk_texts.specs.Sheets.{sheet_of}
use Rattle.desk_texts.proofs.PrintLaws.{prints_again}
use Rattle.desk_texts.proofs.SizeLaws.{few_bytes}
use Rattle.desk_texts.proofs.printing.print.Goals as goal

pub returns-clause-again : goal.returns-clause-again
returns-clause-again c = λ is. ap (λ t. sheet_of (lines_in t)) c.in_ok-text.ensures ∙ prints_again c.args.sheet.now is

pub returns-clause-few : goal.returns-clause-few
returns-clause-few c = λ is. subst (λ (t : List ℕ). length t ≤ 4096) (sym c.in_ok-text.ensures) (few_bytes c.args.sheet.now is)
