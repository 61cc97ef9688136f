use Rattle.std.proofs.Common.{◌≤◌, ◌∙◌, List, ℕ, ap, length, subst, sym}
use Rattle.desk_texts.specs.Lines.{lines_in}
use Rattle.desk_sheets.specs.Sheets.{pair_in}
use Rattle.desk_sheets.proofs.PrintLaws.{pair_again}
use Rattle.desk_sheets.proofs.SizeLaws.{few_pair}
use Rattle.desk_sheets.proofs.printing.print_pair.Goals as goal

pub returns-clause-again : goal.returns-clause-again
returns-clause-again c = λ is. ap (λ t. pair_in (lines_in t)) c.in_ok-text.ensures ∙ pair_again c.args.pair.now is

pub returns-clause-few : goal.returns-clause-few
returns-clause-few c =
    λ is. subst (λ (t : List ℕ). length t ≤ 4096) (sym c.in_ok-text.ensures) (few_pair c.args.pair.now is)
