use Rattle.std.proofs.Common.{◌≤◌, ◌∙◌, List, ℕ, ap, length, subst, sym}
use Rattle.desk_texts.specs.Lines.{lines_in}
use Rattle.desk_sheets.specs.Sheets.{card_in}
use Rattle.desk_sheets.proofs.PrintLaws.{card_again}
use Rattle.desk_sheets.proofs.SizeLaws.{few_card}
use Rattle.desk_sheets.proofs.printing.print_card.Goals as goal

pub returns-clause-again : goal.returns-clause-again
returns-clause-again c = λ is. ap (λ t. card_in (lines_in t)) c.in_ok-text.ensures ∙ card_again c.args.card.now is

pub returns-clause-few : goal.returns-clause-few
returns-clause-few c =
    λ is. subst (λ (t : List ℕ). length t ≤ 4096) (sym c.in_ok-text.ensures) (few_card c.args.card.now is)
