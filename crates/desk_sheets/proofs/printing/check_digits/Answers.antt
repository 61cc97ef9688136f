use Rattle.std.proofs.Common.{◌∙◌, length, ap}
use Rattle.std.specs.Str.{all_ascii_digits}
use Rattle.desk_sheets.proofs.DigitLaws.{is_long, cut_out, five_digits, only_digits}
use Rattle.desk_sheets.proofs.printing.check_digits.Goals as goal

pub before_last-requires : goal.before_last-requires
before_last-requires c = is_long c.args.card.now _ (c.deref.ensures.value ∙ c.in_ok-text.ensures)

pub digits_text-requires : goal.digits_text-requires
digits_text-requires c =
    ap all_ascii_digits (cut_out c.args.card.now _ _ (c.deref.ensures.value ∙ c.in_ok-text.ensures) c.before_last.ensures)
    ∙ only_digits c.args.card.now

pub returns-clause-value : goal.returns-clause-value
returns-clause-value c =
    c.in_ok-digits.ensures
    ∙ cut_out c.args.card.now _ _ (c.deref.ensures.value ∙ c.in_ok-text.ensures) c.before_last.ensures

pub returns-clause-five : goal.returns-clause-five
returns-clause-five c = ap length (returns-clause-value c) ∙ five_digits c.args.card.now

pub returns-clause-digits : goal.returns-clause-digits
returns-clause-digits c = ap all_ascii_digits (returns-clause-value c) ∙ only_digits c.args.card.now
