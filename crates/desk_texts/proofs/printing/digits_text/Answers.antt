use Rattle.desk_texts.proofs.DigitLaws.{digits_utf8}
use Rattle.desk_texts.proofs.printing.digits_text.Goals as goal

pub unreachable-requires : goal.unreachable-requires
unreachable-requires c = c.in-Err.ensures.cases.0 (digits_utf8 c.args.digits.now c.requires)
