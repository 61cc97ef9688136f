use Rattle.std.proofs.Common.{◌∙◌, sym}
use Rattle.desk_letters.proofs.LetterLaws.{zeros_is, not_zeros}
use Rattle.desk_letters.proofs.letter.open.Goals as goal

pub returns-then-is_zeros : goal.returns-then-is_zeros
returns-then-is_zeros c = zeros_is c.args.bytes.now (sym c.is_zeros.ensures ∙ c.if-is_zeros.true)

pub returns-in-None : goal.returns-in-None
returns-in-None c = (
  not_zeros c.args.bytes.now (sym c.is_zeros.ensures ∙ c.if-is_zeros.false),
  c.in-None.ensures,
)
