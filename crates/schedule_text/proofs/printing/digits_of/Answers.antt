use Rattle.std.proofs.Common.{arith}
use Rattle.std.proofs.lemmas.Grind.{get_or_default_zero}
use Rattle.schedule_text.proofs.printing.digits_of.Goals as goal

pub returns-clause-bytes : goal.returns-clause-bytes
returns-clause-bytes c =
    λ k d below. rw (get_or_default_zero c.args.bytes.now k d below) (omega (arith, c.type_inv.bytes k))
