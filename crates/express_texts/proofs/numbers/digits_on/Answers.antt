use Rattle.std.proofs.Common.{arith, rules}
use Rattle.express_texts.proofs.Numerals.{too_large_on}
use Rattle.express_texts.proofs.numbers.digits_on.Goals as goal

pub returns-then-value-high-clause-value : goal.returns-then-value-high-clause-value
returns-then-value-high-clause-value c =
    too_large_on _ _ _ _ _ c.loop-rest.invariant.same (omega arith) (search rules) (omega arith)
