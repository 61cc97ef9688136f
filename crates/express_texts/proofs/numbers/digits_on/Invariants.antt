use Rattle.std.proofs.Common.{◌≡◌, ◌≤◌, length}
use Rattle.express_texts.specs.Numbers.{digits_on}
use Rattle.express_texts.proofs.numbers.digits_on.Given as goal

abbrev pub invariant-loop-rest : goal.invariant-loop-rest
invariant-loop-rest l =
    record { same : digits_on l.value l.rest ≡ digits_on l.first l.bytes; bound : l.value ≤ l.high }

abbrev pub decreases-loop-rest : goal.decreases-loop-rest
decreases-loop-rest l = length l.rest
