use Rattle.std.proofs.Common.{◌≡◌, length}
use Rattle.desk_texts.specs.Lines.{trimmed}
use Rattle.desk_texts.proofs.lines.trimmed.Given as goal

abbrev pub invariant-loop-rest : goal.invariant-loop-rest
invariant-loop-rest l = trimmed l.rest ≡ trimmed l.line

abbrev pub decreases-loop-rest : goal.decreases-loop-rest
decreases-loop-rest l = length l.rest
