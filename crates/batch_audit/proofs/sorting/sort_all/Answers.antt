use Rattle.std.proofs.Common.{refl}
use Rattle.std.proofs.lemmas.Grind.{common_steps}
use Rattle.std.proofs.Common.{arith}
use Rattle.batch_audit.specs.Sorting.{empty}
use Rattle.batch_audit.proofs.sorting.sort_all.Goals as goal

pub returns-then-is_empty-clause-sorted : goal.returns-then-is_empty-clause-sorted
returns-then-is_empty-clause-sorted c = empty (grind (arith, common_steps)) refl
