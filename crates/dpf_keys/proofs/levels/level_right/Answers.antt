use Rattle.std.proofs.Common.{arith}
use Rattle.dpf_rules.specs.Keys.{level_right}
use Rattle.dpf_keys.proofs.levels.level_right.Goals as goal

pub returns-clause-value : goal.returns-clause-value
unfolding level_right
returns-clause-value c = omega arith
