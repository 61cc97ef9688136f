use Rattle.std.proofs.Common.{◌≡◌}
use Rattle.dpf_rules.specs.Walk.{state_at}
use Rattle.dpf_keys.proofs.walking.walk.Given as goal

abbrev pub invariant-loop-level : goal.invariant-loop-level
invariant-loop-level l = l.state ≡ state_at l.part l.server l.root l.address l.level
