use Rattle.std.proofs.Common.{◌≡◌, length}
use Rattle.replay_world.specs.View.{AreFresh}
use Rattle.replay_world.proofs.asking.all_askers.Given as goal

abbrev pub invariant-loop-lane : goal.invariant-loop-lane
invariant-loop-lane l = record { count : length l.askers.items ≡ l.lane; fresh : AreFresh l.header l.askers.items }
