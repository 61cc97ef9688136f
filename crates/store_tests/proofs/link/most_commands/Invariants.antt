use Rattle.std.proofs.Common.{◌≡◌}
use Rattle.store_tests.proofs.link.most_commands.Given as goal

abbrev pub invariant-loop-number : goal.invariant-loop-number
invariant-loop-number l = record { commands : l.commands.size ≡ 8213 }
