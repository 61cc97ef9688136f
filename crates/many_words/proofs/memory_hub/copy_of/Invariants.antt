use Rattle.std.proofs.Common.{◌≡◌, take}
use Rattle.many_words.proofs.memory_hub.copy_of.Given as goal

abbrev pub invariant-loop-entry : goal.invariant-loop-entry
invariant-loop-entry l = l.copy.items ≡ take l.entry-index l.entries
