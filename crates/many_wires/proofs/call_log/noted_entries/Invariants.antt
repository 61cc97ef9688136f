use Rattle.std.proofs.Common.{◌≡◌, take}
use Rattle.many_wires.proofs.call_log.noted_entries.Given as goal

abbrev pub invariant-loop-entry : goal.invariant-loop-entry
invariant-loop-entry l = l.noted ≡ take l.entry-index l.entries
