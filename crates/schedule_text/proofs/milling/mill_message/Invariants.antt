use Rattle.std.proofs.Common.{◌≡◌}
use Rattle.schedule_text.specs.Mill.{times}
use Rattle.schedule_text.proofs.milling.mill_message.Given as goal

abbrev pub invariant-loop-copies : goal.invariant-loop-copies
invariant-loop-copies l = l.message.items ≡ times l._copies l.drawn
