use Rattle.std.proofs.Common.{◌≡◌, [], replicate}
use Rattle.std.specs.Prelude.{All}
use Rattle.step_rules.specs.Leader.{idle}
use Rattle.leader_core.specs.Slots.{rows_in, IsLeaderSlot}
use Rattle.leader_core.proofs.slot.idle_slots.Given as goal

abbrev pub invariant-loop : goal.invariant-loop
invariant-loop l = record {
  rows : rows_in l.slots.items ≡ replicate l.counter idle;
  slots : All (IsLeaderSlot l.settings.width l.settings.boxes []) l.slots.items;
}
