use Rattle.std.proofs.Common.{◌≡◌, take}
use Rattle.replay_world.specs.Played.{played, IsWhole}
use Rattle.express_cli.proofs.replay.play.Given as goal

abbrev pub invariant-loop-event : goal.invariant-loop-event
invariant-loop-event l = record {
  whole : IsWhole l.world;
  played : played l.world ≡ record { header = l.schedule.header; events = take l.event-index l.event-items };
}
