use Rattle.std.proofs.Common.{◌≡◌, ◌-◌}
use Rattle.run_rules.specs.Run.{frame_moves}
use Rattle.schedule_text.specs.declared.schedule.Header.{Header}
use Rattle.token_rules.specs.Driven.{finishes_by, finished_by}
use Rattle.replay_world.specs.View.{run_in, Keeps}
use Rattle.replay_world.proofs.state.State.finish.Given as goal

abbrev pub invariant-loop : goal.invariant-loop
invariant-loop l = record {
  moved : (header : Header) → finishes_by frame_moves (l.end - l.counter) (run_in header l.self) l.lane ≡ finished_by frame_moves (run_in header l.fn.self) l.lane;
  keeps : Keeps l.fn.self l.self;
}
