use Rattle.std.proofs.Common.{◌≡◌}
use Rattle.std.specs.VecDeque.{deque_len}
use Rattle.run_rules.specs.Letters.{FrameWorld}
use Rattle.run_rules.specs.Run.{goes_on}
use Rattle.replay_world.specs.View.{requests_of, with_asker}
use Rattle.replay_world.proofs.asker.Asker.go_on.Given as goal

abbrev pub invariant-loop-asked : goal.invariant-loop-asked
invariant-loop-asked l =
    (w : FrameWorld) → goes_on (with_asker w l.lane l.self l.outcomes.items) l.lane (requests_of l.self)
    ≡ goes_on (with_asker w l.lane l.fn.self l.fn.outcomes.items) l.lane (requests_of l.fn.self)

abbrev pub decreases-loop-asked : goal.decreases-loop-asked
decreases-loop-asked l = deque_len l.self.waiting
