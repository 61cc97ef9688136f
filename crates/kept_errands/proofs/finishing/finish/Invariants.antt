use Rattle.std.proofs.Common.{◌≡◌, ◌≢◌, None}
use Rattle.node_client.proofs.TurnLaws.{steps_left}
use Rattle.kept_errands.proofs.WorkLaws.{Standing}
use Rattle.kept_errands.proofs.finishing.finish.Given as goal

abbrev pub invariant-steps : goal.invariant-steps
invariant-steps g l = record {
  busy : l.client.core.client.current ≢ None;
  stands : Standing l.peers l.fn.client l.client (g.N.Counted.seen l.fn.net).calls (g.N.Counted.seen l.net).calls;
  net : (g.N.Counted.seen l.net).faults ≡ (g.N.Counted.seen l.fn.net).faults;
  disk : (g.D.Counted.seen l.client.disk).faults ≡ (g.D.Counted.seen l.fn.client.disk).faults;
  door : (g.N.Counted.seen l.net).doors ≡ (g.N.Counted.seen l.fn.net).doors;
}

abbrev pub decreases-steps : goal.decreases-steps
decreases-steps g l = steps_left l.client.core.client
