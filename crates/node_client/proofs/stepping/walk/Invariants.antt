use Rattle.std.proofs.Common.{◌≡◌, ◌≢◌, None, length}
use Rattle.step_rules.specs.ClientAsks.{sends}
use Rattle.node_client.proofs.TurnLaws.{steps_left}
use Rattle.node_client.proofs.WalkLaws.{Standing}
use Rattle.node_client.proofs.stepping.walk.Given as goal

abbrev pub invariant-steps : goal.invariant-steps
invariant-steps g l = record {
  width : length l.message ≡ l.client.width;
  keeps : l.client.width ≡ l.fn.client.width;
  sends : sends l.client ≢ None;
  stands : Standing l.peers l.fn.client l.client (g.N.Counted.seen l.fn.net).calls (g.N.Counted.seen l.net).calls;
  count : (g.N.Counted.seen l.net).faults ≡ (g.N.Counted.seen l.fn.net).faults;
  door : (g.N.Counted.seen l.net).doors ≡ (g.N.Counted.seen l.fn.net).doors;
}

abbrev pub decreases-steps : goal.decreases-steps
decreases-steps g l = steps_left l.client
