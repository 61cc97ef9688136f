use Rattle.std.proofs.Common.{◌≡◌}
use Rattle.node_client.proofs.TurnLaws.{steps_left}
use Rattle.desk_outbox.specs.Works.{Onward}
use Rattle.desk_outbox.proofs.outbox.Outbox.work.Given as goal

abbrev pub invariant-steps : goal.invariant-steps
invariant-steps g l = record {
  onward : Onward g.D.Disk.disk g.D.Counted.seen l.fn.self (g.N.Counted.seen l.fn.net).calls l.self (g.N.Counted.seen l.net).calls;
  net : (g.N.Counted.seen l.net).faults ≡ (g.N.Counted.seen l.fn.net).faults;
  disk : (g.D.Counted.seen l.self.kept.disk).faults ≡ (g.D.Counted.seen l.fn.self.kept.disk).faults;
  door : (g.N.Counted.seen l.net).doors ≡ (g.N.Counted.seen l.fn.net).doors;
}

abbrev pub decreases-steps : goal.decreases-steps
decreases-steps g l = steps_left l.self.kept.core.client
