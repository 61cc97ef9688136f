use Rattle.std.proofs.Common.{◌≡◌, ◌≤◌}
use Rattle.node_serve.specs.Tallies.{total}
use Rattle.node_serve.specs.Visits.{Shown, standing}
use Rattle.node_serve.proofs.HostLaws.{Hosting}
use Rattle.node_serve.proofs.hosting.host.Given as goal

abbrev pub invariant-loop : goal.invariant-loop
invariant-loop g l =
    let S = g.S.Logged in
    record {
      within : l.counter ≤ l.connections;
      sum : total l.tally ≡ l.counter;
      hosting : Hosting S.log l.fn.peer (Shown g.N.Conn.Counted.seen)
          (standing l.fn.server (g.N.Counted.seen l.fn.net)) (standing l.server (g.N.Counted.seen l.net)) l.counter l.tally;
      door : (g.N.Counted.seen l.net).doors ≡ (g.N.Counted.seen l.fn.net).doors;
      failures : S.failures l.server ≡ S.failures l.fn.server;
      later : (g.N.Counted.seen l.fn.net).faults ≤ (g.N.Counted.seen l.net).faults;
    }
