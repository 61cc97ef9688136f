use Rattle.std.proofs.Common.{◌≡◌, ◌≤◌, length, take}
use Rattle.node_serve.specs.Draining.{rounds_of}
use Rattle.node_serve.specs.Moved.{moved, shown, calls_of}
use Rattle.node_serve.proofs.ReachLaws.{Drains}
use Rattle.node_serve.proofs.draining.drain.Given as goal

abbrev pub invariant-draining : goal.invariant-draining
invariant-draining g l =
    let S = g.S.Logged in
    let net = shown g.N.Counted.seen l.fn.net l.net in
    record {
      room : 8213 ≤ length l.out;
      answer_room : 8213 ≤ length l.answer;
      within : l.reply ≤ length l.out;
      drains : Drains S.log l.fn.peer (take l.fn.told l.fn.out) (take l.reply l.out) (moved l.fn.server l.server) (calls_of net);
      count : net.new.faults ≡ net.old.faults;
      failures : S.failures l.server ≡ S.failures l.fn.server;
      door : net.new.doors ≡ net.old.doors;
    }

abbrev pub decreases-draining : goal.decreases-draining
decreases-draining g l = rounds_of (g.S.Logged.log.core l.server)
