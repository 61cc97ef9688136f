use Rattle.std.proofs.Common.{◌≡◌, ◌≤◌, ◌⊎◌, length, map}
use Rattle.node_exchange.specs.Exchanging.{EarlyAtEnd}
use Rattle.client_core.specs.Requests.{plain_request}
use Rattle.client_run.specs.Telling.{moment, IsReady}
use Rattle.client_run.proofs.TellLaws.{Telling}
use Rattle.client_run.proofs.telling.tell_off.Given as goal

abbrev pub invariant-loop-number : goal.invariant-loop-number
invariant-loop-number g l = record {
  within : l.number ≤ length l.requests;
  ready : IsReady l.worker;
  peers : l.worker.peers ≡ l.fn.worker.peers;
  keeps : l.worker.client.width ≡ l.fn.worker.client.width;
  telling : Telling l.fn.worker.peers l.until l.fn.worker.client (map plain_request l.requests) l.number l.worker.client
      (moment (g.N.Counted.seen l.fn.net) (g.K.Counted.seen l.fn.out)) (moment (g.N.Counted.seen l.net) (g.K.Counted.seen l.out));
  count : (g.N.Counted.seen l.net).faults ≡ (g.N.Counted.seen l.fn.net).faults;
  sink : (g.K.Counted.seen l.out).faults ≡ (g.K.Counted.seen l.fn.out).faults;
  early : (l.net ≡ l.fn.net) ⊎ EarlyAtEnd (g.N.Counted.seen l.net).calls g.N.Conn.Counted.seen;
  door : (g.N.Counted.seen l.net).doors ≡ (g.N.Counted.seen l.fn.net).doors;
}
