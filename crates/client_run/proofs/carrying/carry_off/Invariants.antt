use Rattle.std.proofs.Common.{◌≡◌, ◌≤◌, ◌⊎◌, length, None, map}
use Rattle.node_exchange.specs.Exchanging.{EarlyAtEnd}
use Rattle.client_core.specs.Requests.{plain_request}
use Rattle.node_client.proofs.WorkLaws.{Working}
use Rattle.client_run.specs.Carrying.{AllCarry}
use Rattle.client_run.specs.Carries.{AreWhole}
use Rattle.client_run.proofs.carrying.carry_off.Given as goal

abbrev pub invariant-loop-number : goal.invariant-loop-number
invariant-loop-number g l = record {
  within : l.number ≤ length l.requests;
  idle : l.client.current ≡ None;
  width : length l.message ≡ l.client.width;
  keeps : l.client.width ≡ l.fn.client.width;
  working : Working l.peers l.fn.client (map plain_request l.requests) l.number l.client l.finished.items (g.N.Counted.seen l.fn.net).calls (g.N.Counted.seen l.net).calls;
  carried : AllCarry l.finished.items;
  whole : AreWhole l.fn.client.width l.finished.items;
  few : length l.finished.items ≤ l.number;
  count : (g.N.Counted.seen l.net).faults ≡ (g.N.Counted.seen l.fn.net).faults;
  early : (l.net ≡ l.fn.net) ⊎ EarlyAtEnd (g.N.Counted.seen l.net).calls g.N.Conn.Counted.seen;
  door : (g.N.Counted.seen l.net).doors ≡ (g.N.Counted.seen l.fn.net).doors;
}
