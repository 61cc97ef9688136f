use Rattle.std.proofs.Common.{◌≡◌, true}
use Rattle.std.specs.Prelude.{is_none}
use Rattle.desk_steps.specs.Net.{SendsOn}
use Rattle.owner_work.specs.Works.{Goes, OnlyWorks}
use Rattle.owner_work.proofs.carrying.carry_on.Given as goal

abbrev pub invariant-tasks : goal.invariant-tasks
invariant-tasks g l = record {
  faults : (g.N.Counted.seen l.net).faults ≡ (g.N.Counted.seen l.fn.net).faults;
  sends : SendsOn g.D.Disk.disk g.D.Counted.seen (g.N.Counted.seen l.fn.net).calls
      (g.N.Counted.seen l.net).calls;
  goes : Goes g.D.Disk.disk g.D.Counted.seen l.fn.kept (g.N.Counted.seen l.fn.net).calls l.counter l.kept
      (g.N.Counted.seen l.net).calls;
  clock : (g.C.Counted.seen l.clock).faults ≡ (g.C.Counted.seen l.fn.clock).faults;
  only : OnlyWorks l.fn.kept.machine.ledger.state l.kept.machine.ledger.state;
  idle : is_none l.kept.machine.ledger.state.client.current ≡ true;
}
