use Rattle.std.proofs.Common.{◌≡◌}
use Rattle.desk_run.specs.Sends.{SendsOn}
use Rattle.desk_run.specs.Works.{Goes}
use Rattle.desk_run.proofs.carrying.carry_on.Given as goal

abbrev pub invariant-tasks : goal.invariant-tasks
invariant-tasks g l = record {
  faults : (g.N.Counted.seen l.net).faults ≡ (g.N.Counted.seen l.fn.net).faults;
  sends : SendsOn g.D.Disk.disk g.D.Counted.seen (g.N.Counted.seen l.fn.net).calls (g.N.Counted.seen l.net).calls;
  goes : Goes l.fn.ledger (g.N.Counted.seen l.fn.net).calls l.ledger (g.N.Counted.seen l.net).calls;
}
