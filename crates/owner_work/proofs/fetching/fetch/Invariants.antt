use Rattle.std.proofs.Common.{◌≡◌, take}
use Rattle.desk_steps.specs.Net.{SendsOn}
use Rattle.owner_work.specs.Works.{OnlyWorks, ReadsEach}
use Rattle.owner_work.proofs.fetching.fetch.Given as goal

abbrev pub invariant-boxes : goal.invariant-boxes
invariant-boxes g l = record {
  faults : (g.N.Counted.seen l.net).faults ≡ (g.N.Counted.seen l.fn.net).faults;
  sends : SendsOn g.D.Disk.disk g.D.Counted.seen (g.N.Counted.seen l.fn.net).calls
      (g.N.Counted.seen l.net).calls;
  clock : (g.C.Counted.seen l.clock).faults ≡ (g.C.Counted.seen l.fn.clock).faults;
  only : OnlyWorks l.fn.kept.machine.ledger.state l.kept.machine.ledger.state;
  reads : ReadsEach g.D.Disk.disk g.D.Counted.seen l.fn.kept (g.N.Counted.seen l.fn.net).calls
      (take l.own-index l.own-items) l.refused l.kept (g.N.Counted.seen l.net).calls;
}
