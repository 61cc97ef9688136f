use Rattle.std.proofs.Common.{◌≡◌, take, None}
use Rattle.desk_run.specs.Sends.{SendsOn}
use Rattle.desk_run.specs.Works.{ReadsEach}
use Rattle.desk_run.proofs.letters.fetch.Given as goal

abbrev pub invariant-boxes : goal.invariant-boxes
invariant-boxes g l = record {
  faults : (g.N.Counted.seen l.net).faults ≡ (g.N.Counted.seen l.fn.net).faults;
  sends : SendsOn g.D.Disk.disk g.D.Counted.seen (g.N.Counted.seen l.fn.net).calls (g.N.Counted.seen l.net).calls;
  reads : l.refused ≡ None → ReadsEach l.fn.ledger (g.N.Counted.seen l.fn.net).calls (take l.own-index l.own-items) l.ledger (g.N.Counted.seen l.net).calls;
}
