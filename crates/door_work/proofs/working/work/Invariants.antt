use Rattle.std.proofs.Common.{◌≡◌}
use Rattle.door_work.proofs.WorkLaws.{Standing, room_left}
use Rattle.door_work.proofs.working.work.Given as goal

abbrev pub invariant-steps : goal.invariant-steps
invariant-steps g l = record {
  stands : Standing g.M.Machine.rules g.M.Asks.asking l.places g.D.Disk.disk l.fn.kept l.kept
      (g.N.Counted.seen l.fn.net).calls (g.N.Counted.seen l.net).calls;
  net : (g.N.Counted.seen l.net).faults ≡ (g.N.Counted.seen l.fn.net).faults;
  disk : (g.D.Counted.seen l.kept.disk).faults ≡ (g.D.Counted.seen l.fn.kept.disk).faults;
  door : (g.N.Counted.seen l.net).doors ≡ (g.N.Counted.seen l.fn.net).doors;
}

abbrev pub decreases-steps : goal.decreases-steps
decreases-steps g l = room_left l.kept.journal
