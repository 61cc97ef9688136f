use Rattle.std.proofs.Common.{◌≡◌, ◌-◌}
use Rattle.kept_machine.proofs.ReplayLaws.{Reads}
use Rattle.kept_machine.proofs.judging.judge_records.Given as goal

abbrev pub invariant-loop-number : goal.invariant-loop-number
invariant-loop-number g l =
    record {
      so_far : Reads g.M.Machine.rules l.fn.journal.limit l.fn.journal.end l.number l.journal (g.D.Disk.disk l.fn.disk) (g.D.Disk.disk l.disk);
      count : (g.D.Counted.seen l.disk).faults ≡ (g.D.Counted.seen l.fn.disk).faults;
    }

abbrev pub decreases-loop-number : goal.decreases-loop-number
decreases-loop-number g l = l.fn.journal.limit - l.journal.end
