use Rattle.std.proofs.Common.{◌≡◌, ◌-◌}
use Rattle.kept_machine.proofs.ReplayLaws.{Replays}
use Rattle.kept_machine.proofs.replaying.replay.Given as goal

abbrev pub invariant-loop-number : goal.invariant-loop-number
invariant-loop-number g l =
    record {
      steps : Replays g.M.Machine.rules l.fn.journal.limit l.fn.journal.end l.number l.journal l.fn.machine l.machine (g.D.Disk.disk l.fn.disk) (g.D.Disk.disk l.disk);
      sound : g.M.Machine.rules.is_sound l.machine;
      count : (g.D.Counted.seen l.disk).faults ≡ (g.D.Counted.seen l.fn.disk).faults;
    }

abbrev pub decreases-loop-number : goal.decreases-loop-number
decreases-loop-number g l = l.fn.journal.limit - l.journal.end
