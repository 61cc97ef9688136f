use Rattle.std.proofs.Common.{◌≡◌, ◌≤◌, length, ◌-◌, ◌++◌, List, ℕ}
use Rattle.kept_machine.specs.Replays.{IsReading}
use Rattle.node_journal.specs.Disk.{IsUntouched}
use Rattle.node_journal.specs.Records.{content, records_from}
use Rattle.logged_hub.proofs.reading.read_records.Given as goal

abbrev pub invariant-loop-length : goal.invariant-loop-length
invariant-loop-length g l = record {
  reading : IsReading l.limit l.journal (g.D.Disk.disk l.disk);
  untouched : IsUntouched (g.D.Disk.disk l.fn.disk) (g.D.Disk.disk l.disk);
  so_far : (c : List ℕ) → (g.D.Disk.disk l.fn.disk).reads c → content c ≡ l.log ++ records_from l.journal.end c;
  counted : l.count ≡ length l.log;
  few : l.count ≤ l.journal.end;
  faults : (g.D.Counted.seen l.disk).faults ≡ (g.D.Counted.seen l.fn.disk).faults;
}

abbrev pub decreases-loop-length : goal.decreases-loop-length
decreases-loop-length g l = l.limit - l.journal.end
