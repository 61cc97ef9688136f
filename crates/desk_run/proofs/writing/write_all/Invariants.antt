use Rattle.std.proofs.Common.{◌≡◌, ◌||◌, length, map}
use Rattle.std.specs.List.{list_any}
use Rattle.desk_run.specs.Shown.{is_met}
use Rattle.desk_run.specs.Told.{TellsReading}
use Rattle.desk_run.proofs.ShowLaws.{ShownSo}
use Rattle.desk_run.proofs.writing.write_all.Given as goal

abbrev pub invariant-readings : goal.invariant-readings
invariant-readings g l =
    record {
      faults : (g.K.Counted.seen l.out).faults ≡ (g.K.Counted.seen l.fn.out).faults;
      met : list_any is_met (map (λ r. r.now) l.readings) ≡ (l.met || list_any is_met (map (λ r. r.now) l.rest));
      shown : ShownSo (TellsReading l.target.folder.now l.target.tag l.ledger.entries) (map (λ r. r.now) l.readings) (map (λ r. r.now) l.rest)
          (g.K.Counted.seen l.fn.out).written (g.K.Counted.seen l.out).written;
    }

abbrev pub decreases-readings : goal.decreases-readings
decreases-readings g l = length l.rest
