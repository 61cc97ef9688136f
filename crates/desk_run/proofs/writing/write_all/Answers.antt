use Rattle.std.proofs.Common.{◌∙◌, ℕ, List, Bor, refl, subst, length}
use Rattle.desk_entries.specs.declared.entry.Reading.{Reading}
use Rattle.desk_run.specs.Printing.{Prints}
use Rattle.desk_run.specs.Told.{TellsFile, TellsReading}
use Rattle.desk_run.proofs.ShowLaws.{file_met, step_met, step_shown, end_shown, end_met, shown_tell}
use Rattle.desk_run.proofs.writing.write_all.Goals as goal

pub readings-preserved : goal.readings-preserved
readings-preserved g c = record {
  faults = c.in_ok-write_letter.ensures.sink ∙ c.readings.invariant.faults;
  met = step_met (λ (r : Bor Reading). r.now) _ c.readings.rest.now c.reading-item.result (length c.readings.rest.now)
      c.readings.met c.is_met.result c.either-met.result refl c.in-len1-up.len_at_least c.reading-item.is
      c.readings.invariant.met c.is_met.ensures c.either-met.ensures;
  shown = step_shown (λ (r : Bor Reading). r.now) (TellsReading c.args.target.now.folder.now c.args.target.now.tag c.args.ledger.now.entries) _
      c.readings.rest.now c.reading-item.result (length c.readings.rest.now) _ _ _ refl c.in-len1-up.len_at_least
      c.reading-item.is c.readings.invariant.shown
      (subst (λ (n : List ℕ). Prints (TellsFile c.args.target.now.folder.now c.args.target.now.tag n c.reading-item.result.now.serial c.reading-item.result.now.held)
      (g.K.Counted.seen c.readings.out).written (g.K.Counted.seen c.write_letter.new.out).written)
      c.name_of-name.ensures c.in_ok-write_letter.ensures.told);
}

pub returns-clause-each : goal.returns-clause-each
returns-clause-each g c =
    end_shown (λ (r : Bor Reading). r.now) (TellsReading c.args.target.now.folder.now c.args.target.now.tag c.args.ledger.now.entries) _ c.readings.rest.now
    _ _ c.in_default.len_below c.readings.invariant.shown

pub returns-clause-told : goal.returns-clause-told
returns-clause-told g c so =
    shown_tell (TellsReading c.args.target.now.folder.now c.args.target.now.tag c.args.ledger.now.entries) (file_met c.args.target.now.folder.now c.args.target.now.tag c.args.ledger.now.entries)
    _ _ _ c.readings.met
    (end_shown (λ (r : Bor Reading). r.now) (TellsReading c.args.target.now.folder.now c.args.target.now.tag c.args.ledger.now.entries) _ c.readings.rest.now
    _ _ c.in_default.len_below c.readings.invariant.shown)
    (end_met (λ (r : Bor Reading). r.now) _ c.readings.rest.now c.readings.met c.in_default.len_below c.readings.invariant.met) so
