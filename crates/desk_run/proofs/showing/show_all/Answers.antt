use Rattle.std.proofs.Common.{◌∙◌, Bor, refl, length}
use Rattle.desk_entries.specs.declared.entry.Reading.{Reading}
use Rattle.desk_run.specs.Shown.{ShowsReading}
use Rattle.desk_run.proofs.ShowLaws.{reading_met, step_met, step_shown, end_shown, end_met, shown_tell}
use Rattle.desk_run.proofs.showing.show_all.Goals as goal

pub readings-preserved : goal.readings-preserved
readings-preserved g c = record {
  faults = c.in_ok-show_one.ensures.sink ∙ c.readings.invariant.faults;
  met = step_met (λ (r : Bor Reading). r.now) _ c.readings.rest.now c.reading-item.result (length c.readings.rest.now)
      c.readings.met c.is_met.result c.either-met.result refl c.in-len1-up.len_at_least c.reading-item.is
      c.readings.invariant.met c.is_met.ensures c.either-met.ensures;
  shown = step_shown (λ (r : Bor Reading). r.now) (ShowsReading c.args.ledger.now.entries) _ c.readings.rest.now c.reading-item.result
      (length c.readings.rest.now) _ _ _ refl c.in-len1-up.len_at_least c.reading-item.is
      c.readings.invariant.shown c.in_ok-show_one.ensures.shown;
}

pub returns-clause-shown : goal.returns-clause-shown
returns-clause-shown g c =
    end_shown (λ (r : Bor Reading). r.now) (ShowsReading c.args.ledger.now.entries) _ c.readings.rest.now _ _ c.in_default.len_below
    c.readings.invariant.shown

pub returns-clause-told : goal.returns-clause-told
returns-clause-told g c so =
    shown_tell (ShowsReading c.args.ledger.now.entries) (reading_met c.args.ledger.now.entries) _ _ _ c.readings.met
    (end_shown (λ (r : Bor Reading). r.now) (ShowsReading c.args.ledger.now.entries) _ c.readings.rest.now _ _ c.in_default.len_below
    c.readings.invariant.shown)
    (end_met (λ (r : Bor Reading). r.now) _ c.readings.rest.now c.readings.met c.in_default.len_below c.readings.invariant.met) so
