use Rattle.std.proofs.Common.{◌≡◌, ℕ, List, refl, ◌∙◌, ap, rules}
use Rattle.express_words.specs.declared.settings.Settings.{Settings}
use Rattle.express_words.proofs.SettledLaws.{one_settings}
use Rattle.schedule_text.specs.declared.schedule.Event.{Event}
use Rattle.schedule_text.specs.declared.schedule.Schedule.{Schedule}
use Rattle.schedule_text.specs.Mill.{mill_header, mill_schedule}
use Rattle.schedule_text.proofs.milling.milled.Goals as goal

abbrev made : Settings → List ℕ → List Event → Schedule
made settings seed events = record { header = record { settings = settings; seed = seed }; events = events }

pub returns : goal.returns
unfolding mill_schedule
returns c =
    let seed = c.mill_seed-seed.result in
    let events = c.from_vec.result in
    let same : made (mill_header 0).settings seed events ≡ mill_schedule c.args.number = search rules in
    ap (λ (s : Settings). made s seed events) (one_settings _ (mill_header 0).settings refl refl refl refl) ∙ same
