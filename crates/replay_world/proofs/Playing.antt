-- One more event of a run.
use Rattle.std.proofs.Common.{◌≡◌, List, [], ◌∷◌, ◌++◌, map, refl, sym, ap, ◌∙◌}
use Rattle.std.proofs.lemmas.List.{map-append}
use Rattle.run_rules.specs.Letters.{FrameWorld, opened}
use Rattle.run_rules.specs.Run as frames
use Rattle.run_rules.specs.Run.{happens, run}
use Rattle.schedule_text.specs.declared.schedule.Event.{Event}
use Rattle.schedule_text.specs.declared.schedule.Schedule.{Schedule}
use Rattle.replay_world.specs.Parts.{event_in}
use Rattle.replay_world.specs.Played.{run_of, with_event}

run_then : (w : FrameWorld) (es : List frames.Event) (e : frames.Event) → run w (es ++ e ∷ []) ≡ happens (run w es) e
unfolding run
run_then w [] e = refl
run_then w (x ∷ es) e = run_then (happens w x) es e

pub run_next : (s : Schedule) (e : Event) → happens (run_of s) (event_in e) ≡ run_of (with_event s e)
unfolding run_of
run_next s e =
    let w = opened s.header.settings s.header.seed in
    sym (ap (run w) (map-append event_in s.events (e ∷ [])) ∙ run_then w _ (event_in e))

pub run_none : (s : Schedule) → s.events ≡ [] → run_of s ≡ opened s.header.settings s.header.seed
unfolding run_of run
run_none s e = ap (λ (xs : List Event). run (opened s.header.settings s.header.seed) (map event_in xs)) e
