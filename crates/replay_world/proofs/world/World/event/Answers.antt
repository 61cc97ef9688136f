use Rattle.std.proofs.Common.{List, [], ◌∷◌, ◌++◌, sym, ap, ◌∙◌}
use Rattle.run_rules.specs.Run.{happens}
use Rattle.schedule_text.specs.declared.schedule.Event.{Event}
use Rattle.schedule_text.specs.declared.schedule.Schedule.{Schedule}
use Rattle.replay_world.specs.Parts.{event_in}
use Rattle.replay_world.specs.Played.{played, run_of}
use Rattle.replay_world.proofs.Events.{on_ok}
use Rattle.replay_world.proofs.Playing.{run_next}
use Rattle.replay_world.proofs.world.World.event.Goals as goal

pub returns-clause-schedule : goal.returns-clause-schedule
returns-clause-schedule c =
    let s = played c.args.self.now in
    let more = c.in_ok-push.ensures.items ∙ ap (λ (e : Event). s.events ++ e ∷ []) c.in_ok-copied.ensures in
    on_ok c.event.result (λ m. ap (λ (xs : List Event). let t : Schedule = record { header = s.header; events = xs } in t) more) c.event.ensures.moved

pub returns-clause-moved : goal.returns-clause-moved
returns-clause-moved c = on_ok c.event.result (λ m. m c.args.self.now.header) c.event.ensures.moved

pub returns-clause-whole : goal.returns-clause-whole
returns-clause-whole c =
    let s = played c.args.self.now in
    let e = c.args.event.now in
    let more = c.in_ok-push.ensures.items ∙ ap (λ (x : Event). s.events ++ x ∷ []) c.in_ok-copied.ensures in
    let keeps = c.event.ensures.keeps in
    let fit = c.requires.whole.fit in
    on_ok c.event.result (λ m. record {
      stands =
          m s.header
          ∙ (ap (λ w. happens w (event_in e)) c.requires.whole.stands
          ∙ (run_next s e ∙ ap (λ (xs : List Event). run_of (record { header = s.header; events = xs })) (sym more)));
      fit = record { leader = keeps.leader ∙ fit.leader; helper = keeps.helper ∙ fit.helper; lanes = keeps.lanes ∙ fit.lanes };
    }) c.event.ensures.moved
