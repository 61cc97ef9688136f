use Rattle.std.proofs.Common.{sym, subst}
use Rattle.std.specs.Prelude.{OnOk}
use Rattle.run_rules.specs.Run.{happens}
use Rattle.schedule_text.specs.declared.schedule.Event.{Event}
use Rattle.replay_world.specs.Parts.{event_in}
use Rattle.replay_world.specs.View.{Moves}
use Rattle.replay_world.proofs.state.State.event.Goals as goal

pub returns-in-Ask-clause-moved : goal.returns-in-Ask-clause-moved
unfolding happens
returns-in-Ask-clause-moved c =
    subst (λ (e : Event). OnOk c.ask.result (Moves (λ w. happens w (event_in e)) c.args.self.now c.ask.new.self)) (sym c.in-Ask.is) c.ask.ensures.moved

pub returns-in-Send-clause-moved : goal.returns-in-Send-clause-moved
unfolding happens
returns-in-Send-clause-moved c =
    subst (λ (e : Event). OnOk c.send.result (Moves (λ w. happens w (event_in e)) c.args.self.now c.send.new.self)) (sym c.in-Send.is) c.send.ensures.moved

pub returns-in-Tick-clause-moved : goal.returns-in-Tick-clause-moved
unfolding happens
returns-in-Tick-clause-moved c =
    subst (λ (e : Event). OnOk c.tick.result (Moves (λ w. happens w (event_in e)) c.args.self.now c.tick.new.self)) (sym c.in-Tick.is) c.tick.ensures.moved

pub returns-in-Deliver-clause-moved : goal.returns-in-Deliver-clause-moved
unfolding happens
returns-in-Deliver-clause-moved c =
    subst (λ (e : Event). OnOk c.deliver.result (Moves (λ w. happens w (event_in e)) c.args.self.now c.deliver.new.self)) (sym c.in-Deliver.is) c.deliver.ensures.moved

pub returns-in-Show-clause-moved : goal.returns-in-Show-clause-moved
unfolding happens
returns-in-Show-clause-moved c =
    subst (λ (e : Event). OnOk c.show.result (Moves (λ w. happens w (event_in e)) c.args.self.now c.show.new.self)) (sym c.in-Show.is) c.show.ensures.moved

pub returns-in-Finish-clause-moved : goal.returns-in-Finish-clause-moved
unfolding happens
returns-in-Finish-clause-moved c =
    subst (λ (e : Event). OnOk c.finish.result (Moves (λ w. happens w (event_in e)) c.args.self.now c.finish.new.self)) (sym c.in-Finish.is) c.finish.ensures.moved
