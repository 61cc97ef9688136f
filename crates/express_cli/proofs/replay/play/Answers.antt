use Rattle.std.proofs.Common.{[], sym, subst, arith}
use Rattle.schedule_text.specs.Rules.{KeepsRulesAfter, EventsKeepRules}
use Rattle.schedule_text.specs.declared.schedule.Schedule.{Schedule}
use Rattle.schedule_text.proofs.RuleLaws.{rules_at}
use Rattle.express_cli.proofs.replay.play.Goals as goal

pub event-requires-clause-rules : goal.event-requires-clause-rules
event-requires-clause-rules c =
    let settings = c.args.schedule.now.header.settings in
    subst (λ (s : Schedule). KeepsRulesAfter s.header.settings s.events c.event-item.result) (sym c.loop-event.invariant.played)
    (rules_at settings c.as_slice-event-items.result.now c.loop-event.event-index c.event-item.result
    (subst (EventsKeepRules settings []) (sym c.as_slice-event-items.ensures) c.requires.rules.events) (omega arith) c.event-item.is)
