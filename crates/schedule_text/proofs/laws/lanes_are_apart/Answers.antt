use Rattle.schedule_text.proofs.RuleLaws.{lanes_apart}
use Rattle.schedule_text.proofs.laws.lanes_are_apart.Goals as goal

pub returns : goal.returns
returns c = λ schedule lane kept used. lanes_apart schedule.header.settings schedule.events lane kept.events
    used
