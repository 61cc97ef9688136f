use Rattle.std.proofs.Common.{◌≡◌, ℕ, ◌≤◌, Result, Ok, Err, sym, subst}
use Rattle.std.specs.Prelude.{IfOk}
use Rattle.express_words.specs.declared.memory.NoMemory.{NoMemory}
use Rattle.schedule_text.specs.declared.schedule.Schedule.{Schedule}
use Rattle.schedule_text.specs.Rules.{KeepsRules}
use Rattle.schedule_text.specs.Mill.{mill_schedule}
use Rattle.schedule_text.proofs.MillLaws.{mill_keeps}
use Rattle.schedule_text.proofs.milling.mill.Goals as goal

kept : (n : ℕ) (r : Result Schedule NoMemory) → n ≤ 5000 → IfOk r (λ schedule. schedule ≡ mill_schedule n)
    → IfOk r (λ schedule. KeepsRules schedule)
kept n (Ok schedule) low is = subst KeepsRules (sym is) (mill_keeps n low)
kept n (Err none) low is = tt

pub returns-clause-rules : goal.returns-clause-rules
returns-clause-rules c = kept c.args.number _ c.requires c.milled.ensures
