use Rattle.std.proofs.Common.{rules}
use Rattle.desk_texts.proofs.DayLaws.{after_so}
use Rattle.desk_texts.proofs.day.Day.is_after.Goals as goal

pub returns-then-self-other-clause-number : goal.returns-then-self-other-clause-number
returns-then-self-other-clause-number c = after_so _ c.args.self.now c.args.other.now (search rules)

pub returns-then-self-other-3-clause-number : goal.returns-then-self-other-3-clause-number
returns-then-self-other-3-clause-number c = after_so _ c.args.self.now c.args.other.now (search rules)

pub returns-then-self-other-4-clause-number : goal.returns-then-self-other-4-clause-number
returns-then-self-other-4-clause-number c = after_so _ c.args.self.now c.args.other.now (search rules)

pub returns-else-self-other-4-clause-number : goal.returns-else-self-other-4-clause-number
returns-else-self-other-4-clause-number c = after_so _ c.args.self.now c.args.other.now (search rules)

pub returns-else-self-other-2-clause-number : goal.returns-else-self-other-2-clause-number
returns-else-self-other-2-clause-number c = after_so _ c.args.self.now c.args.other.now (search rules)
