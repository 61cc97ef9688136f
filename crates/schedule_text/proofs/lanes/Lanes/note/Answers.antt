use Rattle.std.proofs.Common.{arith}
use Rattle.schedule_text.proofs.LaneLemmas.{table_of_one_more}
use Rattle.schedule_text.proofs.lanes.Lanes.note.Goals as goal

pub returns : goal.returns
returns c = λ before table.
    table_of_one_more before c.args.event.now c.args.self.now _ table c.requires (omega arith) (omega arith)
    (omega arith)
    (λ k h. rw c.client_of.ensures at (c.mark.ensures k h))
    (λ k h. rw c.foreign_by.ensures at (c.mark-2.ensures k h))
