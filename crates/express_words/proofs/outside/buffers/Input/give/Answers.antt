use Rattle.express_words.proofs.Pieces.{advanced-place}
use Rattle.express_words.proofs.outside.buffers.Input.give.Goals as goal

pub returns-clause-advanced : goal.returns-clause-advanced
returns-clause-advanced c = rw (← c.self.view_is) (advanced-place _ _ _)
