use Rattle.std.proofs.Common.{arith}
use Rattle.dpf_eval.proofs.stream.Frontier.count.Goals as goal

pub overflow_cast-result : goal.overflow_cast-result
overflow_cast-result c = omega (arith, c.self.invariant.within)
