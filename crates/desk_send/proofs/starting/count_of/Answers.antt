use Rattle.std.proofs.Common.{arith}
use Rattle.desk_send.proofs.StartLaws.{few_bytes}
use Rattle.desk_send.proofs.starting.count_of.Goals as goal

pub overflow_cast-result : goal.overflow_cast-result
overflow_cast-result c =
    let few = few_bytes c.args.card.now c.args.text.now c.requires.card c.requires.text in
    omega (arith, few)
