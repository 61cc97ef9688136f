use Rattle.std.proofs.Common.{arith}
use Rattle.letter_pieces.proofs.CutLemmas.{parts_most, few_parts}
use Rattle.letter_pieces.proofs.cutting.parts_for.Goals as goal

pub returns-clause-most : goal.returns-clause-most
returns-clause-most c =
    let most = parts_most c.args.addresses c.args.width c.args.length c.requires (omega arith) in
    omega (arith, most)

pub overflow_cast-result-2 : goal.overflow_cast-result-2
overflow_cast-result-2 c =
    let most = parts_most c.args.addresses c.args.width c.args.length c.requires (omega arith) in
    let few = few_parts c.args.addresses c.args.width c.requires in
    omega (arith, most, few)
