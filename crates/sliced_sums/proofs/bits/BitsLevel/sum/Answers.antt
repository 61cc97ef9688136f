use Rattle.std.proofs.Common.{rules}
use Rattle.sliced_sums.proofs.Parity.{words_parity}
use Rattle.sliced_sums.proofs.bits.BitsLevel.sum.Goals as goal

pub returns : goal.returns
returns c =
    let parity = words_parity c.args.self.now.words (search rules) (search rules) (search rules) (search rules) in
    let wide = c.from.ensures in
    cc
