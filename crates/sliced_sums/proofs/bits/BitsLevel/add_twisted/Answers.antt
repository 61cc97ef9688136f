use Rattle.std.proofs.Common.{◌∙◌, ap, arith}
use Rattle.std.specs.Prelude.{bit_xor}
use Rattle.tower_numbers.specs.Levels.{product_at, twist_at}
use Rattle.sliced_sums.specs.Places.{bit_of}
use Rattle.sliced_sums.proofs.bits.BitsLevel.add_twisted.Goals as goal

pub returns : goal.returns
unfolding product_at twist_at
returns c j h = c.add.ensures j h ∙ ap (bit_xor (bit_of c.args.self.now.words j)) (omega arith)
