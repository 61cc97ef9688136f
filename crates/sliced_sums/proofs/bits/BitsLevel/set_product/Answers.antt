use Rattle.std.specs.Prelude.{bit_and}
use Rattle.tower_numbers.specs.Levels.{product_at}
use Rattle.sliced_sums.proofs.Words.{multiplied, same_length}
use Rattle.sliced_sums.proofs.bits.BitsLevel.set_product.Goals as goal

pub invariant_of-self : goal.invariant_of-self
invariant_of-self c = record { four = same_length bit_and c.args.a.now.words c.args.b.now.words c.args.a.now.four c.args.b.now.four }

pub returns : goal.returns
unfolding product_at
returns c j h = multiplied c.args.a.now.words c.args.b.now.words c.args.a.now.four c.args.b.now.four j h
