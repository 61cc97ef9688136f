use Rattle.std.specs.Prelude.{bit_xor}
use Rattle.sliced_sums.proofs.Words.{summed, same_length}
use Rattle.sliced_sums.proofs.bits.BitsLevel.add.Goals as goal

pub invariant_of-self : goal.invariant_of-self
invariant_of-self c = record { four = same_length bit_xor c.args.self.now.words c.args.other.now.words c.args.self.now.four c.args.other.now.four }

pub returns : goal.returns
returns c j h = summed c.args.self.now.words c.args.other.now.words c.args.self.now.four c.args.other.now.four j h
