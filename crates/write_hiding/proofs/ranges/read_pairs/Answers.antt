use Rattle.std.proofs.Common.{◌≡◌, get_or, inl, inr, arith}
use Rattle.std.proofs.lemmas.Bool.{cases_lt}
use Rattle.std.proofs.lemmas.List.{get_or_default}
use Rattle.write_hiding.proofs.ranges.read_pairs.Goals as goal

pub loop-i-preserved : goal.loop-i-preserved
loop-i-preserved c = λ k d h. elim (cases_lt k c.loop-i.i) [
  | inl l ↦ c.loop-i.invariant k d l
  | inr l ↦
      let here : k ≡ c.loop-i.i = omega arith in
      let same : get_or c.args.pairs.now c.loop-i.i d ≡ get_or c.args.pairs.now c.loop-i.i (0, 0) = get_or_default c.args.pairs.now c.loop-i.i d (0, 0) (omega arith) in
      rw (here, same) (c.read_pair.ensures.left, c.read_pair.ensures.right)
]
