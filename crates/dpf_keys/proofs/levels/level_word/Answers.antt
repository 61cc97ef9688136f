use Rattle.std.proofs.Common.{◌≡◌, ◌∙◌, ◌+◌, ◌%◌, arith, refl}
use Rattle.dpf_rules.specs.Keys.{level_word}
use Rattle.dpf_keys.proofs.levels.level_word.Goals as goal

pub returns : goal.returns
unfolding level_word
returns c =
    let p = c.args.p in
    let q = c.args.q in
    let side = c.args.side in
    let bit : (p.0 % 2 + q.0 % 2 + side + 1) % 2 ≡ (p.0 + q.0 + side + 1) % 2 = omega arith in
    c.with_bit.ensures ∙ rw (c.on_side.ensures, c.on_side-2.ensures, bit) refl
