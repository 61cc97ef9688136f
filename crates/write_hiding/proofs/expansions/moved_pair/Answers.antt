use Rattle.std.proofs.Common.{◌≡◌, ◌+◌, ◌%◌, arith, refl}
use Rattle.write_hiding.specs.Moved.{moved_pair}
use Rattle.write_hiding.proofs.expansions.moved_pair.Goals as goal

pub returns-then-to-eq0 : goal.returns-then-to-eq0
unfolding moved_pair
returns-then-to-eq0 c =
    let a = c.args in
    let left : (a.word % 2 + a.raw.0 % 2 + a.to + 1) % 2 ≡ (a.word + a.raw.0 + a.to + 1) % 2 = omega arith in
    let right : (a.right + a.raw.1 % 2 + a.to) % 2 ≡ (a.right + a.raw.1 + a.to) % 2 = omega arith in
    rw (c.with_bit.ensures, c.with_bit-then-to-eq0.ensures, c.on_side-kept.ensures, c.on_side.ensures, left, right, c.if-to-eq0.true) refl

pub returns-else-to-eq0 : goal.returns-else-to-eq0
unfolding moved_pair
returns-else-to-eq0 c =
    let a = c.args in
    let left : (a.word % 2 + a.raw.0 % 2 + a.to + 1) % 2 ≡ (a.word + a.raw.0 + a.to + 1) % 2 = omega arith in
    let right : (a.right + a.raw.1 % 2 + a.to) % 2 ≡ (a.right + a.raw.1 + a.to) % 2 = omega arith in
    let one : a.to ≡ 1 = omega arith in
    rw (c.with_bit-else-to-eq0.ensures, c.with_bit-else-to-eq0-2.ensures, c.on_side-kept.ensures, c.on_side.ensures, left, right, one) refl
