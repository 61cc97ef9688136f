use Rattle.std.proofs.Common.{◌≡◌, ◌+◌, ◌≤◌, ◌<◌, inr, ℕ, List, length, drop, Ok, Some, ◌∙◌, ap, arith, length-drop, length-take}
use Rattle.node_journal.proofs.Found.{out_of_range, in_range, read_front}
use Rattle.node_journal.proofs.head.read_record.Goals as goal

pub returns-in-Ok-eq0-clause-damaged : goal.returns-in-Ok-eq0-clause-damaged
returns-in-Ok-eq0-clause-damaged g c n is = (
  grind (arith, is),
  λ f read.
      let b = c.in-Ok-eq0.ensures.bytes f (c.in-Ok.ensures.untouched.still f read) in
      let short : length (drop (c.args.end + 5) f) < c.args.len + 1 = omega (arith, b.0, c.in-Ok-eq0.field-0-is, length-drop (c.args.end + 5) f) in
      out_of_range c.args.end c.args.limit c.args.len (drop (c.args.end + 5) f) (inr (inr (inr short))),
)

pub returns-in-Ok-read-clause-some : goal.returns-in-Ok-read-clause-some
returns-in-Ok-read-clause-some g c f read =
    let b = c.in-Ok-read.ensures.bytes f (c.in-Ok.ensures.untouched.still f read) in
    let a = c.in-Ok.ensures.bytes f read in
    let src = drop (c.args.end + 5) f in
    let there : c.args.len + 1 ≤ length src = omega (arith, b.0, c.in-Ok-read.field-0-is, c.in-Ok-read.field-0-test, length-drop (c.args.end + 5) f) in
    let all : c.in-Ok.read ≡ c.args.len = omega (arith, a.0, c.if-read-size.false, length-take c.args.len c.args.out.now) in
    in_range c.args.end c.args.limit c.args.len src (omega (arith, c.if-len-lt1.false)) (omega (arith, c.if-len-gt-RECORD_MAX.false)) (omega (arith, c.if-limit-end.false, c.requires.limits)) there
    ∙ ap (λ (l : List ℕ). Ok (Some l)) (read_front c.args.len c.in-Ok.read src _ c.read.new.out (drop c.args.len c.args.out.now) all (omega (arith, there)) a.1)
