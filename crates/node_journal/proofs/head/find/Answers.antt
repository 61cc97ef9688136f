use Rattle.std.proofs.Common.{◌≡◌, List, ℕ, drop, ap, arith, rules, ◌∙◌}
use Rattle.node_journal.specs.Next.{found, judged}
use Rattle.node_journal.proofs.Found.{drop_both}
use Rattle.node_journal.proofs.head.find.Goals as goal

pub returns-in_ok-read_record-in-Some-clause-some : goal.returns-in_ok-read_record-in-Some-clause-some
returns-in_ok-read_record-in-Some-clause-some g c n is f read =
    let still = c.read_head.ensures.untouched.still f read in
    let h : found c.args.end c.args.limit (drop c.args.end f) ≡ judged c.args.end c.args.limit c.in-Some.len (drop 5 (drop c.args.end f)) = c.read_head.ensures.some c.in-Some.len (grind (arith, c.in_ok-len.is, c.in-Some.is)) f read c.args.limit in
    grind (arith, h, still, is, drop_both c.args.end 5 f, c.read_record.ensures.some)

pub returns-in_err-read_record-in-Some-clause-damaged : goal.returns-in_err-read_record-in-Some-clause-damaged
returns-in_err-read_record-in-Some-clause-damaged g c n is =
    let r = c.read_record.ensures.damaged n (grind (arith, is, rules)) in (
      r.0,
      λ f read.
          let h : found c.args.end c.args.limit (drop c.args.end f) ≡ judged c.args.end c.args.limit c.in-Some.len (drop 5 (drop c.args.end f)) = c.read_head.ensures.some c.in-Some.len (grind (arith, c.in_ok-len.is, c.in-Some.is)) f read c.args.limit in
          h ∙ ap (λ (l : List ℕ). judged c.args.end c.args.limit c.in-Some.len l) (drop_both c.args.end 5 f) ∙ r.1 f (c.read_head.ensures.untouched.still f read),
    )
