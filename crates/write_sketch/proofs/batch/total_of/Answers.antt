use Rattle.std.proofs.Common.{◌≤◌, length, take, refl, sym, ◌∙◌, ap, get_or, add-one, arith}
use Rattle.std.specs.Prelude.{bit_xor}
use Rattle.std.proofs.lemmas.List.{take_all}
use Rattle.audit_rules.specs.Sketch.{total}
use Rattle.write_sketch.proofs.Prefixes.{total_more}
use Rattle.write_sketch.proofs.batch.total_of.Goals as goal

pub loop-i-init : goal.loop-i-init
loop-i-init c = refl

pub loop-i-preserved : goal.loop-i-preserved
loop-i-preserved c =
    let w = c.args.states.now in
    let i = c.loop-i.i in
    ap (λ t. bit_xor t (get_or w i 0)) c.loop-i.invariant
    ∙ total_more w i c.loop-i-test.true
    ∙ ap (λ n. total 0 bit_xor (take n w)) (sym (add-one i))

pub returns : goal.returns
returns c =
    let w = c.args.states.now in
    let all : length w ≤ c.loop-i.i = omega (arith, c.loop-i-test.false) in
    c.loop-i.invariant ∙ ap (total 0 bit_xor) (take_all c.loop-i.i w all)
