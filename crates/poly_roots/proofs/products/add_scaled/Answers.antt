use Rattle.std.proofs.Common.{◌≡◌, get_or, take, set, ◌∙◌, ap, sym, add-one}
use Rattle.tower_laws.specs.Polynomials.{plus_of, scaled_of}
use Rattle.poly_roots.proofs.Steps.{scaled_more}
use Rattle.poly_roots.proofs.products.add_scaled.Goals as goal

pub loop-j-preserved : goal.loop-j-preserved
loop-j-preserved g c =
    let f = g.F.Field in
    let j = c.loop-j.j in
    let q = c.args.q.now in
    let out = plus_of f.sum (scaled_of f.product c.args.c (take j q)) c.args.out.now in
    let read : c.index-out-j.result ≡ get_or out j c.index-out-j.result = c.index-out-j.is ∙ ap (λ w. get_or w j c.index-out-j.result) c.loop-j.invariant in
    let step = scaled_more g.met.F.Field.field_laws c.args.c c.index-out-j.result c.index-q-j.result q c.args.out.now j c.loop-j-test.true c.requires read c.index-q-j.is in
    let written : c.add.result ≡ f.sum c.index-out-j.result (f.product c.args.c c.index-q-j.result) = c.add.ensures ∙ ap (f.sum c.index-out-j.result) c.mul.ensures in
    ap (λ w. set w j c.add.result) c.loop-j.invariant ∙ ap (set out j) written ∙ step ∙ ap (λ n. plus_of f.sum (scaled_of f.product c.args.c (take n q)) c.args.out.now) (sym (add-one j))
