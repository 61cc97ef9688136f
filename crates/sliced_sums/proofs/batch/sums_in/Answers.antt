use Rattle.std.proofs.Common.{◌∙◌, get_or}
use Rattle.tower_numbers.specs.Levels.{product_at}
use Rattle.sliced_sums.proofs.Parity.{sum_ext}
use Rattle.sliced_sums.proofs.batch.sums_in.Goals as goal

pub returns-clause-x : goal.returns-clause-x
returns-clause-x g c =
    c.sum-x.ensures ∙ sum_ext 256 _ (λ j. product_at 7 (get_or c.args.w.now j 0) (get_or c.args.r.now j 0)) (λ j h.
    let level = c.requires in
    let leaf = c.gathered-w.ensures j h in
    let by = c.gathered-r.ensures j h in
    let both = c.set_product-2.ensures j h in
    cc)

pub returns-clause-y : goal.returns-clause-y
returns-clause-y g c =
    c.sum-y.ensures ∙ sum_ext 256 _ (λ j. product_at 7 (get_or c.args.w.now j 0) (get_or c.args.s.now j 0)) (λ j h.
    let level = c.requires in
    let leaf = c.gathered-w.ensures j h in
    let by = c.gathered-s.ensures j h in
    let both = c.set_product.ensures j h in
    cc)

pub returns-clause-z : goal.returns-clause-z
returns-clause-z g c =
    c.sum.ensures ∙ sum_ext 256 _ (λ j. product_at 7 (product_at 7 (get_or c.args.w.now j 0) (get_or c.args.r.now j 0)) (get_or c.args.s.now j 0)) (λ j h.
    let level = c.requires in
    let leaf = c.gathered-w.ensures j h in
    let by = c.gathered-r.ensures j h in
    let turn = c.gathered-s.ensures j h in
    let first = c.set_product-2.ensures j h in
    let both = c.set_product-3.ensures j h in
    cc)
