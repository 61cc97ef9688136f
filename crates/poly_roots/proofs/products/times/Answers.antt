use Rattle.std.proofs.Common.{◌≡◌, ℕ, ◌+◌, ◌-◌, ◌≤◌, List, [], ◌∷◌, length, get_or, take, drop, ◌∙◌, ap, sym, arith, suc, zero}
use Rattle.std.proofs.lemmas.Grind.{common_steps}
use borrow.Rule.Slice.PartMut.{put_mid}
use Rattle.tower_laws.specs.Polynomials.{value_at, times_of}
use Rattle.poly_roots.proofs.Steps.{scaled_alone}
use Rattle.tower_laws.proofs.ValueLaws.{value-times}
use Rattle.poly_roots.proofs.products.times.Goals as goal

tail_put : {X : Type 0} (xs ys : List X) (a : ℕ) → a + length ys ≡ length xs → drop a (put_mid a (length xs - a) xs ys) ≡ ys
tail_put xs ys a h = grind (arith, common_steps)

length_put : {X : Type 0} (xs ys : List X) (a : ℕ) → a + length ys ≡ length xs → length (put_mid a (length xs - a) xs ys) ≡ length xs
length_put xs ys a h = grind (arith, common_steps)

drop_last : {X : Type 0} (xs : List X) (x : X) (i : ℕ) → suc i ≡ length xs → x ≡ get_or xs i x → drop i xs ≡ x ∷ []
drop_last xs x i h e = grind (arith, common_steps)

size_of_rest : {X : Type 0} (xs : List X) (i n : ℕ) → n ≡ length (take (length xs - i) (drop i xs)) → i ≤ length xs → i + n ≡ length xs
size_of_rest xs i n h k = grind (arith, common_steps)

times_whole : {X : Type 0} (z : X) (add mul : X → X → X) (p q out : List X) (left : ℕ) → left ≤ 0 → drop left out ≡ times_of z add mul (drop left p) q → out ≡ times_of z add mul p q
times_whole z add mul p q out zero h e = e
times_whole z add mul p q out (suc left) h e = absurd (omega arith)

pub returns-clause-values : goal.returns-clause-values
returns-clause-values g c = λ x.
    let f = g.F.Field in
    let p = c.args.p.now in
    let q = c.args.q.now in
    let whole = times_whole f.neutral f.sum f.product p q c.loop-left.out c.loop-left.left c.loop-left-test.false c.loop-left.invariant.done in
    ap (λ r. value_at f.neutral f.sum f.product r x) whole ∙ value-times g.met.F.Field.field_laws p q x

pub loop-left-init : goal.loop-left-init
loop-left-init g c =
    let f = g.F.Field in
    let p = c.args.p.now in
    let q = c.args.q.now in
    let out = c.args.out.now in
    let last = length p - 1 in
    let row = c.put_scaled.new.out in
    let size : last + length row ≡ length out = size_of_rest out last (length row) c.put_scaled.auto.out (omega arith) in
    let end : drop last p ≡ c.index-p-last.result ∷ [] = drop_last p c.index-p-last.result last (omega arith) c.index-p-last.is in
    record {
      inside = omega arith;
      room = ap (λ n. n + 1) (length_put out row last size) ∙ c.requires.room;
      done = tail_put out row last size ∙ c.put_scaled.ensures ∙ sym (scaled_alone g.met.F.Field.field_laws c.index-p-last.result q c.requires.q) ∙ sym (ap (λ t. times_of f.neutral f.sum f.product t q) end);
    }
