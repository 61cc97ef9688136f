use Rattle.std.proofs.Common.{◌≡◌, ℕ, ◌+◌, length, ◌-◌, ◌/◌, ◌∙◌, sym, refl, ap, subst, arith, Bool, true, false, List, [], ◌∷◌, ◌++◌, set, take, drop}
use Rattle.std.proofs.lemmas.Grind.{common_steps}
use Rattle.std.proofs.lemmas.Slice.{take-put_mid_below}
use Rattle.std.proofs.lemmas.List.{length-append}
use borrow.Rule.Slice.PartMut.{put_mid}
use Rattle.batch_audit.specs.Batch.{batch, rho_at}
use Rattle.batch_audit.specs.Sorting.{Sorted, passed, alone, split}
use Rattle.express_words.specs.declared.audit.Closing.{Closing}
use Rattle.audit_rules.specs.Audit.{accepts}
use Rattle.batch_audit.proofs.sorting.+sort_range.Goals as goal

-- what was judged is what the range's batch is at its value of rho
judged_is : (seed : List ℕ) (cs ds : List Closing) (n rho : ℕ) (b0 b1 : Closing) (b judged : Bool) → rho ≡ rho_at seed n → b0 ≡ batch cs rho → b1 ≡ batch ds rho → b ≡ accepts b0 b1 → b ≡ judged →
    accepts (batch cs (rho_at seed n)) (batch ds (rho_at seed n)) ≡ judged
judged_is seed cs ds n rho b0 b1 b judged r e0 e1 h is =
    ap (λ r. accepts (batch cs r) (batch ds r)) (sym r) ∙ ap (λ c. accepts c (batch ds rho)) (sym e0) ∙ ap (accepts b0) (sym e1) ∙ sym h ∙ is

not_both : (b : Bool) → b ≡ false → b ≡ true → ⊥
not_both b e f = let no : true ≡ false = sym f ∙ e in cc

one_set : (xs : List Bool) → length xs ≡ 1 → set xs 0 true ≡ true ∷ []
one_set [] h = absurd (omega (arith, h))
one_set (x ∷ []) h = refl
one_set (x ∷ (y ∷ ys)) h = absurd (omega (arith, h))

head_of : (h k : ℕ) (a b ys : List Bool) → length a ≡ h → take h (put_mid h k (a ++ b) ys) ≡ a
head_of h k a b ys e = take-put_mid_below h k (a ++ b) ys h (omega arith) (omega (arith, length-append a b, e)) ∙ grind (arith, common_steps)

tail_of : (h : ℕ) (xs ys : List Bool) → h + length ys ≡ length xs → drop h (put_mid h (length xs - h) xs ys) ≡ ys
tail_of h xs ys e = grind (arith, common_steps)

rest_of : (n h : ℕ) (xs : List Closing) → n ≡ length xs → take (n - h) (drop h xs) ≡ drop h xs
rest_of n h xs e = grind (arith, common_steps)

pub returns-then-judge-clause-sorted : goal.returns-then-judge-clause-sorted
returns-then-judge-clause-sorted t c =
    passed c.requires.some (judged_is c.args.seed.now c.args.zero.now c.args.one.now c.args.judged c.rho_of-rho.result c.batch_of.result c.batch_of-2.result c.judge.result true c.rho_of-rho.ensures c.batch_of.ensures c.batch_of-2.ensures c.judge.ensures.judged c.if-judge.true) c.accept_all.ensures refl

pub returns-then-zero-eq1-clause-sorted : goal.returns-then-zero-eq1-clause-sorted
returns-then-zero-eq1-clause-sorted t c =
    alone
    (λ p. not_both (accepts (batch c.args.zero.now (rho_at c.args.seed.now c.args.judged)) (batch c.args.one.now (rho_at c.args.seed.now c.args.judged)))
    (judged_is c.args.seed.now c.args.zero.now c.args.one.now c.args.judged c.rho_of-rho.result c.batch_of.result c.batch_of-2.result c.judge.result false c.rho_of-rho.ensures c.batch_of.ensures c.batch_of-2.ensures c.judge.ensures.judged c.if-judge.false) p)
    (grind arith) (one_set c.args.rejected.now (grind arith)) refl

pub returns-clause-sorted : goal.returns-clause-sorted
returns-clause-sorted t c =
    let h = length c.args.zero.now / 2 in
    let left = c.sort_range-middle.new.rejected in
    let whole = left ++ drop h c.args.rejected.now in
    let right = c.sort_range.new.rejected in
    let size : length left ≡ h = grind (arith, common_steps, c.sort_range-middle.auto.rejected, c.requires.rejected) in
    let fits : h + length right ≡ length whole = grind (arith, common_steps, size, c.sort_range.auto.rejected, c.requires.rejected) in
    split h c.sort_range-middle.result
    (λ p. not_both (accepts (batch c.args.zero.now (rho_at c.args.seed.now c.args.judged)) (batch c.args.one.now (rho_at c.args.seed.now c.args.judged)))
    (judged_is c.args.seed.now c.args.zero.now c.args.one.now c.args.judged c.rho_of-rho.result c.batch_of.result c.batch_of-2.result c.judge.result false c.rho_of-rho.ensures c.batch_of.ensures c.batch_of-2.ensures c.judge.ensures.judged c.if-judge.false) p)
    (grind arith) refl
    (subst (λ r. Sorted c.args.seed.now (take h c.args.zero.now) (take h c.args.one.now) r (c.args.judged + 1) c.sort_range-middle.result) (sym (head_of h (length whole - h) left (drop h c.args.rejected.now) right size)) c.sort_range-middle.ensures.sorted)
    (subst (λ r. Sorted c.args.seed.now (drop h c.args.zero.now) (drop h c.args.one.now) r c.sort_range-middle.result c.sort_range.result) (sym (tail_of h whole right fits))
    (subst (λ ds. Sorted c.args.seed.now (drop h c.args.zero.now) ds right c.sort_range-middle.result c.sort_range.result) (rest_of (length c.args.one.now) h c.args.one.now refl)
    (subst (λ cs. Sorted c.args.seed.now cs (take (length c.args.one.now - h) (drop h c.args.one.now)) right c.sort_range-middle.result c.sort_range.result) (rest_of (length c.args.zero.now) h c.args.zero.now refl) c.sort_range.ensures.sorted)))
