use Rattle.std.proofs.Common.{◌≡◌, ◌+◌, ◌<◌, ℕ, List, [], length, arith, ap, sym, ◌∙◌, refl, None, Result, Ok, Err}
use Rattle.std.proofs.lemmas.List.{length_push}
use Rattle.std.proofs.lemmas.Grind.{common_steps}
use Rattle.express_texts.specs.Lines.{lines_of}
use Rattle.express_texts.proofs.LineLemmas.{empty_from}
use Rattle.express_words.specs.declared.audit.Closing.{Closing}
use Rattle.express_texts.specs.Batch.{Batch, most_pairs, pair_of, under}
use Rattle.express_texts.proofs.LoopLemmas.{left_of, left-bad, left-full, left-none, left-step}
use Rattle.express_texts.proofs.batch.read_pairs.Goals as goal

most_is : most_pairs ≡ 20000
unfolding most_pairs
most_is = refl

abbrev made : List ℕ → List Closing → List Closing → Result Batch ℕ
made seed zero one = Ok (record { seed = seed; pairs = record { zero = zero; one = one } })

pub returns-then-len-eq-MOST_PAIRS : goal.returns-then-len-eq-MOST_PAIRS
returns-then-len-eq-MOST_PAIRS c =
    let counted : length c.loop-rest.zero.items + 2 ≡ c.len.result + 2 = omega arith in
    let full : length c.loop-rest.zero.items ≡ most_pairs = omega (arith, most_is) in
    ap (under c.args.seed)
    (sym c.loop-rest.invariant.same
    ∙ ap (left_of most_pairs c.loop-rest.zero.items c.loop-rest.one.items) c.first_line.ensures.lines
    ∙ left-full most_pairs c.loop-rest.zero.items c.loop-rest.one.items c.first_line.result.0.now (lines_of c.first_line.result.1.now) full)
    ∙ ap Err counted

pub returns-in_default : goal.returns-in_default
returns-in_default c =
    let counted : length c.loop-rest.zero.items + 2 ≡ c.len.result + 2 = omega arith in
    let none : pair_of c.first_line.result.0.now ≡ None = sym c.in_default.ensures in
    ap (under c.args.seed)
    (sym c.loop-rest.invariant.same
    ∙ ap (left_of most_pairs c.loop-rest.zero.items c.loop-rest.one.items) c.first_line.ensures.lines
    ∙ left-bad most_pairs c.loop-rest.zero.items c.loop-rest.one.items c.first_line.result.0.now (lines_of c.first_line.result.1.now) none)
    ∙ ap Err counted

pub loop-rest-preserved : goal.loop-rest-preserved
loop-rest-preserved c =
    let zero_is = c.in_ok-push.ensures.items in
    let room : length c.loop-rest.zero.items < most_pairs = omega (arith, most_is) in
    record {
      same = left-step _ _ _ _ _ _ _ _ c.in-Some.pair.0 c.in-Some.pair.1 _ zero_is c.in_ok-push-2.ensures.items c.first_line.ensures.lines (sym c.in-Some.ensures) room c.loop-rest.invariant.same;
      few = rw zero_is (rw length_push (omega (arith, most_is)));
    }

pub returns : goal.returns
unfolding lines_of
returns c =
    let all_read : c.loop-rest.rest.now ≡ [] = empty_from _ (grind (arith, common_steps)) in
    ap (under c.args.seed)
    (sym c.loop-rest.invariant.same
    ∙ ap (λ (text : List ℕ). left_of most_pairs c.loop-rest.zero.items c.loop-rest.one.items (lines_of text)) all_read
    ∙ left-none most_pairs c.loop-rest.zero.items c.loop-rest.one.items)
    ∙ ap (λ (zero : List Closing). made c.args.seed zero c.loop-rest.one.items) (sym c.from_vec.ensures)
    ∙ ap (made c.args.seed c.from_vec.result) (sym c.from_vec-2.ensures)
