use Rattle.std.proofs.Common.{◌≡◌, ◌<◌, ◌-◌, ℕ, suc, List, [], Bool, false, not, length, get_or, set, map}
use Rattle.std.proofs.Common.{refl, sym, ap, ◌∙◌, subst, arith, get_or-set_same}
use Rattle.express_words.specs.Bytes.{xor_bytes}
use Rattle.subset_search.specs.Subsets.{added, chosen_below, boxes_at}
use Rattle.subset_search.proofs.SumLaws.{AreWide, boxes_wide, box_read, length-boxes_at}
use Rattle.subset_search.proofs.ChoiceLaws.{half, none_more, same_more, same_kept, turned}
use Rattle.subset_search.proofs.search.+search.Goals as goal

pub returns-then-search-clause-same : goal.returns-then-search-clause-same
returns-then-search-clause-same g t c =
    let n : ℕ = c.args.count - 1 in
    let is : c.args.count ≡ suc n = omega (arith, c.if-count-eq0.false) in
    let boxes : List (List ℕ) = boxes_at (map g.B.AsSlice.items c.args.boxes.now) c.args.candidates.now in
    let wide : AreWide (length c.args.sum.now) boxes =
    boxes_wide g.B.AsSlice.items c.args.boxes.now c.args.candidates.now (length c.args.sum.now)
    c.requires.candidates c.requires.widths in
    let long : length boxes ≡ length c.args.candidates.now =
    length-boxes_at (map g.B.AsSlice.items c.args.boxes.now) c.args.candidates.now in
    let lt : n < length boxes = omega (arith, c.requires.count) in
    subst (λ (m : ℕ). added c.search.new.sum (chosen_below m boxes c.search.new.chosen) ≡ added c.args.sum.now
    (chosen_below m boxes c.args.chosen.now))
    (sym is)
    (same_kept (length c.args.sum.now) n boxes c.args.sum.now c.args.chosen.now wide refl lt c.search.new.sum
    c.search.new.chosen
    (c.search.ensures.above n (omega arith)) c.search.ensures.same)

pub returns-clause-none : goal.returns-clause-none
returns-clause-none g t c none =
    let n : ℕ = c.args.count - 1 in
    let is : c.args.count ≡ suc n = omega (arith, c.if-count-eq0.false) in
    let boxes : List (List ℕ) = boxes_at (map g.B.AsSlice.items c.args.boxes.now) c.args.candidates.now in
    let wide : AreWide (length c.args.sum.now) boxes =
    boxes_wide g.B.AsSlice.items c.args.boxes.now c.args.candidates.now (length c.args.sum.now)
    c.requires.candidates c.requires.widths in
    let long : length boxes ≡ length c.args.candidates.now =
    length-boxes_at (map g.B.AsSlice.items c.args.boxes.now) c.args.candidates.now in
    let lt : n < length boxes = omega (arith, c.requires.count) in
    let in_candidates : n < length c.args.candidates.now = omega (arith, c.requires.count) in
    let read : get_or boxes n [] ≡ c.as_slice.result.now =
    box_read g.B.AsSlice.items c.args.boxes.now c.args.candidates.now n c.index-boxes-candidates.result
    in_candidates
    (c.requires.candidates n 0 in_candidates) c.index-boxes-candidates.is ∙ sym c.as_slice.ensures in
    let mark : Bool = not (get_or c.search.new.chosen n false) in
    let both : added c.xor_into.new.out (chosen_below n boxes (set c.search.new.chosen n mark))
    ≡ xor_bytes (half n boxes c.args.sum.now c.args.chosen.now) (get_or boxes n []) =
    ap (λ (x : List ℕ). added x (chosen_below n boxes (set c.search.new.chosen n mark)))
    (c.xor_into.ensures ∙ ap (xor_bytes c.search.new.sum) (sym read))
    ∙ turned n boxes c.search.new.sum (get_or boxes n []) (half n boxes c.args.sum.now c.args.chosen.now)
    c.search.new.chosen mark c.search.ensures.same in
    subst (λ (m : ℕ). (choice : List Bool) → g.T.Target.IsMet c.args.target.now
    (added (added c.args.sum.now (chosen_below m boxes c.args.chosen.now)) (chosen_below m boxes choice))
    → ⊥)
    (sym is)
    (none_more (length c.args.sum.now) n boxes c.args.sum.now c.args.chosen.now wide refl lt
    (g.T.Target.IsMet c.args.target.now)
    (c.search.ensures.none c.if-search.false)
    (λ choice sought. c.search-2.ensures.none none choice
    (subst (λ (x : List ℕ). g.T.Target.IsMet c.args.target.now (added x (chosen_below n boxes choice)))
    (sym both) sought)))

pub returns-clause-same : goal.returns-clause-same
returns-clause-same g t c =
    let n : ℕ = c.args.count - 1 in
    let is : c.args.count ≡ suc n = omega (arith, c.if-count-eq0.false) in
    let boxes : List (List ℕ) = boxes_at (map g.B.AsSlice.items c.args.boxes.now) c.args.candidates.now in
    let wide : AreWide (length c.args.sum.now) boxes =
    boxes_wide g.B.AsSlice.items c.args.boxes.now c.args.candidates.now (length c.args.sum.now)
    c.requires.candidates c.requires.widths in
    let long : length boxes ≡ length c.args.candidates.now =
    length-boxes_at (map g.B.AsSlice.items c.args.boxes.now) c.args.candidates.now in
    let lt : n < length boxes = omega (arith, c.requires.count) in
    let in_candidates : n < length c.args.candidates.now = omega (arith, c.requires.count) in
    let read : get_or boxes n [] ≡ c.as_slice.result.now =
    box_read g.B.AsSlice.items c.args.boxes.now c.args.candidates.now n c.index-boxes-candidates.result
    in_candidates
    (c.requires.candidates n 0 in_candidates) c.index-boxes-candidates.is ∙ sym c.as_slice.ensures in
    let mark : Bool = not (get_or c.search.new.chosen n false) in
    let both : added c.xor_into.new.out (chosen_below n boxes (set c.search.new.chosen n mark))
    ≡ xor_bytes (half n boxes c.args.sum.now c.args.chosen.now) (get_or boxes n []) =
    ap (λ (x : List ℕ). added x (chosen_below n boxes (set c.search.new.chosen n mark)))
    (c.xor_into.ensures ∙ ap (xor_bytes c.search.new.sum) (sym read))
    ∙ turned n boxes c.search.new.sum (get_or boxes n []) (half n boxes c.args.sum.now c.args.chosen.now)
    c.search.new.chosen mark c.search.ensures.same in
    let in_chosen : n < length c.search.new.chosen = omega (arith, c.search.ensures.chosen, c.requires.room)
    in
    let bit : get_or c.search-2.new.chosen n false ≡ not (get_or c.args.chosen.now n false) =
    c.search-2.ensures.above n (omega arith)
    ∙ get_or-set_same c.search.new.chosen n mark false in_chosen
    ∙ ap not (c.search.ensures.above n (omega arith)) in
    subst (λ (m : ℕ). added c.search-2.new.sum (chosen_below m boxes c.search-2.new.chosen)
    ≡ added c.args.sum.now (chosen_below m boxes c.args.chosen.now))
    (sym is)
    (same_more (length c.args.sum.now) n boxes c.args.sum.now c.args.chosen.now wide refl lt
    c.search-2.new.sum c.search-2.new.chosen
    bit (c.search-2.ensures.same ∙ both))
