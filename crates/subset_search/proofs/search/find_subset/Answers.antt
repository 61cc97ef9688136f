use Rattle.std.proofs.Common.{◌≡◌, ◌≤◌, ℕ, List, length, map, sym, ap, ◌∙◌, subst, arith}
use Rattle.subset_search.specs.Subsets.{added, chosen_below, boxes_at}
use Rattle.subset_search.proofs.SumLaws.{AreWide, boxes_wide, length-boxes_at, added-back}
use Rattle.subset_search.proofs.ChoiceLaws.{chosen_below-none, chosen_wide, none_of_choices}
use Rattle.subset_search.proofs.search.find_subset.Goals as goal

pub returns-then-not-is_found-clause-none : goal.returns-then-not-is_found-clause-none
returns-then-not-is_found-clause-none g c none =
    let boxes : List (List ℕ) = boxes_at (map g.B.AsSlice.items c.args.boxes.now) c.args.candidates.now in
    let count : ℕ = length c.args.candidates.now in
    none_of_choices (g.T.Target.IsMet c.args.target.now) c.args.sum.now boxes count
    (sym (length-boxes_at (map g.B.AsSlice.items c.args.boxes.now) c.args.candidates.now))
    (λ choice sought. c.search-is_found.ensures.none none choice
    (subst (λ (ps : List (List ℕ)). g.T.Target.IsMet c.args.target.now
    (added (added c.args.sum.now ps) (chosen_below count boxes choice)))
    (sym (chosen_below-none count boxes c.clear.new.chosen c.clear.ensures.none)) sought))

pub returns-then-not-is_found-clause-kept : goal.returns-then-not-is_found-clause-kept
returns-then-not-is_found-clause-kept g c none =
    let boxes : List (List ℕ) = boxes_at (map g.B.AsSlice.items c.args.boxes.now) c.args.candidates.now in
    c.take_away.ensures.sum ∙ c.search-is_found.ensures.same
    ∙ ap (added c.args.sum.now) (chosen_below-none (length c.args.candidates.now) boxes c.clear.new.chosen
    c.clear.ensures.none)

pub returns-else-not-is_found-clause-added : goal.returns-else-not-is_found-clause-added
returns-else-not-is_found-clause-added g c found =
    let boxes : List (List ℕ) = boxes_at (map g.B.AsSlice.items c.args.boxes.now) c.args.candidates.now in
    let count : ℕ = length c.args.candidates.now in
    let wide : AreWide (length c.args.sum.now) boxes =
    boxes_wide g.B.AsSlice.items c.args.boxes.now c.args.candidates.now (length c.args.sum.now)
    c.requires.candidates c.requires.widths in
    let long : length boxes ≡ count = length-boxes_at (map g.B.AsSlice.items c.args.boxes.now)
    c.args.candidates.now in
    let all : count ≤ length boxes = omega arith in
    sym (added-back (length c.args.sum.now) c.search-is_found.new.sum
    (chosen_below count boxes c.search-is_found.new.chosen)
    c.search-is_found.ensures.length
    (chosen_wide (length c.args.sum.now) count boxes c.search-is_found.new.chosen wide all))
    ∙ ap (λ (x : List ℕ). added x (chosen_below count boxes c.search-is_found.new.chosen))
    (c.search-is_found.ensures.same
    ∙ ap (added c.args.sum.now) (chosen_below-none count boxes c.clear.new.chosen c.clear.ensures.none))
