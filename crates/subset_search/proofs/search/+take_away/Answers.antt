use Rattle.std.proofs.Common.{◌≡◌, ◌<◌, ◌-◌, ℕ, suc, List, [], Bool, false, length, get_or, map, sym, ap, ◌∙◌}
use Rattle.std.proofs.Common.{subst, arith}
use Rattle.express_words.specs.Bytes.{xor_bytes}
use Rattle.subset_search.specs.Subsets.{added, chosen_below, boxes_at}
use Rattle.subset_search.proofs.SumLaws.{box_read}
use Rattle.subset_search.proofs.ChoiceLaws.{with_box, added_with, added_more}
use Rattle.subset_search.proofs.search.+take_away.Goals as goal
use Rattle.subset_search.proofs.search.+take_away.Goals.{then-chosen-last, else-chosen-last}

pub returns-clause-sum : goal.returns-clause-sum
returns-clause-sum g t c =
    let n : ℕ = c.args.count - 1 in
    let is : c.args.count ≡ suc n = omega (arith, c.if-count-eq0.false) in
    let boxes : List (List ℕ) = boxes_at (map g.B.AsSlice.items c.args.boxes.now) c.args.candidates.now in
    let chosen : Bool = get_or c.args.chosen.now n false in
    let in_candidates : n < length c.args.candidates.now = omega (arith, c.requires.count) in
    let joined : c.if-chosen-last.sum ≡ with_box chosen c.args.sum.now (get_or boxes n []) =
    elim c.if-chosen-last.branch [
      | then-chosen-last w ↦
          w.sum-is ∙ w.xor_into.ensures
          ∙ ap (xor_bytes c.args.sum.now)
          (w.as_slice.ensures ∙ sym (box_read g.B.AsSlice.items c.args.boxes.now c.args.candidates.now n
          w.index-boxes-candidates.result in_candidates
          (c.requires.candidates n 0 in_candidates) w.index-boxes-candidates.is))
          ∙ sym (ap (λ (b : Bool). with_box b c.args.sum.now (get_or boxes n [])) w.if-chosen-last.true)
      | else-chosen-last w ↦
          w.sum-is ∙ sym (ap (λ (b : Bool). with_box b c.args.sum.now (get_or boxes n []))
          w.if-chosen-last.false)
    ] in
    subst (λ (m : ℕ). c.take_away.new.sum ≡ added c.args.sum.now (chosen_below m boxes c.args.chosen.now))
    (sym is)
    (c.take_away.ensures.sum
    ∙ ap (λ (x : List ℕ). added x (chosen_below n boxes c.args.chosen.now)) joined
    ∙ added_with chosen c.args.sum.now (get_or boxes n []) (chosen_below n boxes c.args.chosen.now)
    ∙ sym (added_more n c.args.sum.now boxes c.args.chosen.now))
