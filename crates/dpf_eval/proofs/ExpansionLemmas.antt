-- Eight more nodes are expanded.
use Rattle.std.proofs.Common.{◌≡◌, ℕ, ◌+◌, ◌-◌, ◌≤◌, List, length, map, take, drop, ◌∙◌, sym, ap, arith}
use Rattle.std.proofs.Math.Seq.{take-add}
use Rattle.std.proofs.lemmas.List.{map-append, length-map, length-take, length-drop}
use Rattle.std.proofs.lemmas.Slice.{take-put_mid}
use borrow.Rule.Slice.PartMut.{put_mid}
use Rattle.dpf_rules.specs.Keys.{raw_pair}

pub eight_more : (at : ℕ) (nodes eight : List ℕ) (pairs piece : List (ℕ × ℕ)) → take at pairs ≡ map raw_pair (take at nodes)
    → piece ≡ map raw_pair eight → eight ≡ take (at + 8 - at) (drop at nodes) → at + 8 ≤ length nodes → at ≤ length pairs
    → take (at + 8) (put_mid at (at + 8 - at) pairs piece) ≡ map raw_pair (take (at + 8) nodes)
eight_more at nodes eight pairs piece before expanded read inside room =
    let span : at + 8 - at ≡ 8 = omega arith in
    let next : eight ≡ take 8 (drop at nodes) = rw span at read in
    let many : length eight ≡ 8 = ap length next ∙ length-take 8 (drop at nodes) ∙ omega (arith, length-drop at nodes) in
    let long : length piece ≡ 8 = ap length expanded ∙ length-map eight raw_pair ∙ many in
    take-put_mid at (at + 8 - at) pairs piece (at + 8) (omega arith) room
    ∙ rw (before, expanded, next, take-add at 8 nodes) (sym (map-append raw_pair (take at nodes) (take 8 (drop at nodes))))
