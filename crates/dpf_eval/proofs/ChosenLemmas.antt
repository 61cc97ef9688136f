-- The boxes below a count, in the order of their addresses.
use Rattle.std.proofs.Common.{◌≡◌, ℕ, ◌+◌, ◌<◌, ◌≤◌, Bool, true, false, List, length, map, filter, take, drop, get_or, slice_index, refl, sym, ◌∙◌, ap, arith}
use Rattle.std.specs.Prelude.{◌==◌, ◌&&◌, nat_lt, IsTrue}
use Rattle.std.specs.List.{AllPairs}
use Rattle.std.specs.List.Sorted.{IsStrictlyIncreasing}
use Rattle.std.specs.Set.{is_member}
use Rattle.std.proofs.lemmas.Bool.{lt-ltb, le-ltb, ltb-true, eqb-true}
use Rattle.std.proofs.lemmas.Cmp.{nat_eq_equiv}
use Rattle.std.proofs.lemmas.List.{get_or-map, get_or-take, get_or-drop, get_or_default, ext_get_or, length-map, length-take-le, length-drop}
use Rattle.std.proofs.lemmas.List.Elements.{filter_passes, All-get_or}
use Rattle.std.proofs.lemmas.List.Kept.{AllPairs-filter}
use Rattle.std.proofs.lemmas.List.Sums.{length-filter, count_by-le-length}
use Rattle.std.proofs.lemmas.Map.Made.{is_member-filter}
use Rattle.dpf_rules.specs.Evaluation.{prefix_count}
use Rattle.dpf_eval.specs.Order.{IsOrder, has_box}
use Rattle.dpf_eval.proofs.MemberLemmas.{place_of_member, member_at, same_prefix_count}

module _ (addresses order : List ℕ) (count : ℕ) (sound : IsOrder addresses order) (there : count ≤ length addresses) where
  abbrev chosen : List ℕ
  chosen = filter (λ b. nat_lt b count) order

  pub chosen_few : length chosen ≤ length order
  chosen_few = omega (arith, length-filter (λ b. nat_lt b count) order, count_by-le-length (λ b. nat_lt b count) order)

  pub chosen_below : (k : ℕ) → k < length chosen → slice_index chosen k < count
  chosen_below k inside =
      ltb-true (get_or chosen k 0) count
      (All-get_or (λ b. nat_lt b count ≡ true) chosen k 0 inside (filter_passes (λ b. nat_lt b count) order))

  pub chosen_inside : (k : ℕ) → k < length chosen → slice_index chosen k < length addresses
  chosen_inside k inside = omega (arith, chosen_below k inside)

  -- they rise
  abbrev Rising : ℕ → ℕ → Type 0
  Rising a b = slice_index addresses a < slice_index addresses b

  pub chosen_rise : IsStrictlyIncreasing (map (slice_index addresses) chosen)
  chosen_rise k inside =
      let within : k + 1 < length chosen = omega (arith, length-map chosen (slice_index addresses)) in
      let pairs : AllPairs Rising order = λ i j d less last.
      rw (get_or_default order i d 0 (omega arith), get_or_default order j d 0 last) (sound.rising i j less last) in
      rw (get_or-map (slice_index addresses) chosen k 0 0 (omega arith), get_or-map (slice_index addresses) chosen (k + 1) 0 0 within)
      (AllPairs-filter Rising (λ b. nat_lt b count) order pairs k (k + 1) 0 (omega arith) within)

  -- they are the boxes below the count
  has_chosen : (b : ℕ) → has_box chosen b ≡ (has_box order b && nat_lt b count)
  has_chosen b = is_member-filter nat_eq_equiv (λ b. nat_lt b count) b (λ x same. rw (eqb-true b x same) refl) order

  pub chosen_has : (b : ℕ) → b < count → IsTrue (has_box chosen b)
  chosen_has b below = has_chosen b ∙ rw (sound.whole b (omega arith), lt-ltb b count below) refl

  pub chosen_lacks : (b : ℕ) → count ≤ b → has_box chosen b ≡ false
  chosen_lacks b past = has_chosen b ∙ rw (le-ltb b count past) (and_false (has_box order b))
    where
      and_false : (c : Bool) → (c && false) ≡ false
      and_false true = refl
      and_false false = refl

  -- their addresses are the first ones
  pub chosen-prefix_count : prefix_count (map (slice_index addresses) chosen) ≡ prefix_count (take count addresses)
  chosen-prefix_count = same_prefix_count (map (slice_index addresses) chosen) (take count addresses) onto back
    where
      onto : (a : ℕ) → is_member ◌==◌ (map (slice_index addresses) chosen) a ≡ true → is_member ◌==◌ (take count addresses) a ≡ true
      onto a here =
          let (k, inside, is) = place_of_member (map (slice_index addresses) chosen) a here in
          let within : k < length chosen = omega (arith, length-map chosen (slice_index addresses)) in
          let below : get_or chosen k 0 < count = chosen_below k within in
          let at : a ≡ get_or (take count addresses) (get_or chosen k 0) 0 =
          is ∙ get_or-map (slice_index addresses) chosen k 0 0 within ∙ sym (get_or-take count addresses (get_or chosen k 0) 0 below) in
          rw at (member_at (take count addresses) (get_or chosen k 0) (omega (arith, length-take-le count addresses there)))

      back : (a : ℕ) → is_member ◌==◌ (take count addresses) a ≡ true → is_member ◌==◌ (map (slice_index addresses) chosen) a ≡ true
      back a here =
          let (b, inside, is) = place_of_member (take count addresses) a here in
          let below : b < count = omega (arith, length-take-le count addresses there) in
          let (k, within, found) = place_of_member chosen b (chosen_has b below) in
          let at : a ≡ get_or (map (slice_index addresses) chosen) k 0 =
          is ∙ get_or-take count addresses b 0 below ∙ ap (λ (b : ℕ). get_or addresses b 0) found
          ∙ sym (get_or-map (slice_index addresses) chosen k 0 0 within) in
          rw at (member_at (map (slice_index addresses) chosen) k (omega (arith, length-map chosen (slice_index addresses))))

  -- what was written at the chosen boxes
  pub leaves_written : (leaf : ℕ → ℕ) (out : List ℕ) → count ≤ length out
      → ((b : ℕ) → IsTrue (has_box chosen b) → slice_index out b ≡ leaf (slice_index addresses b))
      → take count out ≡ map leaf (take count addresses)
  leaves_written leaf out room written =
      ext_get_or 0 (take count out) (map leaf (take count addresses))
      (length-take-le count out room ∙ sym (length-map (take count addresses) leaf ∙ length-take-le count addresses there))
      (λ b inside.
      let below : b < count = omega (arith, length-take-le count out room) in
      get_or-take count out b 0 below ∙ written b (chosen_has b below)
      ∙ sym (get_or-map leaf (take count addresses) b 0 0 (omega (arith, length-take-le count addresses there))
      ∙ ap leaf (get_or-take count addresses b 0 below)))

  pub rest_kept : (out old : List ℕ) → length out ≡ length old
      → ((b : ℕ) → has_box chosen b ≡ false → slice_index out b ≡ slice_index old b) → drop count out ≡ drop count old
  rest_kept out old same kept =
      ext_get_or 0 (drop count out) (drop count old) (length-drop count out ∙ rw same (sym (length-drop count old)))
      (λ k inside. get_or-drop count out k 0 ∙ kept (count + k) (chosen_lacks (count + k) (omega arith)) ∙ sym (get_or-drop count old k 0))
