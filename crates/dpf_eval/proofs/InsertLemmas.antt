-- One more box in its place, and the box of an address.
use Rattle.std.proofs.Common.{◌≡◌, ◌≢◌, ℕ, ◌+◌, ◌-◌, ◌<◌, ◌≤◌, ◌++◌, List, [], ◌∷◌, length, get_or, slice_index, refl, sym, ◌∙◌, ap, arith, inl, inr, Some, None}
use Rattle.std.specs.Prelude.{◌==◌, ◌⊎◌, insert, position, Contains, IsTrue}
use Rattle.std.specs.List.{position_or_len}
use Rattle.std.proofs.lemmas.Bool.{cases_lt, cases_order, ne_eqb, eq-eqb, lt-ltb, le-ltb}
use Rattle.std.proofs.lemmas.List.{length_push, get_or_append_left, get_or_push, get_or_default}
use Rattle.std.proofs.lemmas.List.Edits.{length-insert, get_or-insert_below, get_or-insert_at, get_or-insert_above}
use Rattle.std.proofs.lemmas.List.Sums.{position_or_len_is}
use Rattle.dpf_eval.specs.Order.{IsOrder, has_box}
use Rattle.dpf_eval.proofs.MemberLemmas.{place_of_member, member_at}

module _ (addresses order : List ℕ) (sound : IsOrder addresses order) (address place : ℕ) (within : place ≤ length order)
    (below : (k : ℕ) → k < place → slice_index addresses (slice_index order k) < address)
    (above : (k : ℕ) → place ≤ k → k < length order → address ≤ slice_index addresses (slice_index order k)) where
  -- ---- the box of an address

  -- two boxes have different addresses
  apart : (b k : ℕ) → b < length addresses → k < length addresses → b ≢ k → slice_index addresses b ≢ slice_index addresses k
  apart b k b_inside k_inside other same =
      let (i, i_inside, b_is) = place_of_member order b (sound.whole b b_inside) in
      let (j, j_inside, k_is) = place_of_member order k (sound.whole k k_inside) in
      by i i_inside b_is j j_inside k_is (cases_order i j)
    where
      by : (i : ℕ) → i < length order → b ≡ get_or order i 0 → (j : ℕ) → j < length order → k ≡ get_or order j 0
          → (i ≡ j) ⊎ ((i < j) ⊎ (j < i)) → ⊥
      by i i_inside b_is j j_inside k_is (inl e) = other (b_is ∙ ap (λ (i : ℕ). get_or order i 0) e ∙ sym k_is)
      by i i_inside b_is j j_inside k_is (inr (inl less)) =
          let rise : slice_index addresses b < slice_index addresses k = rw (b_is, k_is) (sound.rising i j less j_inside) in omega arith
      by i i_inside b_is j j_inside k_is (inr (inr more)) =
          let rise : slice_index addresses k < slice_index addresses b = rw (b_is, k_is) (sound.rising j i more i_inside) in omega arith

  pub box_found : place < length order → slice_index addresses (slice_index order place) ≡ address
      → Some (slice_index order place) ≡ position (λ other. other == address) addresses
  box_found inside is =
      let box = slice_index order place in
      let box_inside : box < length addresses = sound.inside place inside in
      let first : position_or_len (λ other. other == address) addresses ≡ box =
      position_or_len_is (λ other. other == address) addresses box 0 (omega arith)
      (λ k less. ne_eqb (slice_index addresses k) address
      (λ same. apart k box (omega arith) box_inside (omega arith) (same ∙ sym is)))
      (λ _. eq-eqb (slice_index addresses box) address is) in
      rw (first, lt-ltb box (length addresses) box_inside) refl

  -- the address stands nowhere
  module _ (other : place < length order → slice_index addresses (slice_index order place) ≢ address) where
    pub nowhere : (b : ℕ) → b < length addresses → slice_index addresses b ≢ address
    nowhere b inside same =
        let (k, k_inside, b_is) = place_of_member order b (sound.whole b inside) in
        by k k_inside b_is (cases_order k place)
      where
        by : (k : ℕ) → k < length order → b ≡ get_or order k 0 → (k ≡ place) ⊎ ((k < place) ⊎ (place < k)) → ⊥
        by k k_inside b_is (inl e) =
            let place_inside : place < length order = omega arith in
            other place_inside (ap (λ (k : ℕ). slice_index addresses (slice_index order k)) (sym e) ∙ rw b_is at same)
        by k k_inside b_is (inr (inl less)) = let low = below k less in let is = rw b_is at same in omega arith
        by k k_inside b_is (inr (inr more)) =
            let high = above place (omega arith) (omega arith) in
            let rise = sound.rising place k more k_inside in
            let is = rw b_is at same in omega arith

    pub not_contained : Contains addresses address → ⊥
    not_contained (b, inside, is) = nowhere b inside (get_or_default addresses b 0 address inside ∙ is)

    pub no_box : None ≡ position (λ other. other == address) addresses
    no_box =
        let none : position_or_len (λ other. other == address) addresses ≡ length addresses =
        position_or_len_is (λ other. other == address) addresses (length addresses) 0 (omega arith)
        (λ k less. ne_eqb (slice_index addresses k) address (nowhere k less)) (λ past. absurd (omega arith)) in
        rw (none, le-ltb (length addresses) (length addresses) (omega arith)) refl

  -- ---- one more box

  module _ (absent : (b : ℕ) → b < length addresses → slice_index addresses b ≢ address) where
    abbrev more : List ℕ
    more = addresses ++ address ∷ []

    abbrev placed : List ℕ
    placed = insert order place (length addresses)

    -- the addresses in the new order
    key_below : (k : ℕ) → k < place → slice_index more (slice_index placed k) ≡ slice_index addresses (slice_index order k)
    key_below k less =
        ap (slice_index more) (get_or-insert_below order place (length addresses) 0 k less within)
        ∙ get_or_append_left addresses (address ∷ []) 0 (slice_index order k) (sound.inside k (omega arith))

    key_at : slice_index more (slice_index placed place) ≡ address
    key_at = ap (slice_index more) (get_or-insert_at order place (length addresses) 0 within) ∙ get_or_push addresses address 0 (length addresses) refl

    key_above : (k : ℕ) → place ≤ k → k < length order → slice_index more (slice_index placed (k + 1)) ≡ slice_index addresses (slice_index order k)
    key_above k later inside =
        ap (slice_index more) (get_or-insert_above order place (length addresses) 0 k later within)
        ∙ get_or_append_left addresses (address ∷ []) 0 (slice_index order k) (sound.inside k inside)

    -- strictly above, since the address is new
    high : (k : ℕ) → place ≤ k → k < length order → address < slice_index addresses (slice_index order k)
    high k later inside = elim (cases_order address (slice_index addresses (slice_index order k))) [
      | inl same ↦ absurd (absent (slice_index order k) (sound.inside k inside) (sym same))
      | inr (inl less) ↦ less
      | inr (inr more) ↦ let up = above k later inside in absurd (omega arith)
    ]

    placed_inside : (k : ℕ) → k < length order + 1 → slice_index placed k < length addresses + 1
    placed_inside k inside = by (cases_order k place)
      where
        by : (k ≡ place) ⊎ ((k < place) ⊎ (place < k)) → slice_index placed k < length addresses + 1
        by (inl e) = rw (e, get_or-insert_at order place (length addresses) 0 within) (omega arith)
        by (inr (inl less)) =
            rw (get_or-insert_below order place (length addresses) 0 k less within) (omega (arith, sound.inside k (omega arith)))
        by (inr (inr later)) =
            let before : k ≡ k - 1 + 1 = omega arith in
            rw (before, get_or-insert_above order place (length addresses) 0 (k - 1) (omega arith) within) (omega (arith, sound.inside (k - 1) (omega arith)))

    placed_rises : (j k : ℕ) → j < k → k < length order + 1
        → slice_index more (slice_index placed j) < slice_index more (slice_index placed k)
    placed_rises j k less inside = by (cases_order j place) (cases_order k place)
      where
        by : (j ≡ place) ⊎ ((j < place) ⊎ (place < j)) → (k ≡ place) ⊎ ((k < place) ⊎ (place < k))
            → slice_index more (slice_index placed j) < slice_index more (slice_index placed k)
        by (inl e) (inl f) = absurd (omega arith)
        by (inl e) (inr (inl low)) = absurd (omega arith)
        by (inl e) (inr (inr late)) =
            let before : k ≡ k - 1 + 1 = omega arith in
            rw (e, key_at, before, key_above (k - 1) (omega arith) (omega arith)) (high (k - 1) (omega arith) (omega arith))
        by (inr (inl early)) (inl f) = rw (f, key_at, key_below j early) (below j early)
        by (inr (inl early)) (inr (inl low)) = rw (key_below j early, key_below k low) (sound.rising j k less (omega arith))
        by (inr (inl early)) (inr (inr late)) =
            let before : k ≡ k - 1 + 1 = omega arith in
            rw (key_below j early, before, key_above (k - 1) (omega arith) (omega arith))
            (omega (arith, below j early, high (k - 1) (omega arith) (omega arith)))
        by (inr (inr late)) (inl f) = absurd (omega arith)
        by (inr (inr late)) (inr (inl low)) = absurd (omega arith)
        by (inr (inr late)) (inr (inr later)) =
            let j_before : j ≡ j - 1 + 1 = omega arith in
            let k_before : k ≡ k - 1 + 1 = omega arith in
            rw (j_before, key_above (j - 1) (omega arith) (omega arith), k_before, key_above (k - 1) (omega arith) (omega arith))
            (sound.rising (j - 1) (k - 1) (omega arith) (omega arith))

    placed_whole : (b : ℕ) → b < length addresses + 1 → IsTrue (has_box placed b)
    placed_whole b inside = by (cases_lt b (length addresses))
      where
        long : length placed ≡ length order + 1
        long = length-insert order place (length addresses) within

        stands : (k : ℕ) → k < length order + 1 → b ≡ get_or placed k 0 → IsTrue (has_box placed b)
        stands k k_inside is = rw is (member_at placed k (rw long k_inside))

        at_place : (k : ℕ) → k < length order → b ≡ get_or order k 0 → (k < place) ⊎ (place ≤ k) → IsTrue (has_box placed b)
        at_place k k_inside is (inl early) =
            stands k (omega arith) (is ∙ sym (get_or-insert_below order place (length addresses) 0 k early within))
        at_place k k_inside is (inr late) =
            stands (k + 1) (omega arith) (is ∙ sym (get_or-insert_above order place (length addresses) 0 k late within))

        by : (b < length addresses) ⊎ (length addresses ≤ b) → IsTrue (has_box placed b)
        by (inl old) =
            let (k, k_inside, is) = place_of_member order b (sound.whole b old) in
            at_place k k_inside is (cases_lt k place)
        by (inr new) =
            let is : b ≡ length addresses = omega arith in
            stands place (omega arith) (is ∙ sym (get_or-insert_at order place (length addresses) 0 within))

    pub inserted : IsOrder more placed
    inserted = record {
      as_many = length-insert order place (length addresses) within ∙ ap (λ (n : ℕ). n + 1) sound.as_many ∙ sym (length_push addresses address);
      inside = λ k inside. rw (length_push addresses address) (placed_inside k (rw (length-insert order place (length addresses) within) at inside));
      rising = λ j k less inside. placed_rises j k less (rw (length-insert order place (length addresses) within) at inside);
      whole = λ b inside. placed_whole b (rw (length_push addresses address) at inside);
    }

-- an address that a list doesn't contain stands nowhere in it
pub absent_everywhere : (addresses : List ℕ) (address : ℕ) → (Contains addresses address → ⊥)
    → (b : ℕ) → b < length addresses → slice_index addresses b ≢ address
absent_everywhere addresses address absent b inside same = absent (b, inside, get_or_default addresses b address 0 inside ∙ same)
