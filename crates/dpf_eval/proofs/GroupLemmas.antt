-- Groups of entries, one entry on.
use Rattle.std.proofs.Common.{◌≡◌, ◌≢◌, ℕ, zero, suc, ◌+◌, ◌-◌, ◌<◌, ◌≤◌, List, length, map, take, get_or, slice_index, slice_index_or, set, sym, ◌∙◌, ap, arith, inl, inr, get_or-set_other, get_or-set_same}
use Rattle.std.proofs.lemmas.List.Sums.{count_by_more_yes, count_by_more_no, count_by-le-length, sum_by_more}
use Rattle.std.proofs.lemmas.List.{length-take, length-take-le, get_or-take, get_or-map}
use Rattle.dpf_rules.specs.Keys.{raw_pair}
use Rattle.std.proofs.lemmas.Bool.{cases_lt}
use Rattle.std.proofs.lemmas.Bool.Decides.{nat_tests}
use Rattle.std.specs.Prelude.{nat_le, if◌then◌else◌}
use Rattle.dpf_eval.specs.Groups.{groups_of}

module _ (splits : List ℕ) (level : ℕ) where
  pub groups_more : (k : ℕ) → k < length splits
      → groups_of splits level (k + 1) ≡ groups_of splits level k + (if nat_le (slice_index splits k) level then 1 else 0)
  groups_more k inside = sum_by_more (λ s. if nat_le s level then 1 else 0) splits k 0 inside

  -- an entry that splits begins a group
  pub groups_more_yes : (k : ℕ) → k < length splits → slice_index splits k ≤ level
      → groups_of splits level (k + 1) ≡ groups_of splits level k + 1
  groups_more_yes k inside splits_here =
      count_by_more_yes (λ s. nat_le s level) splits k 0 inside (grind (arith, nat_tests))

  -- another is of the group of the entry before
  pub groups_more_no : (k : ℕ) → k < length splits → level < slice_index splits k
      → groups_of splits level (k + 1) ≡ groups_of splits level k
  groups_more_no k inside joins =
      count_by_more_no (λ s. nat_le s level) splits k 0 inside (grind (arith, nat_tests))

  pub groups_step : (k : ℕ) → k < length splits → groups_of splits level k ≤ groups_of splits level (k + 1)
  groups_step k inside = elim (cases_lt level (slice_index splits k)) [
    | inl joins ↦ omega (arith, groups_more_no k inside joins)
    | inr splits_here ↦ omega (arith, groups_more_yes k inside splits_here)
  ]

  pub groups_rise : (j d : ℕ) → j + d ≤ length splits → groups_of splits level j ≤ groups_of splits level (j + d)
  groups_rise j zero inside = let e : j + 0 ≡ j = omega arith in rw e (omega arith)
  groups_rise j (suc d) inside =
      let e : j + suc d ≡ j + d + 1 = omega arith in
      rw e (omega (arith, groups_rise j d (omega arith), groups_step (j + d) (omega arith)))

  pub groups_le : (j k : ℕ) → j ≤ k → k ≤ length splits → groups_of splits level j ≤ groups_of splits level k
  groups_le j k below inside =
      let e : k ≡ j + (k - j) = omega arith in
      rw e (groups_rise j (k - j) (omega arith))

  pub groups_within : (k : ℕ) → groups_of splits level k ≤ k
  groups_within k = omega (arith, count_by-le-length (λ s. nat_le s level) (take k splits), length-take k splits)

  pub groups_some : slice_index splits 0 ≤ level → (k : ℕ) → k < length splits → 0 < groups_of splits level (k + 1)
  groups_some first k inside =
      let one : groups_of splits level 1 ≡ groups_of splits level 0 + 1 = groups_more_yes 0 (omega arith) first in
      omega (arith, one, groups_le 1 (k + 1) (omega arith) (omega arith))

  -- an entry that joins is not the first
  later_entry : (k : ℕ) → level < slice_index splits k → slice_index splits 0 ≤ level → 0 < k
  later_entry zero joins first = absurd (omega arith)
  later_entry (suc k) joins first = omega arith

  -- each entry reads the state of its group's first entry
  module _ (states nodes : List ℕ) (k : ℕ) (inside : k < length splits) (first : slice_index splits 0 ≤ level)
      (before : (j : ℕ) → j < k → slice_index nodes (groups_of splits level (j + 1) - 1) ≡ slice_index states j) where
    pub gathered_yes : slice_index splits k ≤ level → groups_of splits level k < length nodes
        → (j : ℕ) → j < k + 1
        → slice_index (set nodes (groups_of splits level k) (slice_index states k)) (groups_of splits level (j + 1) - 1) ≡ slice_index states j
    gathered_yes here room j below = elim (cases_lt j k) [
      | inl less ↦
          let low : groups_of splits level (j + 1) ≤ groups_of splits level k = groups_le (j + 1) k (omega arith) (omega arith) in
          let some : 0 < groups_of splits level (j + 1) = groups_some first j (omega arith) in
          let other : groups_of splits level (j + 1) - 1 ≢ groups_of splits level k = omega arith in
          get_or-set_other nodes (groups_of splits level k) (groups_of splits level (j + 1) - 1) (slice_index states k) 0 other ∙ before j less
      | inr same ↦
          let is : j ≡ k = omega arith in
          let place : groups_of splits level (j + 1) - 1 ≡ groups_of splits level k =
          rw is (omega (arith, groups_more_yes k inside here)) in
          rw (place, is) (get_or-set_same nodes (groups_of splits level k) (slice_index states k) 0 room)
    ]

    pub gathered_no : level < slice_index splits k
        → ((j : ℕ) → j + 1 < length splits → level < slice_index splits (j + 1) → slice_index states (j + 1) ≡ slice_index states j)
        → (j : ℕ) → j < k + 1 → slice_index nodes (groups_of splits level (j + 1) - 1) ≡ slice_index states j
    gathered_no joins grouped j below = elim (cases_lt j k) [
      | inl less ↦ before j less
      | inr same ↦
          let is : j ≡ k = omega arith in
          let later : 0 < k = later_entry k joins first in
          let m = k - 1 in
          let after : k ≡ m + 1 = omega arith in
          let here : groups_of splits level (m + 1 + 1) ≡ groups_of splits level (m + 1) =
          groups_more_no (m + 1) (omega arith) (rw (← after) joins) in
          let state : slice_index states (m + 1) ≡ slice_index states m = grouped m (omega arith) (rw (← after) joins) in
          let place : groups_of splits level (m + 1 + 1) - 1 ≡ groups_of splits level (m + 1) - 1 = omega arith in
          rw (is, after, place, state) (before m (omega arith))
    ]

-- each entry reads the raw children of its own state among those of the groups
pub group_pair : (splits states nodes : List ℕ) (pairs : List (ℕ × ℕ)) (level groups : ℕ)
    → slice_index splits 0 ≤ level → groups ≡ groups_of splits level (length splits) → groups ≤ length nodes
    → ((k : ℕ) → k < length splits → slice_index nodes (groups_of splits level (k + 1) - 1) ≡ slice_index states k)
    → take (length (take groups nodes)) pairs ≡ map raw_pair (take groups nodes)
    → (k : ℕ) → k < length splits
    → slice_index_or pairs (groups_of splits level (k + 1) - 1) (0, 0) ≡ raw_pair (slice_index states k)
group_pair splits states nodes pairs level groups first count room gathered expanded k inside =
    let low : groups_of splits level (k + 1) ≤ groups_of splits level (length splits) =
    groups_le splits level (k + 1) (length splits) (omega arith) (omega arith) in
    let some : 0 < groups_of splits level (k + 1) = groups_some splits level first k (omega arith) in
    let place = groups_of splits level (k + 1) - 1 in
    let below : place < groups = omega arith in
    let long : length (take groups nodes) ≡ groups = length-take-le groups nodes room in
    let taken : take groups pairs ≡ map raw_pair (take groups nodes) = rw long at expanded in
    sym (get_or-take groups pairs place (0, 0) below)
    ∙ ap (λ (ps : List (ℕ × ℕ)). get_or ps place (0, 0)) taken
    ∙ get_or-map raw_pair (take groups nodes) place 0 (0, 0) (omega arith)
    ∙ ap raw_pair (get_or-take groups nodes place 0 below ∙ gathered k inside)
