-- The groups of a level are the different prefixes of its length.
use Rattle.std.proofs.Common.{◌≡◌, ℕ, suc, ◌+◌, ◌-◌, ◌<◌, ◌≤◌, List, [], ◌∷◌, length, map, slice_index, refl, sym, ◌∙◌, arith, inl, inr, add-one}
use Rattle.std.specs.Prelude.{◌==◌, not, nat_le, count_by, cond, true}
use Rattle.std.specs.List.Sorted.{IsStrictlyIncreasing}
use Rattle.std.specs.Set.{distinct_count}
use Rattle.std.proofs.Math.Pow.{shr_mono}
use Rattle.std.proofs.lemmas.List.{get_or-map, take_all, length-map}
use Rattle.std.proofs.lemmas.List.Sums.{sum_by-cons}
use Rattle.std.proofs.lemmas.Bool.{cases_lt, le-leb, lt-leb, eq-eqb, ne_eqb}
use Rattle.dpf_rules.specs.Evaluation.{prefix}
use Rattle.dpf_eval.specs.Groups.{IsSplit, groups_of}
use Rattle.dpf_eval.proofs.CountLemmas.{Rises, changes, distinct_count-rising, count-changes}

-- prefixes of rising addresses never fall
prefixes_rise : (i a : ℕ) (rest : List ℕ) → IsStrictlyIncreasing (a ∷ rest) → Rises (prefix i a) (map (prefix i) rest)
prefixes_rise i a [] rising = tt
prefixes_rise i a (b ∷ bs) rising =
    let first : a < b = rising 0 (omega arith) in
    (shr_mono (128 - i) (omega arith), prefixes_rise i b bs (λ k inside. rw add-one (rw (add-one (suc k)) at (rising (suc k) (omega arith)))))

-- an entry splits at a level exactly where its prefix is another than that of the entry before
splits_where_other : (addresses splits : List ℕ) (level k : ℕ) → IsSplit addresses splits → level ≤ 128 → k + 1 < length addresses
    → nat_le (slice_index splits (k + 1)) level
    ≡ not (prefix level (slice_index addresses k) == prefix level (slice_index addresses (k + 1)))
splits_where_other addresses splits level k split below inside = elim (cases_lt level (slice_index splits (k + 1))) [
  | inl early ↦ rw (lt-leb (slice_index splits (k + 1)) level early, eq-eqb _ _ (split.joined k level inside early below)) refl
  | inr late ↦ rw (le-leb (slice_index splits (k + 1)) level late, ne_eqb _ _ (split.apart k level inside late below)) refl
]

pub groups-prefixes : (level : ℕ) (addresses splits : List ℕ) → level ≤ 128 → length splits ≡ length addresses
    → IsSplit addresses splits → IsStrictlyIncreasing addresses
    → groups_of splits level (length addresses) ≡ distinct_count ◌==◌ (map (prefix level) addresses)
groups-prefixes level [] splits below same split rising = refl
groups-prefixes level (a ∷ rest) [] below same split rising = absurd (omega arith)
groups-prefixes level (a ∷ rest) (s ∷ ss) below same split rising =
    let first : nat_le s level ≡ true = le-leb s level (omega (arith, split.first)) in
    let others : count_by (λ s. nat_le s level) ss ≡ changes (prefix level a) (map (prefix level) rest) =
    count-changes level (prefix level a) (map (prefix level) rest) ss (same_tail ∙ sym (length-map rest (prefix level))) each in
    rw (take_all (length (a ∷ rest)) (s ∷ ss) (omega arith))
    (sum_by-cons (λ (s : ℕ). cond (nat_le s level) 1 0) s ss
    ∙ rw (first, others) (omega arith)
    ∙ sym (distinct_count-rising (prefix level a) (map (prefix level) rest) (prefixes_rise level a rest rising)))
  where
    same_tail : length ss ≡ length rest
    same_tail = omega arith

    each : (k : ℕ) → k < length (map (prefix level) rest)
        → nat_le (slice_index ss k) level ≡ not (slice_index (map (prefix level) (a ∷ rest)) k == slice_index (map (prefix level) rest) k)
    each k inside =
        let within : k < length rest = omega (arith, length-map rest (prefix level)) in
        rw (get_or-map (prefix level) (a ∷ rest) k 0 0 (omega arith), get_or-map (prefix level) rest k 0 0 within)
        (rw (add-one k) at (splits_where_other (a ∷ rest) (s ∷ ss) level k split below (omega arith)))
