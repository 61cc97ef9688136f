-- The first and the last place of a list that isn't zero.
use Rattle.std.specs.Prelude.{◌≡◌, ◌≢◌, ℕ, ◌-◌, ◌<◌, ◌≤◌, ◌==◌, Bool, true, false, List, length, reverse, slice_index}
use Rattle.std.specs.List.{prefix_len}
use Rattle.std.proofs.Common.{◌∙◌, ap, sym, inl, inr, get_or, arith}
use Rattle.std.proofs.lemmas.Bool.{cases_lt}
use Rattle.std.proofs.lemmas.Bool.Decides.{eqb_tells}
use Rattle.std.proofs.lemmas.List.{get_or_past, get_or-reverse, length-reverse}
use Rattle.std.proofs.lemmas.List.Sums.{prefix_len_passes, prefix_len_stops}
use Rattle.audit_rules.specs.BadWrites.{HasTwo, first_place, last_place, IsFirst, IsLast}

abbrev is_zero : ℕ → Bool
is_zero n = n == 0

zero_is : (n : ℕ) → is_zero n ≡ true → n ≡ 0
zero_is n h = elim (eqb_tells n 0) [ inl e ↦ e.1 | inr e ↦ cc ]

apart_is : (n : ℕ) → is_zero n ≡ false → n ≢ 0
apart_is n h = elim (eqb_tells n 0) [ inl e ↦ cc | inr e ↦ e.1 ]

-- a place that isn't zero is inside
inside_is : (w : List ℕ) (i : ℕ) → slice_index w i ≢ 0 → i < length w
inside_is w i n = elim (cases_lt i (length w)) [
  | inl h ↦ h
  | inr h ↦ absurd (n (get_or_past w i 0 (omega arith)))
]

-- how many zeros stand before a place that isn't zero
zeros_before : (w : List ℕ) (i : ℕ) → slice_index w i ≢ 0 → prefix_len is_zero w ≤ i
zeros_before w i n = elim (cases_lt i (prefix_len is_zero w)) [
  | inl h ↦ absurd (n (zero_is (get_or w i 0) (prefix_len_passes is_zero w i 0 h)))
  | inr h ↦ omega arith
]

pub first_is : (w : List ℕ) (i : ℕ) → slice_index w i ≢ 0 → IsFirst w (first_place w) × (first_place w ≤ i)
unfolding first_place
first_is w i n =
    let most = zeros_before w i n in
    let there = inside_is w i n in
    let inside : prefix_len is_zero w < length w = omega arith in (
      record {
        inside = inside;
        apart = apart_is (get_or w (prefix_len is_zero w) 0) (prefix_len_stops is_zero w 0 inside);
        before = λ k h. zero_is (get_or w k 0) (prefix_len_passes is_zero w k 0 h);
      },
      most,
    )

pub last_is : (w : List ℕ) (j : ℕ) → slice_index w j ≢ 0 → IsLast w (last_place w) × (j ≤ last_place w)
unfolding last_place
last_is w j n =
    let back = reverse w in
    let size : length back ≡ length w = length-reverse w in
    let zeros = prefix_len is_zero back in
    let there = inside_is w j n in
    let twice : length w - 1 - (length w - 1 - j) ≡ j = omega arith in
    let mirrored : slice_index back (length w - 1 - j) ≢ 0 =
    λ e. n (ap (slice_index w) (sym twice) ∙ sym (get_or-reverse w (length w - 1 - j) 0 (omega arith)) ∙ e) in
    let most : zeros ≤ length w - 1 - j = zeros_before back (length w - 1 - j) mirrored in
    let inside : zeros < length back = omega arith in (
      record {
        inside = omega arith;
        apart = λ e. apart_is (get_or back zeros 0) (prefix_len_stops is_zero back 0 inside) (get_or-reverse w zeros 0 (omega arith) ∙ e);
        after = λ k h. elim (cases_lt k (length w)) [
          | inr past ↦ get_or_past w k 0 (omega arith)
          | inl l ↦
              let again : length w - 1 - (length w - 1 - k) ≡ k = omega arith in
              ap (slice_index w) (sym again) ∙ sym (get_or-reverse w (length w - 1 - k) 0 (omega arith))
              ∙ zero_is (get_or back (length w - 1 - k) 0) (prefix_len_passes is_zero back (length w - 1 - k) 0 (omega arith))
        ];
      },
      omega arith,
    )

-- of two places the first stands before the last
pub in_order : (w : List ℕ) → HasTwo w → first_place w < last_place w
in_order w two =
    let first = (first_is w two.0 two.3).1 in
    let last = (last_is w two.1 two.4).1 in
    let apart = two.2 in
    omega arith
