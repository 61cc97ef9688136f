-- The two walks of a point function: along the path to the target the control bits differ, off it the states are equal.
use Rattle.std.proofs.Common.{◌≡◌, ◌≢◌, ℕ, zero, suc, ◌+◌, ◌-◌, ◌/◌, ◌%◌, ◌^◌, ◌<◌, ◌≤◌, ◌⊎◌, inl, inr, List, refl, sym, ap, ◌∙◌, arith, bit_xor}
use Rattle.std.specs.Int.Bits.{xor_assoc, xor_self, xor_comm, xor_zero_l}
use Rattle.std.proofs.lemmas.Nat.Bits.{bit_at_xor, bit_at-lt, same_from_bits_below}
use Rattle.std.proofs.lemmas.Bool.{cases_eq}
use Rattle.dpf_rules.specs.Expansion.{child}
use Rattle.dpf_rules.specs.Walk.{word_of, right_of, side_at, correction, step, state_at, leaf_of}
use Rattle.dpf_rules.specs.Keys.{on_side, level_word, level_right, raw_pair, path_at}

-- ---- sums

-- the control bit of a sum
pub xor-parity : (a b : ℕ) → bit_xor a b % 2 ≡ (a + b) % 2
xor-parity a b =
    let e : bit_xor a b / 1 % 2 ≡ (a / 1 % 2 + b / 1 % 2) % 2 = bit_at_xor a b 0 in
    omega (arith, e)

-- a sum added twice
pub xor_again : (a b : ℕ) → bit_xor a (bit_xor a b) ≡ b
xor_again a b = sym (xor_assoc a a b) ∙ ap (λ x. bit_xor x b) (xor_self a) ∙ xor_zero_l b

-- ---- one level

-- what is added on the side that is lost is the sum of the raw children there
lost : (p q : ℕ × ℕ) (side : ℕ) → side < 2
    → correction (level_word p q side) (level_right p q side) (1 - side) ≡ bit_xor (on_side p (1 - side)) (on_side q (1 - side))
unfolding level_word level_right
lost p q zero h = omega (arith, xor-parity p.1 q.1)
lost p q (suc zero) h = omega (arith, xor-parity p.0 q.0)
lost p q (suc (suc n)) h = absurd (omega arith)

-- the control bit of what is added on the side that is kept
kept : (p q : ℕ × ℕ) (side : ℕ) → side < 2
    → correction (level_word p q side) (level_right p q side) side % 2 ≡ (on_side p side + on_side q side + 1) % 2
unfolding level_word level_right
kept p q zero h = omega arith
kept p q (suc zero) h = omega arith
kept p q (suc (suc n)) h = absurd (omega arith)

pub on_side-raw_pair : (state side : ℕ) → side < 2 → on_side (raw_pair state) side ≡ child state side
on_side-raw_pair state zero h = refl
on_side-raw_pair state (suc zero) h = refl
on_side-raw_pair state (suc (suc n)) h = absurd (omega arith)

-- a step where the control bit is set, and where it is not
step_set : (word right side state : ℕ) → state % 2 ≡ 1 → step word right side state ≡ bit_xor (child state side) (correction word right side)
unfolding step
step_set word right side state h = rw h refl

step_clear : (word right side state : ℕ) → state % 2 ≡ 0 → step word right side state ≡ child state side
unfolding step
step_clear word right side state h = rw h refl

module _ (s0 s1 : ℕ) (apart : s0 % 2 + s1 % 2 ≡ 1) (side : ℕ) (bound : side < 2) where
  abbrev word : ℕ
  word = level_word (raw_pair s0) (raw_pair s1) side

  abbrev right : ℕ
  right = level_right (raw_pair s0) (raw_pair s1) side

  abbrev lose : ℕ
  lose = 1 - side

  lost_sum : correction word right lose ≡ bit_xor (child s0 lose) (child s1 lose)
  lost_sum =
      let below : lose < 2 = omega arith in
      rw (← on_side-raw_pair s0 lose below, ← on_side-raw_pair s1 lose below) (lost (raw_pair s0) (raw_pair s1) side bound)

  -- the states meet on the side that is lost
  pub meet : step word right lose s0 ≡ step word right lose s1
  meet = elim (cases_eq (s0 % 2) 1) [
    | inl h ↦
        let clear : s1 % 2 ≡ 0 = omega arith in
        step_set word right lose s0 h ∙ ap (bit_xor (child s0 lose)) lost_sum ∙ xor_again (child s0 lose) (child s1 lose)
        ∙ sym (step_clear word right lose s1 clear)
    | inr h ↦
        let clear : s0 % 2 ≡ 0 = omega arith in
        let on : s1 % 2 ≡ 1 = omega arith in
        step_clear word right lose s0 clear
        ∙ sym (step_set word right lose s1 on ∙ ap (bit_xor (child s1 lose)) (lost_sum ∙ xor_comm (child s0 lose) (child s1 lose))
        ∙ xor_again (child s1 lose) (child s0 lose))
  ]

  -- the control bits still differ on the side that is kept
  pub differ : step word right side s0 % 2 + step word right side s1 % 2 ≡ 1
  differ =
      let c0 : on_side (raw_pair s0) side ≡ child s0 side = on_side-raw_pair s0 side bound in
      let c1 : on_side (raw_pair s1) side ≡ child s1 side = on_side-raw_pair s1 side bound in
      let bit : correction word right side % 2 ≡ (child s0 side + child s1 side + 1) % 2 =
      rw (← c0, ← c1) (kept (raw_pair s0) (raw_pair s1) side bound) in
      elim (cases_eq (s0 % 2) 1) [
        | inl h ↦
            let clear : s1 % 2 ≡ 0 = omega arith in
            rw (step_set word right side s0 h, step_clear word right side s1 clear)
            (omega (arith, xor-parity (child s0 side) (correction word right side), bit))
        | inr h ↦
            let clear : s0 % 2 ≡ 0 = omega arith in
            let on : s1 % 2 ≡ 1 = omega arith in
            rw (step_clear word right side s0 clear, step_set word right side s1 on)
            (omega (arith, xor-parity (child s1 side) (correction word right side), bit))
      ]

-- ---- the path to the target

-- the words and right bits of a public part are those of the path
pub record FollowsPath (part : List ℕ) (target root0 root1 : ℕ) : Type 0 where
  pub words : (i : ℕ) → i < 128 → word_of part i
      ≡ level_word (raw_pair (path_at target root0 root1 i).0) (raw_pair (path_at target root0 root1 i).1) (side_at target i)
  pub rights : (i : ℕ) → i < 128 → right_of part i
      ≡ level_right (raw_pair (path_at target root0 root1 i).0) (raw_pair (path_at target root0 root1 i).1) (side_at target i)

-- the control bits differ along the path
pub path_apart : (target root0 root1 i : ℕ) → (path_at target root0 root1 i).0 % 2 + (path_at target root0 root1 i).1 % 2 ≡ 1
unfolding path_at
path_apart target root0 root1 zero = omega arith
path_apart target root0 root1 (suc i) =
    differ (path_at target root0 root1 i).0 (path_at target root0 root1 i).1 (path_apart target root0 root1 i) (side_at target i)
    (bit_at-lt target (127 - i))

module _ (part : List ℕ) (target root0 root1 : ℕ) (follows : FollowsPath part target root0 root1) where
  abbrev path : ℕ → ℕ × ℕ
  path = path_at target root0 root1

  -- two addresses on one path up to a level
  abbrev Along : ℕ → ℕ → Type 0
  Along address i = (k : ℕ) → k < i → side_at address k ≡ side_at target k

  -- along the path each server walks its states
  pub along : (address i : ℕ) → i ≤ 128 → Along address i
      → (state_at part 0 root0 address i ≡ (path i).0) × (state_at part 1 root1 address i ≡ (path i).1)
  unfolding state_at path_at
  along address zero h a = (refl, refl)
  along address (suc i) h a =
      let before = along address i (omega arith) (λ k l. a k (omega arith)) in
      let here = a i (omega arith) in
      let word = follows.words i (omega arith) in
      let right = follows.rights i (omega arith) in
      (rw (before.0, here, word, right) refl, rw (before.1, here, word, right) refl)

  -- at each level an address is on the path, or the two states are equal
  pub on_or_off : (address i : ℕ) → i ≤ 128 → Along address i ⊎ (state_at part 0 root0 address i ≡ state_at part 1 root1 address i)
  unfolding state_at
  on_or_off address zero h = inl (λ k l. absurd (omega arith))
  on_or_off address (suc i) h = elim (on_or_off address i (omega arith)) [
    | inr same ↦ inr (ap (step (word_of part i) (right_of part i) (side_at address i)) same)
    | inl a ↦ elim (cases_eq (side_at address i) (side_at target i)) [
      | inl here ↦ inl (λ k l. elim (cases_eq k i) [ inl e ↦ rw e here | inr other ↦ a k (omega arith) ])
      | inr here ↦
          let before = along address i (omega arith) a in
          let bound = bit_at-lt target (127 - i) in
          let other = bit_at-lt address (127 - i) in
          let side : side_at address i ≡ 1 - side_at target i = omega arith in
          inr (rw (before.0, before.1, side, follows.words i (omega arith), follows.rights i (omega arith))
          (meet (path i).0 (path i).1 (path_apart target root0 root1 i) (side_at target i) bound))
    ]
  ]

  -- an address that is along the path to its end is the target
  same_address : (address : ℕ) → address < 2 ^ 128 → target < 2 ^ 128 → Along address 128 → address ≡ target
  same_address address ha ht a = same_from_bits_below 128 address target ha ht (λ i h.
      let place : 127 - (127 - i) ≡ i = omega arith in
      let e = a (127 - i) (omega arith) in
      rw place at e)

  -- away from the target the leaves are equal
  pub leaves_equal : (address : ℕ) → address < 2 ^ 128 → target < 2 ^ 128 → address ≢ target
      → leaf_of part 0 root0 address ≡ leaf_of part 1 root1 address
  leaves_equal address ha ht other = elim (on_or_off address 128 (omega arith)) [
    | inl a ↦ absurd (other (same_address address ha ht a))
    | inr same ↦ same
  ]

  -- at the target they are the ends of the path, and their control bits differ
  pub leaves_at_target : (leaf_of part 0 root0 target ≡ (path 128).0) × (leaf_of part 1 root1 target ≡ (path 128).1)
  leaves_at_target = along target 128 (omega arith) (λ k l. refl)

  pub leaves_differ : leaf_of part 0 root0 target % 2 + leaf_of part 1 root1 target % 2 ≡ 1
  leaves_differ = rw (leaves_at_target.0, leaves_at_target.1) (path_apart target root0 root1 128)
