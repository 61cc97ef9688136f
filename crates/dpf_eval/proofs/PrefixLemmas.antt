-- What addresses with a common prefix share.
use Rattle.std.proofs.Common.{◌≡◌, ◌≢◌, ℕ, zero, suc, ◌+◌, ◌-◌, ◌*◌, ◌/◌, ◌%◌, ◌^◌, ◌<◌, ◌≤◌, List, refl, sym, ◌∙◌, ap, arith, add-one, bit_xor}
use lib.Count.{count_leading_zeros}
use Rattle.std.proofs.Math.Nat.{pow-le-pow_right, div-eq_of_lt, div-lt_iff_lt-mul}
use Rattle.std.specs.Int.Bits.{xor_assoc, xor_self, xor_comm, xor_zero_l}
use Rattle.std.proofs.lemmas.Nat.{shr-shr, xor_shr, xor_lt, leading_length, pow_pos, pow-add}
use Rattle.dpf_rules.specs.Walk.{side_at, state_at}
use Rattle.dpf_rules.specs.Evaluation.{prefix}

-- a prefix is that of one bit more without its last bit
pub prefix_shorter : (i address : ℕ) → i < 128 → prefix i address ≡ prefix (i + 1) address / 2
prefix_shorter i address below =
    let split : 128 - i ≡ (128 - (i + 1)) + 1 = omega arith in
    rw split (sym (shr-shr address (128 - (i + 1)) 1))

-- the side at a level is that last bit
pub side_of_prefix : (i address : ℕ) → i < 128 → side_at address i ≡ prefix (i + 1) address % 2
side_of_prefix i address below =
    let same : 127 - i ≡ 128 - (i + 1) = omega arith in
    rw same refl

-- walks to addresses with a common prefix reach one node
pub state_at-prefix : (part : List ℕ) (server root a b i : ℕ) → i ≤ 128 → prefix i a ≡ prefix i b
    → state_at part server root a i ≡ state_at part server root b i
unfolding state_at
state_at-prefix part server root a b zero below same = refl
state_at-prefix part server root a b (suc i) below same =
    let longer : prefix (i + 1) a ≡ prefix (i + 1) b = rw add-one same in
    let shorter : prefix i a ≡ prefix i b = prefix_shorter i a (omega arith) ∙ ap (λ (x : ℕ). x / 2) longer ∙ sym (prefix_shorter i b (omega arith)) in
    let side : side_at a i ≡ side_at b i = side_of_prefix i a (omega arith) ∙ ap (λ (x : ℕ). x % 2) longer ∙ sym (side_of_prefix i b (omega arith)) in
    let before : state_at part server root a i ≡ state_at part server root b i = state_at-prefix part server root a b i (omega arith) shorter in
    rw (before, side) refl

-- numbers whose sum is 0 are equal
xor_zero : (a b : ℕ) → bit_xor a b ≡ 0 → a ≡ b
xor_zero a b none =
    let twice : bit_xor a (bit_xor a b) ≡ b = sym (xor_assoc a a b) ∙ ap (λ (x : ℕ). bit_xor x b) (xor_self a) ∙ xor_zero_l b in
    let alone : bit_xor a 0 ≡ a = xor_comm a 0 ∙ xor_zero_l a in
    sym alone ∙ rw none at twice

-- the leading zeros of a sum are the bits that both addresses share
module _ (a b : ℕ) (a_fits : a < 2 ^ 128) (b_fits : b < 2 ^ 128) where
  abbrev shared : ℕ
  shared = count_leading_zeros 128 (bit_xor a b)

  pub same_prefix : (i : ℕ) → i ≤ shared → i ≤ 128 → prefix i a ≡ prefix i b
  same_prefix i early below =
      let (m, all, small, big) = leading_length 128 (bit_xor a b) (xor_lt 128 a b a_fits b_fits) in
      let high : 2 ^ m ≤ 2 ^ (128 - i) = pow-le-pow_right {n = 2} (omega arith) {i = m} {j = 128 - i} (omega arith) in
      let none : bit_xor a b / 2 ^ (128 - i) ≡ 0 = div-eq_of_lt {n = bit_xor a b} {m = 2 ^ (128 - i)} (omega arith) in
      xor_zero (prefix i a) (prefix i b) (sym (xor_shr a b (128 - i)) ∙ none)

  pub other_prefix : (i : ℕ) → shared < i → i ≤ 128 → prefix i a ≢ prefix i b
  other_prefix i past below same =
      let (m, all, small, big) = leading_length 128 (bit_xor a b) (xor_lt 128 a b a_fits b_fits) in
      let high : 2 ^ (128 - i + 1) ≤ 2 ^ m = pow-le-pow_right {n = 2} (omega arith) {i = 128 - i + 1} {j = m} (omega arith) in
      let twice : 2 ^ (128 - i + 1) ≡ 2 ^ (128 - i) * 2 ^ 1 = pow-add 2 (128 - i) 1 in
      let none : bit_xor a b / 2 ^ (128 - i) ≡ 0 = xor_shr a b (128 - i) ∙ rw same (xor_self (prefix i b)) in
      let positive : 0 < 2 ^ (128 - i) = pow_pos (128 - i) in
      let low : bit_xor a b < 1 * 2 ^ (128 - i) = (div-lt_iff_lt-mul {k = 2 ^ (128 - i)} {x = bit_xor a b} {y = 1} positive).0 (omega arith) in
      omega arith
