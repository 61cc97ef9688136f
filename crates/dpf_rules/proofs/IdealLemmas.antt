-- Keys whose other expansions are any: each server walks to the target through the states that its expansions give.
use Rattle.std.proofs.Common.{◌≡◌, ℕ, zero, suc, ◌-◌, ◌≤◌, List, [], ◌∷◌, length, refl, sym, ap, ◌∙◌, arith, inl, inr}
use Rattle.std.specs.Int.Bits.{xor_comm}
use Rattle.std.proofs.lemmas.Nat.Bits.{bit_at-lt}
use Rattle.std.proofs.lemmas.Bool.Decides.{eqb_tells}
use Rattle.express_words.specs.Bytes.{xor_bytes}
use Rattle.express_words.proofs.Bytes.{xor_bytes_comm}
use Rattle.dpf_rules.specs.Walk.{side_at, step, state_at}
use Rattle.dpf_rules.specs.Keys.{Expansions, pair_at, on_side, level_word, level_right, keys, raw_pair, honest, path_at, honest_keys}
use Rattle.dpf_rules.specs.Ideal.{HasStates, own_at, ideal_keys, given_at}
use Rattle.dpf_rules.proofs.KeysLemmas.{HasStates-honest, honest-pair, honest_same, word_of-keys, right_of-keys, words_same, bits_same}
use Rattle.dpf_rules.proofs.PointLemmas.{on_side-raw_pair}

-- ---- the keys do not tell which server's list is which

pub level_word_comm : (p q : ℕ × ℕ) (side : ℕ) → level_word p q side ≡ level_word q p side
unfolding level_word
level_word_comm p q side =
    rw (xor_comm (on_side p (1 - side)) (on_side q (1 - side))) (omega arith)

pub level_right_comm : (p q : ℕ × ℕ) (side : ℕ) → level_right p q side ≡ level_right q p side
unfolding level_right
level_right_comm p q side = omega arith

pub keys_comm : (target : ℕ) (message : List ℕ) (e0 e1 : Expansions) → keys target message e0 e1 ≡ keys target message e1 e0
unfolding keys
keys_comm target message e0 e1 =
    rw (
      words_same (λ i. level_word (pair_at e0 i) (pair_at e1 i) (side_at target i)) (λ i. level_word (pair_at e1 i) (pair_at e0 i) (side_at target i)) 128
          (λ i h. level_word_comm (pair_at e0 i) (pair_at e1 i) (side_at target i)),
      bits_same (λ i. level_right (pair_at e0 i) (pair_at e1 i) (side_at target i)) (λ i. level_right (pair_at e1 i) (pair_at e0 i) (side_at target i)) 128
          (λ i h. level_right_comm (pair_at e0 i) (pair_at e1 i) (side_at target i)),
      xor_bytes_comm e0.block e1.block,
    ) refl

-- ---- the viewer's walk

module _ (target : ℕ) (message : List ℕ) (viewer root : ℕ) (other : Expansions) where
  abbrev own : Expansions
  own = honest (own_at target viewer root other) (length message)

  -- the viewer's list may stand first
  pub own_first : ideal_keys target message viewer root other ≡ keys target message own other
  unfolding ideal_keys
  own_first = elim (eqb_tells viewer 0) [
    | inl h ↦ rw h.0 refl
    | inr h ↦ rw h.0 (keys_comm target message other own)
  ]

  module _ (states : HasStates other) where
    -- the viewer walks to the target through the states that the keys were made from
    pub own_walk : (i : ℕ) → i ≤ 128 → state_at (ideal_keys target message viewer root other) viewer root target i ≡ own_at target viewer root other i
    unfolding state_at own_at
    own_walk zero h = refl
    own_walk (suc i) h =
        let here = own_walk i (omega arith) in
        let pair = honest-pair (own_at target viewer root other) (length message) i (omega arith) in
        let small = HasStates-honest (own_at target viewer root other) (length message) in
        let word = word_of-keys target message own other small states i (omega arith) in
        let right = right_of-keys target message own other small states i (omega arith) in
        rw (here, own_first, word, right, pair) refl

-- where server 1 is honest too, server 0's states are those of the path
pub own_path : (target root0 root1 width i : ℕ) → i ≤ 128
    → own_at target 0 root0 (honest (λ i. (path_at target root0 root1 i).1) width) i ≡ (path_at target root0 root1 i).0
unfolding own_at path_at
own_path target root0 root1 width zero h = refl
own_path target root0 root1 width (suc i) h =
    rw (own_path target root0 root1 width i (omega arith), honest-pair (λ i. (path_at target root0 root1 i).1) width i (omega arith)) refl

-- where server 0 is honest too, server 1's states are those of the path
pub own_path1 : (target root0 root1 width i : ℕ) → i ≤ 128
    → own_at target 1 root1 (honest (λ i. (path_at target root0 root1 i).0) width) i ≡ (path_at target root0 root1 i).1
unfolding own_at path_at
own_path1 target root0 root1 width zero h = refl
own_path1 target root0 root1 width (suc i) h =
    let s0 = raw_pair (path_at target root0 root1 i).0 in
    let s1 = raw_pair (path_at target root0 root1 i).1 in
    rw (
      own_path1 target root0 root1 width i (omega arith),
      honest-pair (λ i. (path_at target root0 root1 i).0) width i (omega arith),
      level_word_comm s1 s0 (side_at target i),
      level_right_comm s1 s0 (side_at target i),
    ) refl

-- ---- both servers honest

module _ (target : ℕ) (message : List ℕ) (root0 root1 : ℕ) where
  abbrev side0 : Expansions
  side0 = honest (λ i. (path_at target root0 root1 i).0) (length message)

  abbrev side1 : Expansions
  side1 = honest (λ i. (path_at target root0 root1 i).1) (length message)

  honest_is : honest_keys target message root0 root1 ≡ keys target message side0 side1
  unfolding honest_keys
  honest_is = refl

  -- server 0's keys are the honest ones
  pub honest_other1 : ideal_keys target message 0 root0 side1 ≡ honest_keys target message root0 root1
  honest_other1 =
      let n = length message in
      own_first target message 0 root0 side1
      ∙ ap (λ e. keys target message e side1)
      (honest_same (own_at target 0 root0 side1) (λ i. (path_at target root0 root1 i).0) n (λ i h. own_path target root0 root1 n i h))
      ∙ sym honest_is

  -- and so are server 1's
  pub honest_other0 : ideal_keys target message 1 root1 side0 ≡ honest_keys target message root0 root1
  honest_other0 =
      let n = length message in
      own_first target message 1 root1 side0
      ∙ ap (λ e. keys target message e side0)
      (honest_same (own_at target 1 root1 side0) (λ i. (path_at target root0 root1 i).1) n (λ i h. own_path1 target root0 root1 n i h))
      ∙ keys_comm target message side1 side0 ∙ sym honest_is

-- ---- the other server's walk

-- where the given pairs are those of the walk's own states, it is the walk
pub given_walk : (part : List ℕ) (target server root width i : ℕ) → i ≤ 128
    → given_at part target server root (honest (state_at part server root target) width) i ≡ state_at part server root target i
unfolding given_at state_at step
given_walk part target server root width zero h = refl
given_walk part target server root width (suc i) h =
    rw (
      given_walk part target server root width i (omega arith),
      honest-pair (state_at part server root target) width i (omega arith),
      on_side-raw_pair (state_at part server root target i) (side_at target i) (bit_at-lt target (127 - i)),
    ) refl
