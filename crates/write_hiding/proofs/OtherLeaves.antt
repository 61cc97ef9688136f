-- The keys of a client's write, and the other server's leaves under them: those of its walk.
use Rattle.std.proofs.Common.{◌≡◌, ◌≢◌, ℕ, ◌^◌, ◌<◌, ◌≤◌, zero, suc, inl, inr, List, length, refl, sym, ap, ◌∙◌, arith}
use Rattle.std.proofs.lemmas.Bool.Decides.{eqb_tells}
use Rattle.dpf_rules.specs.Walk.{state_at, leaf_of}
use Rattle.dpf_rules.specs.Keys.{Expansions, honest, path_at, honest_keys}
use Rattle.dpf_rules.specs.Ideal.{ideal_keys, given_at}
use Rattle.dpf_rules.proofs.KeysLemmas.{honest_same, follows}
use Rattle.dpf_rules.proofs.PointLemmas.{along, leaves_equal}
use Rattle.dpf_rules.proofs.IdealLemmas.{honest_other0, honest_other1, given_walk}
use Rattle.write_hiding.specs.Choices.{PlainChoice, PlainAim}
use Rattle.write_hiding.specs.Views.{other_leaf, other_end, own_leaf}
use Rattle.write_hiding.specs.Writes.{Drawn, choice_of}
use Rattle.write_hiding.specs.Laws.{EndsAreLeaves, KeysAreHonest, LeavesAreHonest}

module _ (d : Drawn) (aim : PlainAim) where
  abbrev root0 : ℕ
  root0 = d.root0

  abbrev root1 : ℕ
  root1 = d.root1

  abbrev q : ℕ
  q = aim.target

  abbrev n : ℕ
  n = length aim.message

  abbrev part : List ℕ
  part = honest_keys q aim.message root0 root1

  abbrev side0 : Expansions
  side0 = honest (λ i. (path_at q root0 root1 i).0) n

  abbrev side1 : Expansions
  side1 = honest (λ i. (path_at q root0 root1 i).1) n

  pub keys0 : ideal_keys q aim.message 0 root0 side1 ≡ part
  keys0 = honest_other1 q aim.message root0 root1

  pub keys1 : ideal_keys q aim.message 1 root1 side0 ≡ part
  keys1 = honest_other0 q aim.message root0 root1

  walks : (i : ℕ) → i ≤ 128 → (state_at part 0 root0 q i ≡ (path_at q root0 root1 i).0) × (state_at part 1 root1 q i ≡ (path_at q root0 root1 i).1)
  walks i h = along part q root0 root1 (follows q aim.message root0 root1) q i h (λ k l. refl)

  ends1 : given_at part q 1 root1 side1 128 ≡ leaf_of part 1 root1 q
  ends1 =
      ap (λ e. given_at part q 1 root1 e 128) (honest_same (λ i. (path_at q root0 root1 i).1) (state_at part 1 root1 q) n (λ i h. sym (walks i h).1))
      ∙ given_walk part q 1 root1 n 128 (omega arith)

  ends0 : given_at part q 0 root0 side0 128 ≡ leaf_of part 0 root0 q
  ends0 =
      ap (λ e. given_at part q 0 root0 e 128) (honest_same (λ i. (path_at q root0 root1 i).0) (state_at part 0 root0 q) n (λ i h. sym (walks i h).0))
      ∙ given_walk part q 0 root0 n 128 (omega arith)

  -- the viewer is server 0
  abbrev c0 : PlainChoice
  c0 = choice_of 0 d aim

  pub end0 : other_end 0 c0 aim ≡ leaf_of part 1 root1 q
  unfolding choice_of
  end0 = ap (λ k. given_at k q 1 root1 side1 128) keys0 ∙ ends1

  pub own0 : (a : ℕ) → own_leaf 0 c0 aim a ≡ leaf_of part 0 root0 a
  unfolding choice_of
  own0 a = ap (λ k. leaf_of k 0 root0 a) keys0

  -- the viewer is server 1
  abbrev c1 : PlainChoice
  c1 = choice_of 1 d aim

  pub end1 : other_end 1 c1 aim ≡ leaf_of part 0 root0 q
  unfolding choice_of
  end1 = ap (λ k. given_at k q 0 root0 side0 128) keys1 ∙ ends0

  pub own1 : (a : ℕ) → own_leaf 1 c1 aim a ≡ leaf_of part 1 root1 a
  unfolding choice_of
  own1 a = ap (λ k. leaf_of k 1 root1 a) keys1

  module _ (small : q < 2 ^ 128) where
    apart : (a : ℕ) → a < 2 ^ 128 → a ≢ q → leaf_of part 0 root0 a ≡ leaf_of part 1 root1 a
    apart a h other = leaves_equal part q root0 root1 (follows q aim.message root0 root1) a h small other

    pub leaf0 : (a : ℕ) → a < 2 ^ 128 → other_leaf 0 c0 aim a ≡ leaf_of part 1 root1 a
    leaf0 a h = elim (eqb_tells a q) [
      | inl e ↦ rw e.0 (end0 ∙ ap (leaf_of part 1 root1) (sym e.1))
      | inr e ↦ rw e.0 (own0 a ∙ apart a h e.1)
    ]

    pub leaf1 : (a : ℕ) → a < 2 ^ 128 → other_leaf 1 c1 aim a ≡ leaf_of part 0 root0 a
    leaf1 a h = elim (eqb_tells a q) [
      | inl e ↦ rw e.0 (end1 ∙ ap (leaf_of part 0 root0) (sym e.1))
      | inr e ↦ rw e.0 (own1 a ∙ sym (apart a h e.1))
    ]

-- ---- for either viewer

pub keys_are_honest : KeysAreHonest
unfolding choice_of
keys_are_honest zero d aim h = keys0 d aim
keys_are_honest (suc zero) d aim h = keys1 d aim
keys_are_honest (suc (suc n)) d aim h = absurd (omega arith)

pub ends_are_leaves : EndsAreLeaves
unfolding choice_of
ends_are_leaves zero d aim h = end0 d aim
ends_are_leaves (suc zero) d aim h = end1 d aim
ends_are_leaves (suc (suc n)) d aim h = absurd (omega arith)

pub leaves_are_honest : LeavesAreHonest
unfolding choice_of
leaves_are_honest zero d aim a h low small = leaf0 d aim small a low
leaves_are_honest (suc zero) d aim a h low small = leaf1 d aim small a low
leaves_are_honest (suc (suc n)) d aim a h low small = absurd (omega arith)
