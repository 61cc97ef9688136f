-- What the other server adds to a box at honest expansions.
use Rattle.std.proofs.Common.{◌≡◌, ◌∙◌, ◌<◌, ◌≤◌, ◌^◌, ℕ, false, nat_eq, inl, inr, List, length, refl, sym, ap, ap₂, arith, lit<}
use Rattle.std.proofs.lemmas.Bool.Decides.{eqb_tells}
use Rattle.dpf_rules.specs.Expansion.{block}
use Rattle.dpf_rules.specs.Walk.{last_of, leaf_bytes, leaf_of, state_at, write_bytes}
use Rattle.dpf_rules.specs.Keys.{honest, honest_keys, path_at}
use Rattle.dpf_rules.proofs.KeysLemmas.{follows}
use Rattle.dpf_rules.proofs.PointLemmas.{along}
use Rattle.dpf_rules.proofs.WriteLemmas.{length-last}
use Rattle.write_hiding.specs.Choices.{PlainAim, PlainChoice}
use Rattle.write_hiding.specs.Writes.{Drawn, choice_of}
use Rattle.write_hiding.specs.Views.{other_end, own_leaf, public_part}
use Rattle.write_hiding.proofs.OtherLeaves.{ends_are_leaves, keys_are_honest, leaves_are_honest}
use Rattle.run_hiding.specs.Sight.{block_added, bytes_added}

module _ (d : Drawn) (aim : PlainAim) where
  abbrev q : ℕ
  q = aim.target

  abbrev n : ℕ
  n = length aim.message

  abbrev part : List ℕ
  part = honest_keys q aim.message d.root0 d.root1

  abbrev choice : PlainChoice
  choice = choice_of 0 d aim

  keys : public_part 0 choice aim ≡ part
  keys = keys_are_honest 0 d aim (lit< tt)

  walks : (i : ℕ) → i ≤ 128 → state_at part 1 d.root1 q i ≡ (path_at q d.root0 d.root1 i).1
  walks i h = (along part q d.root0 d.root1 (follows q aim.message d.root0 d.root1) q i h (λ k l. refl)).1

  end_is : other_end 0 choice aim ≡ leaf_of part 1 d.root1 q
  unfolding choice_of
  end_is = ends_are_leaves 0 d aim (lit< tt)

  block_is : choice.other.block ≡ block (length (last_of part)) (leaf_of part 1 d.root1 q)
  unfolding choice_of honest
  block_is = ap₂ (λ k e. block k e) (sym (length-last q aim.message d.root0 d.root1)) (sym (walks 128 (omega arith)))

  at_target : block_added (public_part 0 choice aim) choice.other.block (other_end 0 choice aim) ≡ write_bytes part 1 d.root1 q
  unfolding leaf_bytes
  at_target =
      ap₂ (λ p e. block_added p choice.other.block e) keys end_is
      ∙ ap (λ x. block_added part x (leaf_of part 1 d.root1 q)) block_is

  elsewhere : (a : ℕ) → a < 2 ^ 128 → q < 2 ^ 128 → nat_eq a q ≡ false → write_bytes (public_part 0 choice aim) 0 choice.own_root a ≡ write_bytes part 1 d.root1 a
  unfolding choice_of
  elsewhere a h low other =
      let leaf : own_leaf 0 choice aim a ≡ leaf_of part 1 d.root1 a = rw other at (leaves_are_honest 0 d aim a (lit< tt) h low) in
      ap (leaf_bytes (public_part 0 choice aim)) leaf ∙ ap (λ p. leaf_bytes p (leaf_of part 1 d.root1 a)) keys

  pub added_is : (a : ℕ) → a < 2 ^ 128 → q < 2 ^ 128 → bytes_added 0 choice aim a ≡ write_bytes part 1 d.root1 a
  added_is a h low = elim (eqb_tells a q) [
    | inl e ↦ rw e.0 (at_target ∙ ap (write_bytes part 1 d.root1) (sym e.1))
    | inr e ↦ rw e.0 (elsewhere a h low e.0)
  ]
