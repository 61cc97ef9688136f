-- The difference vector of honest keys: zero at every address but the target, and odd there.
use Rattle.std.proofs.Common.{◌≡◌, ◌≢◌, ℕ, ◌%◌, ◌^◌, ◌<◌, List, ap, ◌∙◌, arith, bit_xor}
use Rattle.std.specs.Int.Bits.{xor_self}
use Rattle.dpf_rules.specs.Walk.{leaf_of}
use Rattle.dpf_rules.specs.Keys.{honest_keys}
use Rattle.dpf_rules.specs.Evaluation.{difference_at}
use Rattle.dpf_rules.proofs.PointLemmas.{xor-parity, leaves_equal, leaves_differ}
use Rattle.dpf_rules.proofs.KeysLemmas.{follows}

module _ (target : ℕ) (message : List ℕ) (root0 root1 : ℕ) where
  abbrev part : List ℕ
  part = honest_keys target message root0 root1

  pub difference_elsewhere : (address : ℕ) → address < 2 ^ 128 → target < 2 ^ 128 → address ≢ target
      → difference_at part root0 root1 address ≡ 0
  unfolding difference_at
  difference_elsewhere address ha ht other =
      ap (λ x. bit_xor x (leaf_of part 1 root1 address)) (leaves_equal part target root0 root1 (follows target message root0 root1) address ha ht other)
      ∙ xor_self (leaf_of part 1 root1 address)

  pub difference_at_target : difference_at part root0 root1 target % 2 ≡ 1
  unfolding difference_at
  difference_at_target =
      let apart = leaves_differ part target root0 root1 (follows target message root0 root1) in
      xor-parity (leaf_of part 0 root0 target) (leaf_of part 1 root1 target) ∙ omega arith
