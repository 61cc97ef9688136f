-- Groups of neighbours in a list of rising addresses: those that share a prefix of a length,
-- and so one node of the tree.
use Rattle.std.specs.Prelude.{◌≡◌, ◌≢◌, ℕ, ◌+◌, ◌-◌, ◌%◌, ◌==◌, ◌<◌, ◌≤◌, nat_le, bit_xor, if◌then◌else◌}
use Rattle.std.specs.Prelude.{List, length, take, slice_index, slice_index_or, count_by}
use Rattle.dpf_rules.specs.Expansion.{child}
use Rattle.dpf_rules.specs.Keys.{raw_pair}
use Rattle.dpf_rules.specs.Walk.{word_of, right_of, side_at, step}
use Rattle.dpf_rules.specs.Evaluation.{prefix}
use Rattle.dpf_eval.specs.declared.levels.Correction.{Correction}

-- the level of each address from which on its prefix is another than that of the address before it
pub record IsSplit (addresses splits : List ℕ) : Type 0 where
  pub first : slice_index splits 0 ≡ 0
  pub joined : (k i : ℕ) → k + 1 < length addresses → i < slice_index splits (k + 1) → i ≤ 128
      → prefix i (slice_index addresses k) ≡ prefix i (slice_index addresses (k + 1))
  pub apart : (k i : ℕ) → k + 1 < length addresses → slice_index splits (k + 1) ≤ i → i ≤ 128
      → prefix i (slice_index addresses k) ≢ prefix i (slice_index addresses (k + 1))

-- how many groups the first n addresses make at a level
abbrev pub groups_of : List ℕ → ℕ → ℕ → ℕ
groups_of splits level n = count_by (λ s. nat_le s level) (take n splits)

-- the place of an entry's group among those of a level
abbrev pub group_at : List ℕ → ℕ → ℕ → ℕ
group_at splits level k = groups_of splits level (k + 1) - 1

-- neighbours that haven't parted at a level are in one state
abbrev pub AreJoined : ℕ → List ℕ → List ℕ → Type 0
AreJoined level splits states =
    (k : ℕ) → k + 1 < length splits → level < slice_index splits (k + 1)
    → slice_index states (k + 1) ≡ slice_index states k

-- neighbours that share the prefix of a level are in one state
abbrev pub AreGrouped : ℕ → List ℕ → List ℕ → Type 0
AreGrouped level addresses states =
    (k : ℕ) → k + 1 < length addresses
    → prefix level (slice_index addresses k) ≡ prefix level (slice_index addresses (k + 1))
    → slice_index states (k + 1) ≡ slice_index states k

-- at the place of each entry's group stand the raw children of its state
abbrev pub HaveChildren : ℕ → List ℕ → ℕ → List (ℕ × ℕ) → List ℕ → Type 0
HaveChildren level splits count pairs states =
    (k : ℕ) → k < count
    → slice_index_or pairs (group_at splits level k) (0, 0) ≡ raw_pair (slice_index states k)

-- the next state on a side, where a level adds `left` to left children and `right` to right ones
abbrev pub stepped : ℕ → ℕ → ℕ → ℕ → ℕ
stepped left right side state =
    if state % 2 == 1 then bit_xor (child state side) (if side == 0 then left else right)
    else child state side

-- each entry has gone to the child on the side of its address, by this correction of a level
abbrev pub AreStepped : Correction → ℕ → List ℕ → List ℕ → List ℕ → Type 0
AreStepped correction level addresses old new =
    (k : ℕ) → k < length addresses
    → let side = side_at (slice_index addresses k) level in
    slice_index new k ≡ stepped correction.left correction.right side (slice_index old k)

-- each entry has gone one level down its walk with a public part
abbrev pub HaveDescended : List ℕ → ℕ → List ℕ → List ℕ → List ℕ → Type 0
HaveDescended part level addresses old new =
    (k : ℕ) → k < length addresses
    → let side = side_at (slice_index addresses k) level in
    slice_index new k ≡ step (word_of part level) (right_of part level) side (slice_index old k)
