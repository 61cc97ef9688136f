-- Both servers' leaves under one public part are numbers of the field, their difference is the difference vector, and it
-- shows each box that changes.
use Rattle.std.specs.Prelude.{◌≡◌, ◌≢◌, ℕ, ◌^◌, ◌<◌, List, [], ◌∷◌, length, All, slice_index, bit_xor, refl}
use Rattle.std.proofs.Common.{ap, sym, ◌∙◌, arith}
use Rattle.std.specs.Int.Bits.{xor_zero_r}
use Rattle.std.proofs.lemmas.List.{get_or-map}
use Rattle.dpf_rules.specs.Bytes.{AreBytes}
use Rattle.dpf_rules.specs.Walk.{leaf_of, write_bytes}
use Rattle.dpf_rules.specs.Evaluation.{leaves, difference_at, difference_vector}
use Rattle.dpf_rules.proofs.RangeLemmas.{state_lt}
use Rattle.dpf_rules.proofs.PointLemmas.{xor_again}
use Rattle.dpf_rules.proofs.BoxLemmas.{write_alike}
use Rattle.audit_rules.specs.Audit.{difference}
use Rattle.audit_rules.specs.BadWrites.{HasTwo}
use Rattle.audit_rules.proofs.ChallengeLemmas.{all_map}

pub leaves-in_range : (part : List ℕ) (server root : ℕ) (addresses : List ℕ) → AreBytes part → server < 2 → root < 2 ^ 128 → All (λ n. n < 2 ^ 128) (leaves part server root addresses)
leaves-in_range part server root addresses h s r = all_map (leaf_of part server root) (2 ^ 128) (λ q. state_lt part server root q 128 h s r) addresses

pub difference-leaves : (part : List ℕ) (root0 root1 : ℕ) (addresses : List ℕ) →
    difference (leaves part 0 root0 addresses) (leaves part 1 root1 addresses) ≡ difference_vector part root0 root1 addresses
unfolding difference_at
difference-leaves part root0 root1 [] = refl
difference-leaves part root0 root1 (q ∷ addresses) = ap (λ w. bit_xor (leaf_of part 0 root0 q) (leaf_of part 1 root1 q) ∷ w) (difference-leaves part root0 root1 addresses)

-- the difference at a place
difference-at : (part : List ℕ) (root0 root1 : ℕ) (addresses : List ℕ) (k : ℕ) → k < length addresses →
    slice_index (difference_vector part root0 root1 addresses) k ≡ bit_xor (leaf_of part 0 root0 (slice_index addresses k)) (leaf_of part 1 root1 (slice_index addresses k))
unfolding difference_at
difference-at part root0 root1 addresses k h = get_or-map (difference_at part root0 root1) addresses k 0 0 h

-- leaves that differ at a place differ by a number that isn't zero
differs : (part : List ℕ) (root0 root1 : ℕ) (addresses : List ℕ) (k : ℕ) → k < length addresses →
    write_bytes part 0 root0 (slice_index addresses k) ≢ write_bytes part 1 root1 (slice_index addresses k) → slice_index (difference_vector part root0 root1 addresses) k ≢ 0
differs part root0 root1 addresses k h n e =
    let zero = leaf_of part 0 root0 (slice_index addresses k) in
    let one = leaf_of part 1 root1 (slice_index addresses k) in
    let none : bit_xor zero one ≡ 0 = sym (difference-at part root0 root1 addresses k h) ∙ e in
    let same : zero ≡ one = sym (xor_zero_r zero) ∙ ap (bit_xor zero) (sym none) ∙ xor_again zero one in
    n (write_alike part root0 root1 (slice_index addresses k) same)

pub changes_seen : (part : List ℕ) (root0 root1 : ℕ) (addresses : List ℕ) (i j : ℕ) → i < j → j < length addresses →
    write_bytes part 0 root0 (slice_index addresses i) ≢ write_bytes part 1 root1 (slice_index addresses i) →
    write_bytes part 0 root0 (slice_index addresses j) ≢ write_bytes part 1 root1 (slice_index addresses j) →
    HasTwo (difference_vector part root0 root1 addresses)
changes_seen part root0 root1 addresses i j h inside ni nj =
    (i, j, h, differs part root0 root1 addresses i (omega arith) ni, differs part root0 root1 addresses j inside nj)
