-- Laws over both servers' leaves, from those over the difference vector.
use Rattle.std.specs.Prelude.{◌≤◌, ◌⊎◌, ◌≡◌, ◌≢◌, ℕ, ◌<◌, ◌^◌, List, [], ◌∷◌, length, All, AllPairs, slice_index, bit_xor, refl}
use Rattle.std.proofs.Common.{get_or, arith, zero, suc, ◌∙◌, ap, sym, subst, inl, inr}
use Rattle.std.specs.Int.Bits.{xor_self}
use Rattle.std.proofs.lemmas.Bool.{cases_lt}
use Rattle.std.proofs.lemmas.List.{get_or_past}
use Rattle.std.proofs.lemmas.List.Elements.{All-nil, All-cons, All-head, All-tail}
use Rattle.std.proofs.lemmas.Nat.{xor_lt}
use Rattle.express_words.specs.declared.audit.ProofShare.{ProofShare}
use Rattle.express_words.specs.Ranges.{IsProofShare}
use Rattle.audit_rules.specs.Ranges.{IsSums}
use Rattle.audit_rules.proofs.Words.{word_in_range}
use Rattle.audit_rules.specs.Audit.{whole_sums, whole_proof, zero_share, one_share, difference, PassesAt, ServersAccept}
use Rattle.audit_rules.proofs.Whole.{whole_is, servers_pass}
use Rattle.audit_rules.proofs.InRange.{sums-in_range, whole-in_range, zero-in_range, one-in_range}
use Rattle.audit_rules.specs.BadWrites.{HasTwo, IsBadChallenge}
use Rattle.audit_rules.proofs.Soundness.{caught_two}
use Rattle.audit_rules.proofs.AloneLaws.{alone_passes}
use Rattle.dpf_rules.specs.Expansion.{challenge_r, challenge_s}
use Rattle.audit_rules.specs.Challenges.{challenge_rs, challenge_ss, sums_under}
use Rattle.audit_rules.proofs.ChallengeLemmas.{rs-in_range, ss-in_range, length-challenge_rs, length-challenge_ss, r_at, s_at}

-- both servers' sums are those of the difference of their leaves
pub whole_under : (ckey addresses v w : List ℕ) → All (λ n. n < 2 ^ 128) v → All (λ n. n < 2 ^ 128) w → length v ≡ length w →
    whole_sums (sums_under ckey addresses v) (sums_under ckey addresses w) ≡ sums_under ckey addresses (difference v w)
whole_under ckey addresses v w hv hw h = whole_is v w (challenge_rs ckey addresses) (challenge_ss ckey addresses) hv hw (rs-in_range ckey addresses) (ss-in_range ckey addresses) h

pub length-difference : (v w : List ℕ) → length v ≡ length w → length (difference v w) ≡ length v
length-difference [] w h = refl
length-difference (x ∷ v) [] h = cc
length-difference (x ∷ v) (y ∷ w) h = ap suc (length-difference v w (omega arith))

pub difference-in_range : (v w : List ℕ) → All (λ n. n < 2 ^ 128) v → All (λ n. n < 2 ^ 128) w → All (λ n. n < 2 ^ 128) (difference v w)
difference-in_range [] w hv hw = All-nil (λ n. n < 2 ^ 128)
difference-in_range (x ∷ v) [] hv hw = All-nil (λ n. n < 2 ^ 128)
difference-in_range (x ∷ v) (y ∷ w) hv hw =
    All-cons (λ n. n < 2 ^ 128) (bit_xor x y) (difference v w)
    (xor_lt 128 x y (All-head (λ n. n < 2 ^ 128) x v hv) (All-head (λ n. n < 2 ^ 128) y w hw))
    (difference-in_range v w (All-tail (λ n. n < 2 ^ 128) x v hv) (All-tail (λ n. n < 2 ^ 128) y w hw))

pub difference_index : (v w : List ℕ) (i : ℕ) → length v ≡ length w → slice_index (difference v w) i ≡ bit_xor (slice_index v i) (slice_index w i)
difference_index [] [] i h = refl
difference_index [] (y ∷ w) i h = cc
difference_index (x ∷ v) [] i h = cc
difference_index (x ∷ v) (y ∷ w) zero h = refl
difference_index (x ∷ v) (y ∷ w) (suc i) h = difference_index v w i (omega arith)

sums_under-in_range : (ckey addresses w : List ℕ) → All (λ n. n < 2 ^ 128) w → IsSums (sums_under ckey addresses w)
sums_under-in_range ckey addresses w h = sums-in_range w (challenge_rs ckey addresses) (challenge_ss ckey addresses) h (rs-in_range ckey addresses) (ss-in_range ckey addresses)

-- what both servers accept is what passes for the difference of their leaves
pub accept_passes : (ckey addresses v w : List ℕ) (share0 share1 : ProofShare) (sigma : ℕ) → All (λ n. n < 2 ^ 128) v → All (λ n. n < 2 ^ 128) w → length v ≡ length w →
    IsProofShare share0 → IsProofShare share1 → sigma < 2 ^ 128 →
    (ServersAccept (sums_under ckey addresses v) (sums_under ckey addresses w) share0 share1 sigma → PassesAt (sums_under ckey addresses (difference v w)) (whole_proof share0 share1) sigma)
    × (PassesAt (sums_under ckey addresses (difference v w)) (whole_proof share0 share1) sigma → ServersAccept (sums_under ckey addresses v) (sums_under ckey addresses w) share0 share1 sigma)
accept_passes ckey addresses v w share0 share1 sigma hv hw size p0 p1 hs =
    let sums0 = sums_under ckey addresses v in
    let sums1 = sums_under ckey addresses w in
    subst (λ t. (ServersAccept sums0 sums1 share0 share1 sigma → PassesAt t (whole_proof share0 share1) sigma) × (PassesAt t (whole_proof share0 share1) sigma → ServersAccept sums0 sums1 share0 share1 sigma))
    (whole_under ckey addresses v w hv hw size)
    (servers_pass sums0 sums1 share0 share1 sigma (sums_under-in_range ckey addresses v hv) (sums_under-in_range ckey addresses w hw) p0 p1 hs)

-- leaves that are equal at every address but one differ at that place alone
pub alone : (v w addresses : List ℕ) (p : ℕ) → length v ≡ length addresses → length w ≡ length addresses → p < length addresses → AllPairs (λ a b. a ≢ b) addresses →
    ((i : ℕ) → i < length addresses → slice_index addresses i ≢ slice_index addresses p → slice_index v i ≡ slice_index w i) →
    (i : ℕ) → i ≢ p → slice_index (difference v w) i ≡ 0
alone v w addresses p lv lw inside distinct equal i apart =
    let size : length v ≡ length w = lv ∙ sym lw in
    let both : slice_index v i ≡ slice_index w i =
    elim (cases_lt i (length addresses)) [
      | inl l ↦
          equal i l
          (elim (cases_lt i p) [
            | inl before ↦ distinct i p 0 before inside
            | inr after ↦ λ e. let later : p < i = omega arith in distinct p i 0 later l (sym e)
          ])
      | inr past ↦ get_or_past v i 0 (omega arith) ∙ sym (get_or_past w i 0 (omega arith))
    ] in
    difference_index v w i size ∙ ap (λ n. bit_xor n (slice_index w i)) both ∙ xor_self (slice_index w i)

-- the soundness law over both servers' leaves
pub few_points : (ckey places v w : List ℕ) (share0 share1 : ProofShare) (points : List ℕ) → All (λ n. n < 2 ^ 128) v → All (λ n. n < 2 ^ 128) w → length v ≡ length places → length w ≡ length places →
    IsProofShare share0 → IsProofShare share1 → All (λ n. n < 2 ^ 128) points → AllPairs (λ p q. p ≢ q) points → All (ServersAccept (sums_under ckey places v) (sums_under ckey places w) share0 share1) points →
    HasTwo (difference v w) → IsBadChallenge (difference v w) (challenge_rs ckey places) (challenge_ss ckey places) ⊎ (length points ≤ 5)
few_points ckey places v w share0 share1 points in_v in_w lv lw in_0 in_1 in_points distinct accepted two =
    let size : length v ≡ length w = lv ∙ sym lw in
    let whole : length (difference v w) ≡ length places = length-difference v w size ∙ lv in
    let passes : All (PassesAt (sums_under ckey places (difference v w)) (whole_proof share0 share1)) points =
    λ k d h. (accept_passes ckey places v w share0 share1 (get_or points k d) in_v in_w size in_0 in_1 (in_points k d h)).0 (accepted k d h) in
    caught_two (difference v w) (challenge_rs ckey places) (challenge_ss ckey places) (whole_proof share0 share1) points
    (difference-in_range v w in_v in_w) (rs-in_range ckey places) (ss-in_range ckey places) (whole-in_range share0 share1 in_0 in_1) in_points
    two (length-challenge_rs ckey places ∙ sym whole) (length-challenge_ss ckey places ∙ sym whole) distinct passes

-- honest writes over both servers' leaves
pub honest_accepted : (ckey places v w words : List ℕ) (p sigma : ℕ) → All (λ n. n < 2 ^ 128) v → All (λ n. n < 2 ^ 128) w → All (λ n. n < 2 ^ 128) words → sigma < 2 ^ 128 →
    length v ≡ length places → length w ≡ length places → p < length places → AllPairs (λ a b. a ≢ b) places →
    ((i : ℕ) → i < length places → slice_index places i ≢ slice_index places p → slice_index v i ≡ slice_index w i) →
    ServersAccept (sums_under ckey places v) (sums_under ckey places w) (zero_share words)
    (one_share (bit_xor (slice_index v p) (slice_index w p)) (challenge_r ckey (slice_index places p)) (challenge_s ckey (slice_index places p)) words) sigma
honest_accepted ckey places v w words p sigma in_v in_w in_words hs lv lw inside distinct equal =
    let in_r = rs-in_range ckey places in
    let in_s = ss-in_range ckey places in
    let in_d = difference-in_range v w in_v in_w in
    let size : length v ≡ length w = lv ∙ sym lw in
    let whole : length (difference v w) ≡ length places = length-difference v w size ∙ lv in
    let m = slice_index (difference v w) p in
    let r = slice_index (challenge_rs ckey places) p in
    let s = slice_index (challenge_ss ckey places) p in
    let one_is : one_share m r s words ≡ one_share (bit_xor (slice_index v p) (slice_index w p)) (challenge_r ckey (slice_index places p)) (challenge_s ckey (slice_index places p)) words =
    ap (λ m. one_share m r s words) (difference_index v w p size)
    ∙ ap (λ r. one_share (bit_xor (slice_index v p) (slice_index w p)) r s words) (r_at ckey places p inside)
    ∙ ap (λ s. one_share (bit_xor (slice_index v p) (slice_index w p)) (challenge_r ckey (slice_index places p)) s words) (s_at ckey places p inside) in
    let passes : PassesAt (sums_under ckey places (difference v w)) (whole_proof (zero_share words) (one_share m r s words)) sigma =
    alone_passes (difference v w) (challenge_rs ckey places) (challenge_ss ckey places) p sigma words in_d in_r in_s in_words hs
    (omega arith) (length-challenge_rs ckey places ∙ sym whole) (length-challenge_ss ckey places ∙ sym whole)
    (alone v w places p lv lw inside distinct equal) in
    let in_one = one-in_range m r s words (word_in_range (difference v w) in_d p) (word_in_range (challenge_rs ckey places) in_r p) (word_in_range (challenge_ss ckey places) in_s p) in_words in
    subst (λ share. ServersAccept (sums_under ckey places v) (sums_under ckey places w) (zero_share words) share sigma) one_is
    ((accept_passes ckey places v w (zero_share words) (one_share m r s words) sigma in_v in_w size (zero-in_range words in_words) in_one hs).1 passes)
