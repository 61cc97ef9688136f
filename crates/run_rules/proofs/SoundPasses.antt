-- A write is accepted where its proof passes for its own vector and words, and a vector with two places is caught.
use Rattle.std.proofs.Common.{◌≡◌, ◌≢◌, ◌<◌, ◌≤◌, ◌^◌, ◌⊎◌, ◌↔◌, ℕ, true, All, AllPairs, List, length, slice_index, sym, ap, ◌∙◌, subst, inl, inr, lit<, lit≤}
use Rattle.std.proofs.lemmas.Bool.{cases_eq}
use Rattle.std.proofs.lemmas.List.{length-map}
use Rattle.std.proofs.lemmas.Nat.{xor_lt}
use Rattle.express_words.specs.Ranges.{IsProofShare}
use Rattle.dpf_rules.specs.Walk.{leaf_of}
use Rattle.dpf_rules.specs.Evaluation.{difference_at, leaves}
use Rattle.dpf_rules.proofs.RangeLemmas.{state_lt}
use Rattle.audit_rules.specs.Audit.{PassesAt, ServersAccept, bad_r, bad_s, whole_proof}
use Rattle.audit_rules.specs.BadWrites.{HasTwo, IsBadChallenge, first_place, last_place}
use Rattle.audit_rules.specs.Challenges.{challenge_rs, challenge_ss, sums_under}
use Rattle.audit_rules.proofs.InRange.{sums-in_range, whole-in_range}
use Rattle.audit_rules.specs.Values.{opens, sums_at}
use Rattle.audit_rules.proofs.Whole.{servers_pass, whole_is}
use Rattle.audit_rules.proofs.ChallengeLemmas.{all_map, length-challenge_rs, length-challenge_ss, rs-in_range, ss-in_range}
use Rattle.audit_rules.proofs.LeafLemmas.{difference-leaves, leaves-in_range}
use Rattle.audit_rules.proofs.Soundness.{caught_two}
use Rattle.audit_rules.proofs.ValueLemmas.{accepted_tells}
use Rattle.run_rules.specs.Book.{Book, client_at}
use Rattle.run_rules.specs.Values.{accepted_at, ckey_at, closing_at, counted_at, opened_at, part_at, root_at, share_at, sigma_at, write_at}
use Rattle.run_rules.specs.Follows.{Sound}
use Rattle.run_rules.specs.Soundness.{IsCaught, PassesThere, vector_at}
use Rattle.run_rules.proofs.WriteLeaderRanges.{WriteIs, part_of, root_of, share_of_is, sigma_is_small, state_small}

-- a write's leaves and proof words are numbers of the field
pub record IsOfWords (b : Book) (c s : ℕ) : Type 0 where
  pub zero : All (λ n. n < 2 ^ 128) (leaves (part_at b c s) 0 (root_at b 0 c s) (counted_at b c s))
  pub one : All (λ n. n < 2 ^ 128) (leaves (part_at b c s) 1 (root_at b 1 c s) (counted_at b c s))
  pub share : (server : ℕ) → IsProofShare (share_at b server c s)

-- so are those of a foreign lane
pub brought_words : (b : Book) (c s : ℕ) → Sound b → b.foreign c ≡ true → IsOfWords b c s
unfolding share_at
brought_words b c s sound foreign =
    let leaves_are : (server : ℕ) → server < 2 → All (λ n. n < 2 ^ 128) (leaves (part_at b c s) server (root_at b server c s) (counted_at b c s)) =
    λ server low. rw foreign (leaves-in_range (b.brought.part c s) server (b.brought.root server c s) (counted_at b c s) (sound.brought.bytes c s) low (sound.brought.roots server c s)) in
    record { zero = leaves_are 0 (lit< tt); one = leaves_are 1 (lit< tt); share = λ server. rw foreign (sound.brought.shares server c s) }

-- and those of a client
pub own_words : (b : Book) (c s : ℕ) → WriteIs b c s → IsOfWords b c s
own_words b c s w =
    let k = client_at b c s in
    let leaves_are : (server : ℕ) → server < 2 → All (λ n. n < 2 ^ 128) (leaves (part_at b c s) server (root_at b server c s) (counted_at b c s)) =
    λ server low. subst (λ part. All (λ n. n < 2 ^ 128) (leaves part server (root_at b server c s) (counted_at b c s))) (sym (part_of b c s w))
    (all_map (leaf_of _ server (root_at b server c s)) (2 ^ 128)
    (λ q. state_small k w.target w.message server (root_at b server c s) q 128 (lit≤ tt) low (root_of b c s w server)) (counted_at b c s)) in
    record { zero = leaves_are 0 (lit< tt); one = leaves_are 1 (lit< tt); share = share_of_is b c s w }

-- ---- a write is accepted exactly where its proof passes

servers_accept : (b : Book) (c s : ℕ) → (accepted_at b c s ≡ true)
    ↔ ServersAccept (sums_under (ckey_at b c s) (counted_at b c s) (leaves (part_at b c s) 0 (root_at b 0 c s) (counted_at b c s)))
    (sums_under (ckey_at b c s) (counted_at b c s) (leaves (part_at b c s) 1 (root_at b 1 c s) (counted_at b c s)))
    (share_at b 0 c s) (share_at b 1 c s) (sigma_at b c s)
unfolding closing_at opened_at opens sums_at write_at ServersAccept
servers_accept b c s = accepted_tells (closing_at b 0 c s) (closing_at b 1 c s)

pub accepted_passes : (b : Book) (c s : ℕ) → IsOfWords b c s → (accepted_at b c s ≡ true) ↔ PassesThere b c s (sigma_at b c s)
accepted_passes b c s words =
    let ckey = ckey_at b c s in
    let places = counted_at b c s in
    let part = part_at b c s in
    let rs = challenge_rs ckey places in
    let ss = challenge_ss ckey places in
    let v = leaves part 0 (root_at b 0 c s) places in
    let w = leaves part 1 (root_at b 1 c s) places in
    let rs_are = rs-in_range ckey places in
    let ss_are = ss-in_range ckey places in
    let size : length v ≡ length w = length-map places (leaf_of part 0 (root_at b 0 c s)) ∙ sym (length-map places (leaf_of part 1 (root_at b 1 c s))) in
    let whole = whole_is v w rs ss words.zero words.one rs_are ss_are size ∙ ap (sums_under ckey places) (difference-leaves part (root_at b 0 c s) (root_at b 1 c s) places) in
    let servers = servers_accept b c s in
    let passes = servers_pass (sums_under ckey places v) (sums_under ckey places w) (share_at b 0 c s) (share_at b 1 c s) (sigma_at b c s)
    (sums-in_range v rs ss words.zero rs_are ss_are) (sums-in_range w rs ss words.one rs_are ss_are)
    (words.share 0) (words.share 1) (sigma_is_small b c s) in
    subst (λ t. (accepted_at b c s ≡ true) ↔ PassesAt t (whole_proof (share_at b 0 c s) (share_at b 1 c s)) (sigma_at b c s)) whole
    (λ h. passes.0 (servers.0 h), λ h. servers.1 (passes.1 h))

-- ---- a bad write is caught

vector_small : (b : Book) (c s : ℕ) → Sound b → b.foreign c ≡ true → All (λ n. n < 2 ^ 128) (vector_at b c s)
unfolding difference_at
vector_small b c s sound foreign =
    all_map (difference_at (part_at b c s) (root_at b 0 c s) (root_at b 1 c s)) (2 ^ 128)
    (λ q. xor_lt 128 (leaf_of (part_at b c s) 0 (root_at b 0 c s) q) (leaf_of (part_at b c s) 1 (root_at b 1 c s) q) (small 0 q (lit< tt)) (small 1 q (lit< tt)))
    (counted_at b c s)
  where
    small : (server q : ℕ) → server < 2 → leaf_of (part_at b c s) server (root_at b server c s) q < 2 ^ 128
    small server q low = rw foreign (state_lt (b.brought.part c s) server (b.brought.root server c s) q 128 (sound.brought.bytes c s) low (sound.brought.roots server c s))

module _ (b : Book) (c s : ℕ) (sound : Sound b) (foreign : b.foreign c ≡ true) (two : HasTwo (vector_at b c s)) where
  abbrev w : List ℕ
  w = vector_at b c s

  abbrev rs : List ℕ
  rs = challenge_rs (ckey_at b c s) (counted_at b c s)

  abbrev ss : List ℕ
  ss = challenge_ss (ckey_at b c s) (counted_at b c s)

  bad_or_few : (points : List ℕ) → AllPairs (λ p q. p ≢ q) points → All (λ p. p < 2 ^ 128) points
      → All (λ p. PassesThere b c s p) points → IsBadChallenge w rs ss ⊎ (length points ≤ 5)
  bad_or_few points apart small passes =
      let words = brought_words b c s sound foreign in
      let size = length-map (counted_at b c s) (difference_at (part_at b c s) (root_at b 0 c s) (root_at b 1 c s)) in
      caught_two w rs ss (whole_proof (share_at b 0 c s) (share_at b 1 c s)) points (vector_small b c s sound foreign)
      (rs-in_range (ckey_at b c s) (counted_at b c s)) (ss-in_range (ckey_at b c s) (counted_at b c s))
      (whole-in_range _ _ (words.share 0) (words.share 1)) small two
      (length-challenge_rs (ckey_at b c s) (counted_at b c s) ∙ sym size) (length-challenge_ss (ckey_at b c s) (counted_at b c s) ∙ sym size)
      apart passes

  pub two_are_caught : IsCaught b c s
  two_are_caught = elim (cases_eq (slice_index rs (first_place w)) (bad_r w rs ss (first_place w))) [
    | inl bad ↦ inl (inl bad)
    | inr good ↦ elim (cases_eq (slice_index ss (last_place w)) (bad_s w ss (first_place w) (last_place w))) [
      | inl bad ↦ inl (inr bad)
      | inr well ↦ inr (λ points apart small passes. elim (bad_or_few points apart small passes) [
        | inl bad ↦ absurd (elim bad [ inl r ↦ good r | inr s ↦ well s ])
        | inr few ↦ few
      ])
    ]
  ]
