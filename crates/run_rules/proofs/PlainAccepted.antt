-- A client's write to a box that stood when it began is accepted.
use Rattle.std.specs.Prelude.{slice_index, bit_xor}
use Rattle.std.proofs.Common.{◌≡◌, ◌≢◌, ◌<◌, ◌^◌, ℕ, true, List, [], length, All, AllPairs, get_or, take, Some, arith, sym, ap, subst, ◌∙◌}
use Rattle.std.specs.List.{Contains}
use Rattle.std.proofs.lemmas.Grind.{get_or_default_zero}
use Rattle.std.proofs.lemmas.List.{length-map, get_or-map}
use Rattle.std.proofs.lemmas.Option.{slice_get-get_or}
use Rattle.dpf_rules.specs.Expansion.{challenge_r, challenge_s}
use Rattle.dpf_rules.specs.Walk.{leaf_of}
use Rattle.dpf_rules.specs.Keys.{honest_keys}
use Rattle.dpf_rules.specs.Evaluation.{difference_at, leaves}
use Rattle.dpf_rules.proofs.KeysLemmas.{follows}
use Rattle.dpf_rules.proofs.PointLemmas.{leaves_equal}
use Rattle.mailbox_rules.specs.Tables.{Mailbox, addresses, no_writes}
use Rattle.mailbox_rules.specs.Laws.{Registering}
use Rattle.mailbox_rules.proofs.Folds.{addresses_differ}
use Rattle.mailbox_rules.proofs.Owners.{boxes_are_registered}
use Rattle.token_rules.proofs.Lists.{get_taken}
use Rattle.run_rules.specs.Book.{Book, table_at}
use Rattle.run_rules.specs.Plain.{IsHistory}
use Rattle.run_rules.proofs.PlainWrites.{addresses_small}
use Rattle.audit_rules.specs.Audit.{ServersAccept, zero_share, one_share}
use Rattle.audit_rules.proofs.Words.{word_in_range}
use Rattle.audit_rules.specs.Challenges.{sums_under}
use Rattle.snip_proof.proofs.Writes.{honest_accepted}

-- honest keys of a target among distinct addresses are accepted at every point
pub honest_audit : (target : ℕ) (message : List ℕ) (root0 root1 : ℕ) (places key words : List ℕ) (sigma : ℕ)
    → target < 2 ^ 128 → sigma < 2 ^ 128 → All (λ n. n < 2 ^ 128) places → All (λ n. n < 2 ^ 128) words
    → All (λ n. n < 2 ^ 128) (leaves (honest_keys target message root0 root1) 0 root0 places)
    → All (λ n. n < 2 ^ 128) (leaves (honest_keys target message root0 root1) 1 root1 places)
    → AllPairs (λ p q. p ≢ q) places → Contains places target
    → let part = honest_keys target message root0 root1 in
    ServersAccept (sums_under key places (leaves part 0 root0 places)) (sums_under key places (leaves part 1 root1 places))
    (zero_share words) (one_share (difference_at part root0 root1 target) (challenge_r key target) (challenge_s key target) words) sigma
unfolding difference_at
honest_audit target message root0 root1 places key words sigma ht hs in_places in_words in_v in_w distinct registered =
    let part = honest_keys target message root0 root1 in
    let leaf0 = leaf_of part 0 root0 in
    let leaf1 = leaf_of part 1 root1 in
    let v = leaves part 0 root0 places in
    let w = leaves part 1 root1 places in
    let p = registered.0 in
    let inside : p < length places = registered.1 in
    let there : slice_index places p ≡ target = sym (get_or_default_zero places p target inside) ∙ registered.2 in
    let equal : (i : ℕ) → i < length places → slice_index places i ≢ slice_index places p → slice_index v i ≡ slice_index w i =
    λ i h n.
    get_or-map leaf0 places i 0 0 h
    ∙ leaves_equal part target root0 root1 (follows target message root0 root1) (slice_index places i)
    (word_in_range places in_places i) ht (λ e. n (e ∙ sym there))
    ∙ sym (get_or-map leaf1 places i 0 0 h) in
    let m_is : bit_xor (slice_index v p) (slice_index w p) ≡ bit_xor (leaf0 target) (leaf1 target) =
    ap (λ n. bit_xor n (slice_index w p)) (get_or-map leaf0 places p 0 0 inside ∙ ap leaf0 there)
    ∙ ap (bit_xor (leaf0 target)) (get_or-map leaf1 places p 0 0 inside ∙ ap leaf1 there) in
    let share_is : one_share (bit_xor (slice_index v p) (slice_index w p)) (challenge_r key (slice_index places p)) (challenge_s key (slice_index places p)) words
    ≡ one_share (bit_xor (leaf0 target) (leaf1 target)) (challenge_r key target) (challenge_s key target) words =
    ap (λ m. one_share m (challenge_r key (slice_index places p)) (challenge_s key (slice_index places p)) words) m_is
    ∙ ap (λ q. one_share (bit_xor (leaf0 target) (leaf1 target)) (challenge_r key q) (challenge_s key q) words) there in
    subst (λ share. ServersAccept (sums_under key places v) (sums_under key places w) (zero_share words) share sigma) share_is
    (honest_accepted key places v w words p sigma in_v in_w in_words hs (length-map places leaf0) (length-map places leaf1) inside distinct equal)

-- ---- the addresses of a history's boxes

module _ (b : Book) (k : IsHistory b) (i : ℕ) where
  abbrev places : List ℕ
  places = addresses (table_at b i).boxes

  pub places_small : All (λ n. n < 2 ^ 128) places
  places_small j d h =
      let at = slice_get-get_or (table_at b i).boxes j (blank d) (omega (arith, h, length-map (table_at b i).boxes (λ box. box.address))) in
      let box = get_or (table_at b i).boxes j (blank d) in
      let by : Registering (take i b.entries) box =
      boxes_are_registered b.settings.boxes b.settings.width no_writes (take i b.entries) j box at in
      subst (λ n. n < 2 ^ 128) (sym (get_or-map (λ (box : Mailbox). box.address) (table_at b i).boxes j (blank d) d (omega (arith, h, length-map (table_at b i).boxes (λ box. box.address)))))
      (addresses_small b k by.place _ box.address (get_taken b.entries i by.place _ by.is).1)
    where
      blank : ℕ → Mailbox
      blank d = record { address = d; lane = 0; serial = 0; bytes = []; live = true }

  pub places_differ : AllPairs (λ p q. p ≢ q) places
  places_differ m n d before inside same =
      let first = slice_get-get_or places m d (omega (arith, before, inside)) in
      let second = slice_get-get_or places n d inside in
      let one : m ≡ n = addresses_differ b.settings.boxes b.settings.width no_writes (take i b.entries) m n _ first (second ∙ ap (λ a. Some a) (sym same)) in
      absurd (omega (arith, one, before))
