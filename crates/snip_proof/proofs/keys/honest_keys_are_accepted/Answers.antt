use Rattle.std.proofs.Common.{◌≡◌, ◌≢◌, ◌<◌, ℕ, length, subst, sym, ap, ◌∙◌, lit<}
use Rattle.std.specs.Prelude.{slice_index, bit_xor}
use Rattle.std.proofs.lemmas.Grind.{get_or_default_zero}
use Rattle.std.proofs.lemmas.List.{length-map, get_or-map}
use Rattle.dpf_rules.specs.Expansion.{challenge_r, challenge_s}
use Rattle.dpf_rules.specs.Walk.{leaf_of}
use Rattle.dpf_rules.specs.Evaluation.{difference_at, leaves}
use Rattle.audit_rules.specs.Audit.{ServersAccept, zero_share, one_share}
use Rattle.audit_rules.proofs.Words.{word_in_range}
use Rattle.audit_rules.specs.Challenges.{sums_under}
use Rattle.audit_rules.proofs.LeafLemmas.{leaves-in_range}
use Rattle.snip_proof.proofs.Writes.{honest_accepted}
use Rattle.snip_proof.proofs.keys.honest_keys_are_accepted.Goals as goal

pub returns : goal.returns
unfolding difference_at
returns c =
    let part = c.args.keys.part.now in
    let places = c.args.addresses.now in
    let key = c.args.ckey.now in
    let words = c.args.choices.now in
    let target = c.args.target in
    let leaf0 = leaf_of part 0 c.args.keys.root0 in
    let leaf1 = leaf_of part 1 c.args.keys.root1 in
    let v = leaves part 0 c.args.keys.root0 places in
    let w = leaves part 1 c.args.keys.root1 places in
    let registered = c.requires.registered in
    let p = registered.0 in
    let inside : p < length places = registered.1 in
    let there : slice_index places p ≡ target = sym (get_or_default_zero places p target inside) ∙ registered.2 in
    let equal : (i : ℕ) → i < length places → slice_index places i ≢ slice_index places p → slice_index v i ≡ slice_index w i =
    λ i h n.
    get_or-map leaf0 places i 0 0 h
    ∙ c.requires.equal (slice_index places i) (word_in_range places c.read_words-2.ensures.in_range i) (λ e. n (e ∙ sym there))
    ∙ sym (get_or-map leaf1 places i 0 0 h) in
    let m_is : bit_xor (slice_index v p) (slice_index w p) ≡ bit_xor (leaf0 target) (leaf1 target) =
    ap (λ n. bit_xor n (slice_index w p)) (get_or-map leaf0 places p 0 0 inside ∙ ap leaf0 there) ∙ ap (bit_xor (leaf0 target)) (get_or-map leaf1 places p 0 0 inside ∙ ap leaf1 there) in
    let share_is : one_share (bit_xor (slice_index v p) (slice_index w p)) (challenge_r key (slice_index places p)) (challenge_s key (slice_index places p)) words
    ≡ one_share (bit_xor (leaf0 target) (leaf1 target)) (challenge_r key target) (challenge_s key target) words =
    ap (λ m. one_share m (challenge_r key (slice_index places p)) (challenge_s key (slice_index places p)) words) m_is
    ∙ ap (λ q. one_share (bit_xor (leaf0 target) (leaf1 target)) (challenge_r key q) (challenge_s key q) words) there in
    record {
      accepted =
          subst (λ share. ServersAccept (sums_under key places v) (sums_under key places w) (zero_share words) share c.args.sigma) share_is
          (honest_accepted key places v w words p c.args.sigma
          (leaves-in_range part 0 c.args.keys.root0 places c.read_bytes.ensures.in_range (lit< tt) (c.read_words.ensures.in_range 0 0 (lit< tt)))
          (leaves-in_range part 1 c.args.keys.root1 places c.read_bytes.ensures.in_range (lit< tt) (c.read_words.ensures.in_range 1 0 (lit< tt)))
          c.read_words-3.ensures.in_range c.ranges.sigma.fits (length-map places leaf0) (length-map places leaf1) inside c.requires.distinct equal);
    }
