-- A client's write to a box that stood when it began is accepted.
use Rattle.std.proofs.Common.{◌≡◌, ◌≢◌, ◌<◌, ◌^◌, ℕ, true, List, All, AllPairs, refl, sym, subst, lit<, lit≤}
use Rattle.std.specs.List.{Contains}
use Rattle.express_words.specs.declared.audit.ProofShare.{ProofShare}
use Rattle.dpf_rules.specs.Walk.{leaf_of}
use Rattle.dpf_rules.specs.Evaluation.{leaves}
use Rattle.audit_rules.specs.Audit.{ServersAccept}
use Rattle.audit_rules.specs.Challenges.{sums_under}
use Rattle.audit_rules.specs.Values.{opens, sums_at}
use Rattle.audit_rules.proofs.ChallengeLemmas.{all_map}
use Rattle.audit_rules.proofs.ValueLemmas.{accepted_tells}
use Rattle.mailbox_rules.specs.Requests.{Begins}
use Rattle.step_rules.specs.Client.{Client}
use Rattle.step_rules.specs.ClientAsks.{difference, public_part, root, share_for, words}
use Rattle.run_rules.specs.Book.{Book, client_at, place}
use Rattle.run_rules.specs.Values.{accepted_at, ckey_at, closing_at, counted_at, opened_at, part_at, root_at, share_at, sigma_at, write_at}
use Rattle.run_rules.specs.Plain.{RegisteredAreAccepted}
use Rattle.run_rules.proofs.PlainAccepted.{honest_audit, places_differ, places_small}
use Rattle.run_rules.proofs.WriteLeaderRanges.{WriteIs, part_of, root_small, share_of, sigma_small, state_small, words_small}

-- the closings accept where both servers accept
closings_accept : (b : Book) (c s : ℕ)
    → ServersAccept (sums_under (ckey_at b c s) (counted_at b c s) (leaves (part_at b c s) 0 (root_at b 0 c s) (counted_at b c s)))
    (sums_under (ckey_at b c s) (counted_at b c s) (leaves (part_at b c s) 1 (root_at b 1 c s) (counted_at b c s)))
    (share_at b 0 c s) (share_at b 1 c s) (sigma_at b c s)
    → accepted_at b c s ≡ true
unfolding closing_at opened_at opens sums_at write_at ServersAccept
closings_accept b c s h = (accepted_tells (closing_at b 0 c s) (closing_at b 1 c s)).1 h

-- a client's own write is accepted
client_accepted : (k : Client) (target : ℕ) (message places key : List ℕ) (sigma : ℕ) → target < 2 ^ 128 → sigma < 2 ^ 128
    → All (λ n. n < 2 ^ 128) places → ((server : ℕ) → server < 2 → All (λ n. n < 2 ^ 128) (leaves (public_part k target message) server (root k server) places))
    → AllPairs (λ p q. p ≢ q) places → Contains places target
    → ServersAccept (sums_under key places (leaves (public_part k target message) 0 (root k 0) places))
    (sums_under key places (leaves (public_part k target message) 1 (root k 1) places))
    (share_for k target message key 0) (share_for k target message key 1) sigma
unfolding share_for difference public_part
client_accepted k target message places key sigma ht hs in_places in_leaves differ there =
    honest_audit target message (root k 0) (root k 1) places key (words k) sigma ht hs in_places (words_small k)
    (in_leaves 0 (lit< tt)) (in_leaves 1 (lit< tt)) differ there

pub registered_accepted : RegisteredAreAccepted
registered_accepted b h c s target message asked there =
    let w : WriteIs b c s = record {
      honest = h.asked c s _ asked;
      target = target;
      message = message;
      is = asked;
      size = (h.sound.requests c s _ asked).1;
      width = h.sound.limits.0;
    } in
    let k = client_at b c s in
    let key = ckey_at b c s in
    let places = counted_at b c s in
    let sigma = sigma_at b c s in
    let root_is : (server : ℕ) → root_at b server c s ≡ root k server = λ server. rw w.honest refl in
    let P : List ℕ → ℕ → ℕ → ProofShare → ProofShare → Type 0 = λ part r0 r1 s0 s1.
    ServersAccept (sums_under key places (leaves part 0 r0 places)) (sums_under key places (leaves part 1 r1 places)) s0 s1 sigma in
    let own : P (public_part k target message) (root k 0) (root k 1) (share_for k target message key 0) (share_for k target message key 1) =
    client_accepted k target message places key sigma (h.sound.requests c s _ asked).0 (sigma_small b c s w)
    (places_small b h (place b c s Begins))
    (λ server low. all_map (leaf_of (public_part k target message) server (root k server)) (2 ^ 128)
    (λ q. state_small k target message server (root k server) q 128 (lit≤ tt) low (root_small k server)) places)
    (places_differ b h (place b c s Begins)) there in
    let one = subst (λ part. P part (root k 0) (root k 1) (share_for k target message key 0) (share_for k target message key 1)) (sym (part_of b c s w)) own in
    let two = subst (λ r. P (part_at b c s) r (root k 1) (share_for k target message key 0) (share_for k target message key 1)) (sym (root_is 0)) one in
    let three = subst (λ r. P (part_at b c s) (root_at b 0 c s) r (share_for k target message key 0) (share_for k target message key 1)) (sym (root_is 1)) two in
    let four = subst (λ s0. P (part_at b c s) (root_at b 0 c s) (root_at b 1 c s) s0 (share_for k target message key 1)) (sym (share_of b c s w 0)) three in
    let five = subst (λ s1. P (part_at b c s) (root_at b 0 c s) (root_at b 1 c s) (share_at b 0 c s) s1) (sym (share_of b c s w 1)) four in
    closings_accept b c s five
