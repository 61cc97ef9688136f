-- What a client's write is made of are words and bytes, so the frames that hold it have a spelling.
use Rattle.std.proofs.Common.{◌≡◌, ℕ, zero, suc, ◌+◌, ◌-◌, ◌≤◌, ◌<◌, ◌^◌, false, true, Bool, cond, nat_eq, List, length, drop, All, Some, refl, sym, ap, subst, ◌∙◌, arith, lit<, lit≤, length-drop}
use Rattle.std.specs.List.{range_with_len}
use Rattle.std.proofs.lemmas.List.Elements.{All-map}
use Rattle.std.proofs.lemmas.List.FromFn.{length-map-range_with_len}
use Rattle.express_words.specs.Limits.{IsWidth, IsPart}
use Rattle.express_words.specs.Ranges.{IsProofShare, IsOpenings, IsClosing}
use Rattle.dpf_rules.specs.Bytes.{AreBytes}
use Rattle.dpf_rules.specs.Expansion.{stream_byte, stream_bytes, draw32, choice, challenge_r, challenge_s}
use Rattle.dpf_rules.specs.Walk.{last_of, word_of, side_at, state_at, leaf_of}
use Rattle.dpf_rules.specs.Evaluation.{difference_at, leaves}
use Rattle.dpf_rules.specs.Keys.{path_word}
use Rattle.express_words.proofs.Bytes.{length-xor_bytes}
use Rattle.dpf_rules.proofs.RangeLemmas.{stream_word_lt, word_lt, right_lt, step_lt, with_bit_lt}
use Rattle.dpf_rules.proofs.KeysLemmas.{follows, path_word_lt}
use Rattle.dpf_rules.proofs.WriteLemmas.{length-last}
use Rattle.std.proofs.lemmas.Nat.{xor_lt}
use Rattle.audit_rules.specs.Audit.{zero_share, one_share}
use Rattle.audit_rules.specs.Challenges.{challenge_rs, challenge_ss}
use Rattle.audit_rules.specs.Ranges.{IsSums}
use Rattle.audit_rules.proofs.InRange.{zero-in_range, one-in_range, sums-in_range}
use Rattle.audit_rules.specs.Values.{Write, opens, sums_at}
use Rattle.audit_rules.proofs.ValueLemmas.{opening-in_range, opened-in_range, closing-in_range}
use Rattle.audit_rules.proofs.ChallengeLemmas.{all_map, rs-in_range, ss-in_range}
use Rattle.mailbox_rules.specs.Requests as request
use Rattle.mailbox_rules.specs.Requests.{Audits}
use Rattle.step_rules.specs.Client.{Client}
use Rattle.step_rules.specs.ClientAsks.{root, words, public_part, difference, share_for}
use Rattle.run_rules.specs.Letters.{client_seed, leader_seed}
use Rattle.run_rules.specs.Book.{Book, request_of, client_at, leaders_draw, helpers_draw, place}
use Rattle.run_rules.specs.Values.{root_at, part_at, ckey_at, write_at, share_at, sigma_at, opened_at, closing_at, counted_at}
use Rattle.run_rules.specs.Follows.{Sound}

-- ---- draws

pub length-draw : (key : List ℕ) (stream from n : ℕ) → length (stream_bytes key stream from n) ≡ n
unfolding stream_bytes
length-draw key stream from n = length-map-range_with_len (stream_byte key stream) from n

byte_lt : (key : List ℕ) (stream n : ℕ) → stream_byte key stream n < 256
unfolding stream_byte
byte_lt key stream n = omega arith

pub draw_bytes : (seed : List ℕ) (i : ℕ) → AreBytes (draw32 seed i)
unfolding stream_bytes
draw_bytes seed i = All-map (λ n. n < 256) (stream_byte seed i) (range_with_len 0 32) (λ k d h. byte_lt seed i _)

pub leaders_draw_length : (b : Book) (i : ℕ) → length (leaders_draw b i) ≡ 32
leaders_draw_length b i = length-draw _ _ 0 32

pub helpers_draw_length : (b : Book) (i : ℕ) → length (helpers_draw b i) ≡ 32
helpers_draw_length b i = length-draw _ _ 0 32

pub ckey_length : (b : Book) (c s : ℕ) → length (ckey_at b c s) ≡ 32
unfolding ckey_at
ckey_length b c s =
    let one = leaders_draw_length b (place b c s _) in
    let two = helpers_draw_length b (place b c s _) in
    length-xor_bytes _ _ (one ∙ sym two) ∙ one

-- ---- a client's public part and words

pub root_small : (k : Client) (server : ℕ) → root k server < 2 ^ 128
root_small k server = stream_word_lt k.seed k.serial _

-- its words have their size, whatever the message holds
part_word_small : (k : Client) (target : ℕ) (message : List ℕ) (i : ℕ) → i < 128
    → word_of (public_part k target message) i < 2 ^ 128
unfolding public_part path_word
part_word_small k target message i low =
    rw ((follows target message (root k 0) (root k 1)).words i low) (path_word_lt target (root k 0) (root k 1) i)

pub state_small : (k : Client) (target : ℕ) (message : List ℕ) (server root address i : ℕ) → i ≤ 128 → server < 2
    → root < 2 ^ 128 → state_at (public_part k target message) server root address i < 2 ^ 128
unfolding state_at
state_small k target message server root address zero low h r = with_bit_lt root server r h
state_small k target message server root address (suc i) low h r =
    step_lt _ _ (side_at address i) _ (part_word_small k target message i (omega (arith, low))) (right_lt _ i)

pub part_length : (k : Client) (target : ℕ) (message : List ℕ) → 1 ≤ length message
    → length (public_part k target message) ≡ 2064 + length message
unfolding public_part last_of
part_length k target message h =
    let rest : length (drop 2064 (public_part k target message)) ≡ length message = length-last target message (root k 0) (root k 1) in
    let dropped = length-drop 2064 (public_part k target message) in
    omega (arith, rest, dropped, h)

pub words_small : (k : Client) → All (λ n. n < 2 ^ 128) (words k)
words_small k = All-map (λ n. n < 2 ^ 128) (choice k.seed k.serial) (range_with_len 0 16) (λ i d h. stream_word_lt k.seed k.serial _)

difference_small : (k : Client) (target : ℕ) (message : List ℕ) → difference k target message < 2 ^ 128
unfolding difference difference_at
difference_small k target message =
    xor_lt 128 _ _
    (state_small k target message 0 (root k 0) target 128 (lit≤ tt) (lit< tt) (root_small k 0))
    (state_small k target message 1 (root k 1) target 128 (lit≤ tt) (lit< tt) (root_small k 1))

pub sums_small : (k : Client) (target : ℕ) (message : List ℕ) (server : ℕ) (w : Write) (addresses : List ℕ)
    → w.part ≡ public_part k target message → server < 2 → w.root < 2 ^ 128 → IsSums (sums_at server w addresses)
unfolding sums_at
sums_small k target message server w addresses e h r =
    sums-in_range (leaves w.part server w.root addresses) (challenge_rs w.ckey addresses) (challenge_ss w.ckey addresses)
    (all_map (leaf_of w.part server w.root) (2 ^ 128) (λ q. rw e (state_small k target message server w.root q 128 (lit≤ tt) h r)) addresses)
    (rs-in_range w.ckey addresses) (ss-in_range w.ckey addresses)

pub share_is : (k : Client) (target : ℕ) (message ckey : List ℕ) (server : ℕ) → IsProofShare (share_for k target message ckey server)
unfolding share_for
share_is k target message ckey server = by_server (nat_eq server 0)
  where
    by_server : (t : Bool) → IsProofShare (cond t (zero_share (words k)) (one_share (difference k target message) (challenge_r ckey target) (challenge_s ckey target) (words k)))
    by_server true = zero-in_range (words k) (words_small k)
    by_server false = one-in_range (difference k target message) (challenge_r ckey target) (challenge_s ckey target) (words k)
        (difference_small k target message) (stream_word_lt ckey _ _) (stream_word_lt ckey _ _) (words_small k)

-- the point of a proof
pub sigma_is_small : (b : Book) (c s : ℕ) → sigma_at b c s < 2 ^ 128
unfolding sigma_at word_of
sigma_is_small b c s = word_lt (leaders_draw b (place b c s Audits)) 0 (draw_bytes (leader_seed b.seed) _)

-- ---- a write of the history

-- what is known of a client's write
pub record WriteIs (b : Book) (c s : ℕ) : Type 0 where
  pub honest : b.foreign c ≡ false
  pub target : ℕ
  pub message : List ℕ
  pub is : request_of b c s ≡ Some (request.Write target message)
  pub size : length message ≡ b.settings.width
  pub width : IsWidth b.settings.width

pub write_is : (b : Book) (c s target : ℕ) (message : List ℕ) → Sound b → b.foreign c ≡ false
    → request_of b c s ≡ Some (request.Write target message) → WriteIs b c s
write_is b c s target message sound hon q =
    record { honest = hon; target = target; message = message; is = q; size = (sound.requests c s (request.Write target message) q).1; width = sound.limits.0 }

module _ (b : Book) (c s : ℕ) (h : WriteIs b c s) where
  pub root_of : (server : ℕ) → root_at b server c s < 2 ^ 128
  root_of server = rw (h.honest) (stream_word_lt (client_seed b.seed c) s _)

  pub part_of : part_at b c s ≡ public_part (client_at b c s) h.target h.message
  part_of = rw (h.honest, h.is) refl

  pub part_of_length : length (part_at b c s) ≡ 2064 + b.settings.width
  part_of_length =
      let size = h.size in
      let width = h.width.0 in
      ap length part_of ∙ part_length (client_at b c s) h.target h.message (omega (arith, size, width)) ∙ ap (λ n. 2064 + n) size

  pub part_of_is : IsPart (part_at b c s)
  part_of_is =
      let size = part_of_length in
      let rest : b.settings.width ≡ length (part_at b c s) - 2064 = omega (arith, size) in
      (omega (arith, size), subst IsWidth rest h.width)

  pub share_of : (server : ℕ) → share_at b server c s ≡ share_for (client_at b c s) h.target h.message (ckey_at b c s) server
  unfolding share_at
  share_of server = rw (h.honest, h.is) refl

  pub share_of_is : (server : ℕ) → IsProofShare (share_at b server c s)
  share_of_is server = subst IsProofShare (sym (share_of server)) (share_is (client_at b c s) h.target h.message (ckey_at b c s) server)

  pub sigma_small : sigma_at b c s < 2 ^ 128
  sigma_small = sigma_is_small b c s

  pub opened_is : (server : ℕ) → server < 2 → IsOpenings (opened_at b server c s)
  unfolding opened_at opens write_at
  opened_is server low =
      opening-in_range _ (share_at b server c s) (sigma_at b c s)
      (sums_small (client_at b c s) h.target h.message server (write_at b server c s) (counted_at b c s) part_of low (root_of server)) (share_of_is server) sigma_small

  pub closing_is : (server : ℕ) → IsClosing (closing_at b server c s)
  unfolding closing_at
  closing_is server =
      closing-in_range server (share_at b server c s) (sigma_at b c s) _ (share_of_is server) sigma_small
      (opened-in_range (opened_at b 0 c s) (opened_at b 1 c s) (opened_is 0 (lit< tt)) (opened_is 1 (lit< tt)))
