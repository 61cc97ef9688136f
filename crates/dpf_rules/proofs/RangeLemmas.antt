-- Slices of streams, words, states and keys are in range.
use Rattle.std.proofs.Common.{◌≡◌, ℕ, zero, suc, ◌+◌, ◌-◌, ◌*◌, ◌%◌, ◌^◌, ◌<◌, List, [], ◌∷◌, ◌++◌, take, drop, length, sym, ap, subst, ◌∙◌, arith, bit_xor, eqb, lit<}
use Rattle.std.specs.List.{range_with_len}
use Rattle.std.proofs.Math.Nat.{pow-suc}
use Rattle.std.proofs.lemmas.List.{length-append}
use Rattle.std.proofs.lemmas.List.FromFn.{length-map-range_with_len}
use Rattle.std.proofs.lemmas.List.Elements.{All-nil, All-cons, All-head, All-tail, All-append, All-map, All-drop}
use Rattle.std.proofs.lemmas.Nat.{xor_lt}
use Rattle.std.proofs.lemmas.Nat.Bits.{bit_at-lt}
use Rattle.express_words.specs.Bytes.{xor_bytes}
use Rattle.express_words.proofs.Bytes.{length-xor_bytes}
use Rattle.dpf_rules.specs.Bytes.{AreBytes, value_in, bytes_of, words_bytes, bits_number}
use Rattle.dpf_rules.specs.Expansion.{with_bit, child, stream_byte, stream_bytes, stream_number, node_key, block}
use Rattle.dpf_rules.specs.Walk.{word_of, right_of, side_at, correction, corrected, step, state_at}
use Rattle.dpf_rules.specs.Keys.{Expansions, pair_at, on_side, level_word, level_right, keys, raw_pair, honest}
use Rattle.dpf_rules.specs.Ideal.{HasStates, IsExpansions, own_at, ideal_keys, given_at}
use Rattle.dpf_rules.proofs.ByteLemmas.{length-bytes_of}
use Rattle.dpf_rules.proofs.KeysLemmas.{stream_number_lt, child_lt, cond_lt, level_word_lt, level_right_lt, length-words_bytes, length-block, HasStates-honest}
use Rattle.dpf_rules.proofs.IdealLemmas.{own_first}

-- ---- streams

pub stream_word_lt : (key : List ℕ) (stream a : ℕ) → stream_number key stream a < 2 ^ 128
unfolding stream_bytes
stream_word_lt key stream a = stream_number_lt key stream a 16

byte_lt : (key : List ℕ) (stream n : ℕ) → stream_byte key stream n < 256
unfolding stream_byte
byte_lt key stream n = omega arith

pub block-bytes : (n state : ℕ) → AreBytes (block n state)
unfolding block stream_bytes
block-bytes n state = All-map (λ b. b < 256) (stream_byte (node_key state) 1) (range_with_len 0 n) (λ i d h. byte_lt (node_key state) 1 _)

-- ---- bytes

pub xor-bytes : (xs ys : List ℕ) → AreBytes xs → AreBytes ys → AreBytes (xor_bytes xs ys)
unfolding xor_bytes
xor-bytes [] ys h k = k
xor-bytes (x ∷ xs) [] h k = h
xor-bytes (x ∷ xs) (y ∷ ys) h k =
    All-cons (λ b. b < 256) (bit_xor x y) (xor_bytes xs ys)
    (xor_lt 8 x y (All-head (λ b. b < 256) x xs h) (All-head (λ b. b < 256) y ys k))
    (xor-bytes xs ys (All-tail (λ b. b < 256) x xs h) (All-tail (λ b. b < 256) y ys k))

of-bytes : (n x : ℕ) → AreBytes (bytes_of n x)
unfolding bytes_of
of-bytes zero x = All-nil (λ b. b < 256)
of-bytes (suc n) x = All-cons (λ b. b < 256) (x % 256) (bytes_of n _) (omega arith) (of-bytes n _)

words-bytes : (f : ℕ → ℕ) (n : ℕ) → AreBytes (words_bytes f n)
unfolding words_bytes
words-bytes f zero = All-nil (λ b. b < 256)
words-bytes f (suc n) = All-append (λ b. b < 256) (words_bytes f n) (bytes_of 16 (f n)) (words-bytes f n) (of-bytes 16 (f n))

-- ---- keys

pub keys-bytes : (target : ℕ) (message : List ℕ) (e0 e1 : Expansions) → AreBytes e0.block → AreBytes e1.block → AreBytes message → AreBytes (keys target message e0 e1)
unfolding keys
keys-bytes target message e0 e1 h0 h1 hm =
    let words = words_bytes (λ i. level_word (pair_at e0 i) (pair_at e1 i) (side_at target i)) 128 in
    let rights = bytes_of 16 (bits_number (λ i. level_right (pair_at e0 i) (pair_at e1 i) (side_at target i)) 128) in
    let last = xor_bytes (xor_bytes e0.block e1.block) message in
    All-append (λ b. b < 256) (words ++ rights) last
    (All-append (λ b. b < 256) words rights (words-bytes _ 128) (of-bytes 16 _))
    (xor-bytes (xor_bytes e0.block e1.block) message (xor-bytes e0.block e1.block h0 h1) hm)

pub part-bytes : (target : ℕ) (message : List ℕ) (viewer root : ℕ) (other : Expansions) → AreBytes other.block → AreBytes message → AreBytes (ideal_keys target message viewer root other)
unfolding honest
part-bytes target message viewer root other ho hm =
    subst AreBytes (sym (own_first target message viewer root other))
    (keys-bytes target message (honest (own_at target viewer root other) (length message)) other (block-bytes (length message) (own_at target viewer root other 128)) ho hm)

length-keys : (target : ℕ) (message : List ℕ) (e0 e1 : Expansions) → length e0.block ≡ length message → length e1.block ≡ length message → length (keys target message e0 e1) ≡ 2064 + length message
unfolding keys
length-keys target message e0 e1 l0 l1 =
    let words = words_bytes (λ i. level_word (pair_at e0 i) (pair_at e1 i) (side_at target i)) 128 in
    let number = bits_number (λ i. level_right (pair_at e0 i) (pair_at e1 i) (side_at target i)) 128 in
    let rights = bytes_of 16 number in
    let blocks = xor_bytes e0.block e1.block in
    let both = length-xor_bytes e0.block e1.block (l0 ∙ sym l1) in
    let last = length-xor_bytes blocks message (both ∙ l0) in
    omega (
      arith,
      length-append (words ++ rights) (xor_bytes blocks message),
      length-append words rights,
      length-words_bytes (λ i. level_word (pair_at e0 i) (pair_at e1 i) (side_at target i)) 128,
      length-bytes_of 16 number,
      both,
      last,
      l0,
    )

pub length-part : (target : ℕ) (message : List ℕ) (viewer root : ℕ) (other : Expansions) → length other.block ≡ length message → length (ideal_keys target message viewer root other) ≡ 2064 + length message
unfolding honest
length-part target message viewer root other size =
    ap length (own_first target message viewer root other)
    ∙ length-keys target message (honest (own_at target viewer root other) (length message)) other (length-block (length message) (own_at target viewer root other 128)) size

pub honest-form : (width : ℕ) (states : ℕ → ℕ) → IsExpansions width (honest states width)
unfolding honest
honest-form width states = record {
  levels = length-map-range_with_len (λ i. raw_pair (states i)) 0 128;
  states = HasStates-honest states width;
  size = length-block width (states 128);
  bytes = block-bytes width (states 128);
}

-- ---- words and states

value_lt : (ds : List ℕ) (n : ℕ) → AreBytes ds → value_in 256 (take n ds) < 256 ^ n
unfolding value_in
value_lt ds zero h = lit< tt
value_lt [] (suc n) h = rw (pow-suc 256 n) (let p = value_lt [] n h in omega arith)
value_lt (d ∷ ds) (suc n) h =
    let low : d < 256 = All-head (λ d. d < 256) d ds h in
    rw (pow-suc 256 n) (omega (arith, value_lt ds n (All-tail (λ d. d < 256) d ds h)))

pub word_lt : (part : List ℕ) (i : ℕ) → AreBytes part → word_of part i < 2 ^ 128
unfolding word_of
word_lt part i h =
    let sixteen : 16 * i + 16 - 16 * i ≡ 16 = omega arith in
    rw sixteen (value_lt (drop (16 * i) part) 16 (All-drop (λ b. b < 256) (16 * i) part h))

pub right_lt : (part : List ℕ) (i : ℕ) → right_of part i < 2
unfolding right_of
right_lt part i = bit_at-lt _ i

pub with_bit_lt : (x bit : ℕ) → x < 2 ^ 128 → bit < 2 → with_bit x bit < 2 ^ 128
with_bit_lt x bit h k = omega arith

pub corrected_lt : (word right side raw state : ℕ) → word < 2 ^ 128 → right < 2 → raw < 2 ^ 128 → corrected word right side raw state < 2 ^ 128
corrected_lt word right side raw state h k l =
    let fix : correction word right side < 2 ^ 128 = cond_lt (eqb side 0) word (with_bit word right) (2 ^ 128) h (with_bit_lt word right h k) in
    cond_lt (eqb (state % 2) 1) (bit_xor raw (correction word right side)) raw (2 ^ 128) (xor_lt 128 raw (correction word right side) l fix) l

pub step_lt : (word right side state : ℕ) → word < 2 ^ 128 → right < 2 → step word right side state < 2 ^ 128
unfolding step
step_lt word right side state h k = corrected_lt word right side (child state side) state h k (child_lt state side)

pub state_lt : (part : List ℕ) (server root address i : ℕ) → AreBytes part → server < 2 → root < 2 ^ 128 → state_at part server root address i < 2 ^ 128
unfolding state_at
state_lt part server root address zero h s r = with_bit_lt root server r s
state_lt part server root address (suc i) h s r =
    step_lt (word_of part i) (right_of part i) (side_at address i) (state_at part server root address i) (word_lt part i h) (right_lt part i)

pub given_lt : (part : List ℕ) (target server root : ℕ) (e : Expansions) (i : ℕ) → AreBytes part → HasStates e → server < 2 → root < 2 ^ 128 → given_at part target server root e i < 2 ^ 128
unfolding given_at
given_lt part target server root e zero h s b r = with_bit_lt root server r b
given_lt part target server root e (suc i) h s b r =
    corrected_lt (word_of part i) (right_of part i) (side_at target i) (on_side (pair_at e i) (side_at target i)) (given_at part target server root e i)
    (word_lt part i h) (right_lt part i) (cond_lt (eqb (side_at target i) 0) _ _ (2 ^ 128) (s i).0 (s i).1)

pub own_lt : (target viewer root : ℕ) (other : Expansions) (i : ℕ) → HasStates other → viewer < 2 → root < 2 ^ 128 → own_at target viewer root other i < 2 ^ 128
unfolding own_at
own_lt target viewer root other zero s b r = with_bit_lt root viewer r b
own_lt target viewer root other (suc i) s b r =
    let side = side_at target i in
    let own = own_at target viewer root other i in
    let raw = raw_pair own in
    let pair = pair_at other i in
    step_lt (level_word raw pair side) (level_right raw pair side) side own
    (level_word_lt raw pair side (child_lt own 0) (child_lt own 1) (s i).0 (s i).1) (level_right_lt raw pair side)
