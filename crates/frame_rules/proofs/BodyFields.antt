-- The fields of each body.
use Rattle.std.proofs.Common.{◌≡◌, ℕ, zero, suc, ◌-◌, ◌*◌, ◌/◌, ◌%◌, ◌^◌, ◌<◌, ◌≤◌, List, [], ◌∷◌, ◌++◌, length, take, drop, refl, sym, ap, ◌∙◌, subst, arith}
use Rattle.std.specs.Int.{w32, w128, to_be_bytes, from_be_bytes}
use Rattle.std.specs.List.{flat_map, All, AllByRecursion}
use Rattle.express_words.specs.Limits.{IsWidth}
use Rattle.express_words.specs.declared.audit.ProofShare.{ProofShare}
use Rattle.express_words.specs.declared.audit.Openings.{Openings}
use Rattle.express_words.specs.declared.audit.Closing.{Closing}
use Rattle.express_words.specs.Limits.{IsPart}
use Rattle.express_words.specs.Ranges.{IsWord, IsOpenings, IsClosing, IsProofShare}
use Rattle.frame_rules.specs.Spelling.{word, address, openings, closing, proof_share, IsKey}
use Rattle.frame_rules.specs.Forms.{word_in}
use Rattle.frame_rules.specs.Bodies.{openings_in, closing_in, words_of, proof_share_of}
use Rattle.std.proofs.lemmas.List.{take_at, drop_at, take-append-drop, length-append, length-take, length-drop, nil_from_length}
use Rattle.std.proofs.lemmas.List.Concat.{flat_map-cons}
use Rattle.std.proofs.lemmas.List.Elements.{All-head, All-tail, All-nil, All-cons}
use Rattle.frame_rules.proofs.Digits.{IsBytes}
use Rattle.frame_rules.proofs.Fields.{IsBytes-take, IsBytes-drop, IsField, Is, both, pair, raw_field, u32_field, address_field, word_field}

pub words2 : IsField (λ (p : ℕ × ℕ). word p.0 ++ word p.1) (λ bytes. (word_in (take 16 bytes), word_in (drop 16 bytes))) (Is 32) (λ p. IsWord p.0 × IsWord p.1)
words2 = pair word word_in 16 IsWord word word_in 16 IsWord word_field word_field

pub words3 : IsField (λ (p : ℕ × (ℕ × ℕ)). word p.0 ++ (word p.1.0 ++ word p.1.1)) (λ bytes. (word_in (take 16 bytes), (word_in (take 16 (drop 16 bytes)), word_in (drop 16 (drop 16 bytes))))) (Is 48) (λ p. IsWord p.0 × (IsWord p.1.0 × IsWord p.1.1))
words3 = pair word word_in 16 IsWord (λ (p : ℕ × ℕ). word p.0 ++ word p.1) (λ bytes. (word_in (take 16 bytes), word_in (drop 16 bytes))) 32 (λ p. IsWord p.0 × IsWord p.1) word_field words2

pub words4 : IsField (λ (p : ℕ × (ℕ × (ℕ × ℕ))). word p.0 ++ (word p.1.0 ++ (word p.1.1.0 ++ word p.1.1.1)))
    (λ bytes. (word_in (take 16 bytes), (word_in (take 16 (drop 16 bytes)), (word_in (take 16 (drop 16 (drop 16 bytes))), word_in (drop 16 (drop 16 (drop 16 bytes))))))) (Is 64) (λ p. IsWord p.0 × (IsWord p.1.0 × (IsWord p.1.1.0 × IsWord p.1.1.1)))
words4 = pair word word_in 16 IsWord (λ (p : ℕ × (ℕ × ℕ)). word p.0 ++ (word p.1.0 ++ word p.1.1)) (λ bytes. (word_in (take 16 bytes), (word_in (take 16 (drop 16 bytes)), word_in (drop 16 (drop 16 bytes))))) 48 (λ p. IsWord p.0 × (IsWord p.1.0 × IsWord p.1.1)) word_field words3

pub openings_field : IsField openings openings_in (Is 32) IsOpenings
openings_field = record {
  len = λ x h. words2.len (x.d, x.e) (h.d, h.e);
  back = λ bytes h len. words2.back bytes h len;
  fits = λ bytes h len. let fit = words2.fits bytes h len in record { d = fit.0; e = fit.1 };
  again = λ x h.
      ap (λ (p : ℕ × ℕ). let o : Openings = record { d = p.0; e = p.1 } in o) (words2.again (x.d, x.e) (h.d, h.e));
}

pub closing_field : IsField closing closing_in (Is 32) IsClosing
closing_field = record {
  len = λ x h. words2.len (x.o, x.tau) (h.o, h.tau);
  back = λ bytes h len. words2.back bytes h len;
  fits = λ bytes h len. let fit = words2.fits bytes h len in record { o = fit.0; tau = fit.1 };
  again = λ x h.
      ap (λ (p : ℕ × ℕ). let c : Closing = record { o = p.0; tau = p.1 } in c)
      (words2.again (x.o, x.tau) (h.o, h.tau));
}

pub word_len : (n : ℕ) → length (word n) ≡ 16
unfolding word
word_len n = refl

pub address_len : (n : ℕ) → length (address n) ≡ 16
unfolding address
address_len n = refl

-- so many words
abbrev AreWords : ℕ → List ℕ → Type 0
AreWords n xs = (length xs ≡ n) × AllByRecursion IsWord xs

words_len : (n : ℕ) (xs : List ℕ) → length xs ≡ n → length (flat_map word xs) ≡ n * 16
words_len n [] h = omega arith
words_len n (x ∷ xs) h = ap length (flat_map-cons word x xs) ∙ omega (arith, length-append (word x) (flat_map word xs), word_len x, words_len (n - 1) xs (omega arith))

words_back : (n : ℕ) (bytes : List ℕ) → IsBytes bytes → length bytes ≡ n * 16 → flat_map word (words_of n bytes) ≡ bytes
words_back zero bytes h len = sym (nil_from_length bytes (omega arith))
words_back (suc n) bytes h len =
    let long : 16 ≤ length bytes = omega arith in
    let front : length (take 16 bytes) ≡ 16 = omega (arith, length-take 16 bytes) in
    let rest : length (drop 16 bytes) ≡ n * 16 = omega (arith, length-drop 16 bytes) in
    flat_map-cons word (word_in (take 16 bytes)) (words_of n (drop 16 bytes))
    ∙ ap (λ (t : List ℕ). t ++ flat_map word (words_of n (drop 16 bytes))) (word_field.back (take 16 bytes) (IsBytes-take 16 bytes h) front)
    ∙ ap (λ (t : List ℕ). take 16 bytes ++ t) (words_back n (drop 16 bytes) (IsBytes-drop 16 bytes h) rest) ∙ take-append-drop 16 bytes

words_fit : (n : ℕ) (bytes : List ℕ) → IsBytes bytes → length bytes ≡ n * 16 → AreWords n (words_of n bytes)
words_fit zero bytes h len = (refl, tt)
words_fit (suc n) bytes h len =
    let long : 16 ≤ length bytes = omega arith in
    let front : length (take 16 bytes) ≡ 16 = omega (arith, length-take 16 bytes) in
    let rest : length (drop 16 bytes) ≡ n * 16 = omega (arith, length-drop 16 bytes) in
    let others = words_fit n (drop 16 bytes) (IsBytes-drop 16 bytes h) rest in
    (ap suc others.0, (word_field.fits (take 16 bytes) (IsBytes-take 16 bytes h) front, others.1))

words_again : (n : ℕ) (xs : List ℕ) → AreWords n xs → words_of n (flat_map word xs) ≡ xs
words_again zero [] h = refl
words_again zero (x ∷ xs) h = absurd (omega arith)
words_again (suc n) [] h = absurd (omega arith)
words_again (suc n) (x ∷ xs) h =
    let one : length (word x) ≡ 16 = word_field.len x h.1.0 in
    ap (words_of (suc n)) (flat_map-cons word x xs) ∙ rw (take_at (word x) (flat_map word xs) 16 one, drop_at (word x) (flat_map word xs) 16 one, word_field.again x h.1.0, words_again n xs (omega (arith, h.0), h.1.1)) refl

five_field : IsField (λ xs. flat_map word xs) (λ bytes. words_of 5 bytes) (Is 80) (AreWords 5)
five_field = record {
  len = λ x h. words_len 5 x h.0;
  back = λ bytes h len. words_back 5 bytes h len;
  fits = λ bytes h len. words_fit 5 bytes h len;
  again = λ x h. words_again 5 x h;
}

-- h, and the triple
h_and_triple : IsField (λ (p : List ℕ × (ℕ × (ℕ × ℕ))). flat_map word p.0 ++ (word p.1.0 ++ (word p.1.1.0 ++ word p.1.1.1)))
    (λ bytes. (words_of 5 (take 80 bytes), (word_in (take 16 (drop 80 bytes)), (word_in (take 16 (drop 16 (drop 80 bytes))), word_in (drop 16 (drop 16 (drop 80 bytes))))))) (Is 128)
    (λ p. AreWords 5 p.0 × (IsWord p.1.0 × (IsWord p.1.1.0 × IsWord p.1.1.1)))
h_and_triple = pair (λ xs. flat_map word xs) (λ bytes. words_of 5 bytes) 80 (AreWords 5) (λ (p : ℕ × (ℕ × ℕ)). word p.0 ++ (word p.1.0 ++ word p.1.1)) (λ bytes. (word_in (take 16 bytes), (word_in (take 16 (drop 16 bytes)), word_in (drop 16 (drop 16 bytes))))) 48 (λ p. IsWord p.0 × (IsWord p.1.0 × IsWord p.1.1)) five_field words3

abbrev Proof9 : Type 0
Proof9 = List ℕ × (ℕ × (ℕ × ℕ))

abbrev write9 : Proof9 → List ℕ
write9 p = flat_map word p.0 ++ (word p.1.0 ++ (word p.1.1.0 ++ word p.1.1.1))

abbrev read9 : List ℕ → Proof9
read9 bytes = (words_of 5 (take 80 bytes), (word_in (take 16 (drop 80 bytes)), (word_in (take 16 (drop 16 (drop 80 bytes))), word_in (drop 16 (drop 16 (drop 80 bytes))))))

abbrev fits9 : Proof9 → Type 0
fits9 p = AreWords 5 p.0 × (IsWord p.1.0 × (IsWord p.1.1.0 × IsWord p.1.1.1))

from_v : IsField (λ (p : ℕ × Proof9). word p.0 ++ write9 p.1) (λ bytes. (word_in (take 16 bytes), read9 (drop 16 bytes))) (Is 144) (λ p. IsWord p.0 × fits9 p.1)
from_v = pair word word_in 16 IsWord write9 read9 128 fits9 word_field h_and_triple

from_u : IsField (λ (p : ℕ × (ℕ × Proof9)). word p.0 ++ (word p.1.0 ++ write9 p.1.1)) (λ bytes. (word_in (take 16 bytes), (word_in (take 16 (drop 16 bytes)), read9 (drop 16 (drop 16 bytes))))) (Is 160) (λ p. IsWord p.0 × (IsWord p.1.0 × fits9 p.1.1))
from_u = pair word word_in 16 IsWord (λ (p : ℕ × Proof9). word p.0 ++ write9 p.1) (λ bytes. (word_in (take 16 bytes), read9 (drop 16 bytes))) 144 (λ p. IsWord p.0 × fits9 p.1) word_field from_v

abbrev as_share : ℕ × (ℕ × Proof9) → ProofShare
as_share p = record { u = p.0; v = p.1.0; h = p.1.1.0; a = p.1.1.1.0; b = p.1.1.1.1.0; c = p.1.1.1.1.1 }

-- all of them, place by place and one after another
each_of : (xs : List ℕ) → All IsWord xs → AllByRecursion IsWord xs
each_of [] h = tt
each_of (x ∷ xs) h = (All-head IsWord x xs h, each_of xs (All-tail IsWord x xs h))

all_of : (xs : List ℕ) → AllByRecursion IsWord xs → All IsWord xs
all_of [] h = All-nil IsWord
all_of (x ∷ xs) h = All-cons IsWord x xs h.0 (all_of xs h.1)

abbrev share9 : ProofShare → ℕ × (ℕ × Proof9)
share9 x = (x.u, (x.v, (x.h, (x.a, (x.b, x.c)))))

share_fits : (x : ProofShare) → IsProofShare x → IsWord x.u × (IsWord x.v × fits9 (x.h, (x.a, (x.b, x.c))))
share_fits x is = (is.u, (is.v, ((is.size, each_of x.h is.h), (is.a, (is.b, is.c)))))

pub proof_field : IsField proof_share proof_share_of (Is 160) IsProofShare
proof_field = record {
  len = λ x h. from_u.len (share9 x) (share_fits x h);
  back = λ bytes h len. from_u.back bytes h len;
  fits = λ bytes h len.
      let fit = from_u.fits bytes h len in
      record {
        u = fit.0;
        v = fit.1.0;
        h = all_of (proof_share_of bytes).h fit.1.1.0.1;
        size = fit.1.1.0.0;
        a = fit.1.1.1.0;
        b = fit.1.1.1.1.0;
        c = fit.1.1.1.1.1;
      };
  again = λ x h. ap as_share (from_u.again (share9 x) (share_fits x h));
}

-- a key behind an address, a word behind a box number, a key behind a count
pub address_key : IsField (λ (p : ℕ × List ℕ). address p.0 ++ p.1) (λ bytes. (from_be_bytes w128 (take 16 bytes), drop 16 bytes)) (Is 48) (λ p. IsWord p.0 × IsKey p.1)
address_key = pair address (from_be_bytes w128) 16 IsWord (λ bytes. bytes) (λ bytes. bytes) 32 IsKey address_field (raw_field (Is 32))

pub box_word : IsField (λ (p : ℕ × ℕ). to_be_bytes w32 p.0 ++ word p.1) (λ bytes. (from_be_bytes w32 (take 4 bytes), word_in (drop 4 bytes))) (Is 20) (λ p. (p.0 < 2 ^ 32) × IsWord p.1)
box_word = pair (to_be_bytes w32) (from_be_bytes w32) 4 (λ n. n < 2 ^ 32) word word_in 16 IsWord u32_field word_field

pub count_key : IsField (λ (p : ℕ × List ℕ). to_be_bytes w32 p.0 ++ p.1) (λ bytes. (from_be_bytes w32 (take 4 bytes), drop 4 bytes)) (Is 36) (λ p. (p.0 < 2 ^ 32) × IsKey p.1)
count_key = pair (to_be_bytes w32) (from_be_bytes w32) 4 (λ n. n < 2 ^ 32) (λ bytes. bytes) (λ bytes. bytes) 32 IsKey u32_field (raw_field (Is 32))

pub word_openings : IsField (λ (p : ℕ × Openings). word p.0 ++ openings p.1) (λ bytes. (word_in (take 16 bytes), openings_in (drop 16 bytes))) (Is 48) (λ p. IsWord p.0 × IsOpenings p.1)
word_openings = pair word word_in 16 IsWord openings openings_in 32 IsOpenings word_field openings_field

pub openings_closing : IsField (λ (p : Openings × Closing). openings p.0 ++ closing p.1) (λ bytes. (openings_in (take 32 bytes), closing_in (drop 32 bytes))) (Is 64) (λ p. IsOpenings p.0 × IsClosing p.1)
openings_closing = pair openings openings_in 32 IsOpenings closing closing_in 32 IsClosing openings_field closing_field

-- ---- parts whose length depends on a message's width

abbrev PartLength : ℕ → Type 0
PartLength n = (2064 ≤ n) × IsWidth (n - 2064)

abbrev pub WideLength : ℕ → ℕ → Type 0
WideLength base n = (base ≤ n) × IsWidth (n - base)

pub word_part : IsField (λ (p : ℕ × List ℕ). word p.0 ++ p.1) (λ bytes. (word_in (take 16 bytes), drop 16 bytes)) (WideLength 2080) (λ p. IsWord p.0 × IsPart p.1)
word_part =
    both word word_in 16 IsWord (λ bytes. bytes) (λ bytes. bytes) PartLength IsPart (WideLength 2080) word_field (raw_field PartLength)
    (λ k h. (omega arith, (omega arith, (omega arith, omega arith, omega arith)))) (λ k h. (omega arith, (omega arith, omega arith, omega arith)))

pub key_part : IsField (λ (p : List ℕ × List ℕ). p.0 ++ p.1) (λ bytes. (take 32 bytes, drop 32 bytes)) (WideLength 2096) (λ p. IsKey p.0 × IsPart p.1)
key_part =
    both (λ bytes. bytes) (λ bytes. bytes) 32 IsKey (λ bytes. bytes) (λ bytes. bytes) PartLength IsPart (WideLength 2096) (raw_field (Is 32)) (raw_field PartLength)
    (λ k h. (omega arith, (omega arith, (omega arith, omega arith, omega arith)))) (λ k h. (omega arith, (omega arith, omega arith, omega arith)))

-- two shares of one width
abbrev HalfLength : ℕ → Type 0
HalfLength n = IsWidth (n / 2) × (n % 2 ≡ 0)

pub halves : IsField (λ (p : List ℕ × List ℕ). p.0 ++ p.1) (λ bytes. (take (length bytes / 2) bytes, drop (length bytes / 2) bytes)) HalfLength (λ p. (length p.0 ≡ length p.1) × IsWidth (length p.0))
halves = record {
  len = λ p h.
      let whole : length (p.0 ++ p.1) ≡ 2 * length p.0 = omega (arith, length-append p.0 p.1, h.0) in
      subst HalfLength (sym whole) (let half : 2 * length p.0 / 2 ≡ length p.0 = omega arith in subst IsWidth (sym half) h.1, omega arith);
  back = λ bytes h len. take-append-drop (length bytes / 2) bytes;
  fits = λ bytes h len.
      let front : length (take (length bytes / 2) bytes) ≡ length bytes / 2 = omega (arith, length-take (length bytes / 2) bytes) in
      (omega (arith, len.1, front, length-drop (length bytes / 2) bytes), subst IsWidth (sym front) len.0);
  again = λ p h.
      let half : length (p.0 ++ p.1) / 2 ≡ length p.0 = omega (arith, length-append p.0 p.1, h.0) in
      ap (λ (k : ℕ). (take k (p.0 ++ p.1), drop k (p.0 ++ p.1))) half
      ∙ ap (λ (t : List ℕ). (t, drop (length p.0) (p.0 ++ p.1))) (take_at p.0 p.1 (length p.0) refl) ∙ ap (λ (t : List ℕ). (p.0, t)) (drop_at p.0 p.1 (length p.0) refl);
}

-- ---- lengths of several words

pub openings_len : (o : Openings) → length (openings o) ≡ 32
openings_len o = omega (arith, length-append (word o.d) (word o.e), word_len o.d, word_len o.e)

pub closing_len : (c : Closing) → length (closing c) ≡ 32
closing_len c = omega (arith, length-append (word c.o) (word c.tau), word_len c.o, word_len c.tau)

pub rejected_len : (a b c d : ℕ) → length (word a ++ (word b ++ (word c ++ word d))) ≡ 64
rejected_len a b c d = omega (
  arith,
  length-append (word a) (word b ++ (word c ++ word d)),
  length-append (word b) (word c ++ word d),
  length-append (word c) (word d),
  word_len a,
  word_len b,
  word_len c,
  word_len d,
)

pub audited_len : (o : Openings) (c : Closing) → length (openings o ++ closing c) ≡ 64
audited_len o c = omega (arith, length-append (openings o) (closing c), openings_len o, closing_len c)

pub proof_len : (p : ProofShare) → IsProofShare p → length (proof_share p) ≡ 160
proof_len p h = proof_field.len p h
