-- What is said of a letter's first words.
use Rattle.std.proofs.Common.{◌≡◌, ◌≢◌, ℕ, ◌<◌, ◌≤◌, ◌^◌, Bool, true, false, cond, not, ◌&&◌, ◌||◌, ◌==◌, nat_lt, nat_le, List, [], ◌∷◌, ◌++◌, length, get_or, map, take, drop, refl, ap, sym, subst, ◌∙◌, arith, append-nil, length-append, length-drop}
use Rattle.std.specs.Prelude.{All, encode_utf8_all, codes}
use Rattle.std.specs.Fmt.{decimal}
use Rattle.std.specs.Char.{is_whitespace}
use Rattle.std.specs.Str.{IsUtf8, chars, is_utf8, trim, trim_start, trim_end, skip_leading_whitespace, drop_trailing_whitespace}
use Rattle.std.proofs.lemmas.Bool.{and_parts, and_from, and_left, and_right, lt-ltb, le-ltb, ltb-true, ltb-false, true≢false, eqb-false, leb-true}
use Rattle.std.proofs.lemmas.Fmt.{decimal_is_IsNumeral, length-decimal-le, IsAscii-decimal}
use Rattle.std.proofs.lemmas.List.{length-take, take-append-drop, take_all}
use Rattle.std.proofs.lemmas.List.Elements.{All-nil, All-cons, All-head, All-tail, All-append, All-same, All-weaker, All-take, All-from_get_or}
use Rattle.std.proofs.lemmas.List.Sums.{AllPass-from_list_all}
use Rattle.std.proofs.lemmas.Str.{chars-encodes, encodes-chars, encodes-IsAscii, IsAscii-append, scalars-chars, encodes-append, length-le-encodes, IsUtf8-from_is_utf8, is_utf8-from_IsUtf8}
use Rattle.std.proofs.lemmas.Str.Ascii.{IsAscii-from_all}
use Rattle.std.proofs.lemmas.Str.Parse.{digit_at}
use lib.Utf8.{encode, scalar, scalars, low_scalar}
use Rattle.desk_letters.specs.Hidden.{is_hidden}
use Rattle.desk_letters.specs.Naming.{in_line, one_line, cut, no_words, first_words, IsName}
use Rattle.desk_letters.proofs.HiddenLaws.{Shows, IsPlain, plain_shows, refuted}

-- ---- where a line is cut

parts : (cs : List ℕ) → encode_utf8_all (take 40 cs) ++ encode_utf8_all (drop 40 cs) ≡ encode_utf8_all cs
parts cs = sym (encodes-append (take 40 cs) (drop 40 cs)) ∙ ap encode_utf8_all (take-append-drop 40 cs)

-- what is shorter in bytes is shorter in characters
longer : (cs : List ℕ) → length (encode_utf8_all (take 40 cs)) < length (encode_utf8_all cs) → 40 < length cs
longer cs h = at_test (nat_lt 40 (length cs)) refl
  where
    at_test : (t : Bool) → nat_lt 40 (length cs) ≡ t → 40 < length cs
    at_test true e = ltb-true 40 (length cs) e
    at_test false e =
        let same : length (encode_utf8_all (take 40 cs)) ≡ length (encode_utf8_all cs) =
        ap (λ t. length (encode_utf8_all t)) (take_all 40 cs (ltb-false 40 (length cs) e)) in
        absurd (omega (arith, same, h))

no_longer : (cs : List ℕ) → length (encode_utf8_all cs) ≤ length (encode_utf8_all (take 40 cs)) → length cs ≤ 40
no_longer cs h =
    omega (
      arith,
      h,
      ap (λ (t : List ℕ). length t) (parts cs),
      length-append (encode_utf8_all (take 40 cs)) (encode_utf8_all (drop 40 cs)),
      length-le-encodes (drop 40 cs),
      length-drop 40 cs,
    )

abbrev dots : Bool → List ℕ
dots t = cond t (codes "..") []

pub cut_off : (line front : List ℕ) → IsUtf8 line → front ≡ encode_utf8_all (take 40 (chars line))
    → length front < length line → front ++ codes ".." ≡ cut line
unfolding cut
cut_off line front utf8 is shorter =
    let cs : List ℕ = chars line in
    let whole : encode_utf8_all cs ≡ line = encodes-chars line utf8 in
    let long : 40 < length cs =
    longer cs (omega (arith, shorter, ap (λ (t : List ℕ). length t) is, ap (λ (t : List ℕ). length t) whole)) in
    ap (λ (t : List ℕ). t ++ codes "..") is
    ∙ ap (λ t. encode_utf8_all (take 40 cs) ++ dots t) (sym (lt-ltb 40 (length cs) long))

pub not_cut : (line front : List ℕ) → IsUtf8 line → front ≡ encode_utf8_all (take 40 (chars line))
    → length line ≤ length front → front ≡ cut line
unfolding cut
not_cut line front utf8 is as_long =
    let cs : List ℕ = chars line in
    let whole : encode_utf8_all cs ≡ line = encodes-chars line utf8 in
    let short : length cs ≤ 40 =
    no_longer cs (omega (arith, as_long, ap (λ (t : List ℕ). length t) is, ap (λ (t : List ℕ). length t) whole)) in
    is ∙ sym (append-nil (encode_utf8_all (take 40 cs)))
    ∙ ap (λ t. encode_utf8_all (take 40 cs) ++ dots t) (sym (le-ltb 40 (length cs) short))

-- ---- which words

abbrev words_or : Bool → List ℕ → List ℕ
words_or t text = cond t (cut (one_line text)) (no_words (length text))

abbrev has_words : List ℕ → Bool
has_words text = is_utf8 text && nat_lt 0 (length (one_line text))

none_said : (text : List ℕ) → has_words text ≡ false → first_words text ≡ no_words (length text)
unfolding first_words
none_said text h = ap (λ t. words_or t text) h

pub blank : (text : List ℕ) → one_line text ≡ [] → first_words text ≡ no_words (length text)
blank text h =
    none_said text (and_right (is_utf8 text) (nat_lt 0 (length (one_line text))) (ap (λ (t : List ℕ). nat_lt 0 (length t)) h))

pub no_text : (text : List ℕ) → (IsUtf8 text → ⊥) → first_words text ≡ no_words (length text)
no_text text h = none_said text (and_left (is_utf8 text) (nat_lt 0 (length (one_line text))) (at_test (is_utf8 text) refl))
  where
    at_test : (t : Bool) → is_utf8 text ≡ t → is_utf8 text ≡ false
    at_test true e = absurd (h (IsUtf8-from_is_utf8 text e))
    at_test false e = e

some : (xs : List ℕ) → xs ≢ [] → 0 < length xs
some [] h = absurd (h refl)
some (x ∷ xs) h = omega arith

pub has_line : (text : List ℕ) → IsUtf8 text → one_line text ≢ [] → first_words text ≡ cut (one_line text)
unfolding first_words
has_line text utf8 h =
    ap (λ t. words_or t text)
    (and_from (is_utf8 text) (nat_lt 0 (length (one_line text))) (is_utf8-from_IsUtf8 text utf8) (lt-ltb 0 (length (one_line text)) (some (one_line text) h)))

-- ---- what stands in them

-- a character that can stand between quotation marks in a line
abbrev IsQuoted : ℕ → Type 0
IsQuoted c = (scalar c ≡ true) × Shows c × (c ≢ 9) × (c ≢ 10) × (c ≢ 34)

plain_quoted : (c : ℕ) → IsPlain c → c ≢ 34 → IsQuoted c
plain_quoted c h other =
    (low_scalar c (omega arith), plain_shows c h, (λ e. omega (arith, h.0, e)), (λ e. omega (arith, h.0, e)), other)

both_false : (a b : Bool) → (a || b) ≡ false → (a ≡ false) × (b ≡ false)
both_false true b h = absurd (true≢false h)
both_false false b h = (refl, h)

in_line_quoted : (c : ℕ) → scalar c ≡ true → IsQuoted (in_line c)
in_line_quoted c h = at_break (c == 9 || c == 10 || is_hidden c) refl
  where
    at_mark : (t : Bool) → (c == 34) ≡ t → c ≢ 9 → c ≢ 10 → Shows c → IsQuoted (cond t 39 c)
    at_mark true e tab newline seen = plain_quoted 39 (omega arith, omega arith) (λ k. omega (arith, k))
    at_mark false e tab newline seen = (h, seen, tab, newline, eqb-false c 34 e)

    at_break : (t : Bool) → (c == 9 || c == 10 || is_hidden c) ≡ t → IsQuoted (cond t 32 (cond (c == 34) 39 c))
    at_break true e = plain_quoted 32 (omega arith, omega arith) (λ k. omega (arith, k))
    at_break false e =
        let p = both_false (c == 9 || c == 10) (is_hidden c) e in
        let q = both_false (c == 9) (c == 10) p.0 in
        at_mark (c == 34) refl (eqb-false c 9 q.0) (eqb-false c 10 q.1) p.1

all_in_line : (cs : List ℕ) → scalars cs ≡ true → All IsQuoted (map in_line cs)
all_in_line [] h = All-nil IsQuoted
all_in_line (c ∷ cs) h =
    let p = and_parts (scalar c) (scalars cs) h in
    All-cons IsQuoted (in_line c) (map in_line cs) (in_line_quoted c p.0) (all_in_line cs p.1)

quoted_scalars : (cs : List ℕ) → All IsQuoted cs → scalars cs ≡ true
quoted_scalars [] h = refl
quoted_scalars (c ∷ cs) h =
    and_from _ _ (All-head IsQuoted c cs h).0 (quoted_scalars cs (All-tail IsQuoted c cs h))

known : (cs : List ℕ) → All IsQuoted cs → chars (encode_utf8_all cs) ≡ cs
known cs h = chars-encodes cs (quoted_scalars cs h)

skipped : (cs : List ℕ) → All IsQuoted cs → All IsQuoted (skip_leading_whitespace cs)
skipped [] h = h
skipped (c ∷ cs) h = at_test (is_whitespace c) (skipped cs (All-tail IsQuoted c cs h))
  where
    at_test : (t : Bool) → All IsQuoted (skip_leading_whitespace cs) → All IsQuoted (cond t (skip_leading_whitespace cs) (c ∷ cs))
    at_test true k = k
    at_test false k = h

dropped : (cs : List ℕ) → All IsQuoted cs → All IsQuoted (drop_trailing_whitespace cs)
dropped [] h = h
dropped (c ∷ cs) h =
    at_test (is_whitespace c && length (drop_trailing_whitespace cs) == 0) (dropped cs (All-tail IsQuoted c cs h))
  where
    at_test : (t : Bool) → All IsQuoted (drop_trailing_whitespace cs)
        → All IsQuoted (cond t [] (c ∷ drop_trailing_whitespace cs))
    at_test true k = All-nil IsQuoted
    at_test false k = All-cons IsQuoted c (drop_trailing_whitespace cs) (All-head IsQuoted c cs h) k

-- the characters of a text in one line
record Line (line : List ℕ) : Type 0 where
  cs : List ℕ
  is : line ≡ encode_utf8_all cs
  quoted : All IsQuoted cs

trimmed : (cs : List ℕ) → All IsQuoted cs → Line (trim (encode_utf8_all cs))
unfolding trim_start trim_end
trimmed cs h =
    let front : List ℕ = skip_leading_whitespace cs in
    let k : All IsQuoted front = skipped cs h in
    record {
      cs = drop_trailing_whitespace front;
      is = ap (λ t. trim_end (encode_utf8_all (skip_leading_whitespace t))) (known cs h)
          ∙ ap (λ t. encode_utf8_all (drop_trailing_whitespace t)) (known front k);
      quoted = dropped front k;
    }

line_of : (text : List ℕ) → IsUtf8 text → Line (one_line text)
unfolding one_line
line_of text utf8 = trimmed (map in_line (chars text)) (all_in_line (chars text) (scalars-chars text utf8))

-- ---- a name

named : (cs words : List ℕ) → words ≡ encode_utf8_all cs → All IsQuoted cs → 1 ≤ length cs → length cs ≤ 43
    → IsName words
named cs words is h one most =
    let e : chars words ≡ cs = ap chars is ∙ known cs h in
    record {
      some = subst (λ (t : List ℕ). 1 ≤ length t) (sym e) one;
      most = subst (λ (t : List ℕ). length t ≤ 43) (sym e) most;
      shown = All-same Shows (chars words) cs e (All-weaker IsQuoted Shows (λ c q. q.1) cs h);
      one_line = All-same (λ c. (c ≢ 9) × (c ≢ 10) × (c ≢ 34)) (chars words) cs e
          (All-weaker IsQuoted (λ c. (c ≢ 9) × (c ≢ 10) × (c ≢ 34)) (λ c q. (q.2, q.3, q.4)) cs h);
    }

dots_quoted : All IsQuoted (codes "..")
dots_quoted =
    let dot : IsQuoted 46 = plain_quoted 46 (omega arith, omega arith) (λ e. omega (arith, e)) in
    All-cons IsQuoted 46 (46 ∷ []) dot (All-cons IsQuoted 46 [] dot (All-nil IsQuoted))

cut_named : (line : List ℕ) → Line line → line ≢ [] → IsName (cut line)
unfolding cut encode
cut_named line l other =
    let cs : List ℕ = l.cs in
    let e : chars line ≡ cs = ap chars l.is ∙ known cs l.quoted in
    let front : List ℕ = take 40 cs in
    let full : cs ≢ [] = λ k. other (l.is ∙ ap encode_utf8_all k) in
    let k : All IsQuoted front = All-take IsQuoted 40 cs l.quoted in
    let fits : length front ≤ 40 = omega (arith, length-take 40 cs) in
    let one : 1 ≤ length front = omega (arith, length-take 40 cs, some cs full) in
    subst (λ t. IsName (encode_utf8_all (take 40 t) ++ dots (nat_lt 40 (length t)))) (sym e) (at_test (nat_lt 40 (length cs)) front k fits one)
  where
    at_test : (t : Bool) (front : List ℕ) → All IsQuoted front → length front ≤ 40 → 1 ≤ length front
        → IsName (encode_utf8_all front ++ dots t)
    at_test true front k fits one =
        named (front ++ codes "..") (encode_utf8_all front ++ codes "..") (sym (encodes-append front (codes "..")))
        (All-append IsQuoted front (codes "..") k dots_quoted)
        (omega (arith, one, length-append front (codes ".."))) (omega (arith, fits, length-append front (codes "..")))
    at_test false front k fits one =
        named front (encode_utf8_all front ++ []) (append-nil (encode_utf8_all front)) k one (omega (arith, fits))

-- of a printed character of ASCII that is no quotation mark
abbrev is_letter : ℕ → Bool
is_letter c = (nat_le 32 c && nat_lt c 127) && not (c == 34)

letter_quoted : (c : ℕ) → is_letter c ≡ true → IsQuoted c
letter_quoted c h =
    let p = and_parts (nat_le 32 c && nat_lt c 127) (not (c == 34)) h in
    let q = and_parts (nat_le 32 c) (nat_lt c 127) p.0 in
    plain_quoted c (leb-true 32 c q.0, ltb-true c 127 q.1) (eqb-false c 34 (refuted (c == 34) p.1))

letter_low : (c : ℕ) → is_letter c ≡ true → c < 128
letter_low c h =
    let p = and_parts (nat_le 32 c && nat_lt c 127) (not (c == 34)) h in
    let low : c < 127 = ltb-true c 127 (and_parts (nat_le 32 c) (nat_lt c 127) p.0).1 in
    omega (arith, low)

digits_quoted : (n : ℕ) → n < 2 ^ 64 → All IsQuoted (decimal n)
digits_quoted n h =
    let numeral = (decimal_is_IsNumeral n h).0.1 in
    All-from_get_or IsQuoted (decimal n) 0 (λ i lt.
    let at = digit_at (decimal n) i numeral lt in
    plain_quoted (get_or (decimal n) i 0) (omega (arith, at.0), omega (arith, at.1)) (λ e. omega (arith, at.0, e)))

no_words_named : (n : ℕ) → n < 2 ^ 64 → IsName (no_words n)
unfolding no_words
no_words_named n h =
    let rest : List ℕ = codes " bytes that are no text" in
    let quoted : All IsQuoted (decimal n ++ rest) =
    All-append IsQuoted (decimal n) rest (digits_quoted n h)
    (All-weaker (λ c. is_letter c ≡ true) IsQuoted letter_quoted rest (AllPass-from_list_all is_letter rest refl)) in
    let len = length-decimal-le 20 n (omega arith) (omega (arith, h)) h in
    let ascii : All (λ c. c < 128) rest =
    All-weaker (λ c. is_letter c ≡ true) (λ c. c < 128) letter_low rest (AllPass-from_list_all is_letter rest refl) in
    let same : encode_utf8_all (decimal n ++ rest) ≡ decimal n ++ rest =
    encodes-IsAscii (decimal n ++ rest) (IsAscii-append (decimal n) rest (IsAscii-decimal n h) (IsAscii-from_all rest ascii)) in
    named (decimal n ++ rest) (decimal n ++ rest) (sym same) quoted
    (omega (arith, length-append (decimal n) rest)) (omega (arith, len, length-append (decimal n) rest))

-- the first words of any text are a name
pub first_named : (text : List ℕ) → length text < 2 ^ 64 → IsName (first_words text)
unfolding first_words
first_named text h = at_test (has_words text) refl
  where
    at_test : (t : Bool) → has_words text ≡ t → IsName (words_or t text)
    at_test true e =
        let p = and_parts (is_utf8 text) (nat_lt 0 (length (one_line text))) e in
        let one : 0 < length (one_line text) = ltb-true 0 (length (one_line text)) p.1 in
        cut_named (one_line text) (line_of text (IsUtf8-from_is_utf8 text p.0))
        (λ none. omega (arith, one, ap (λ (t : List ℕ). length t) none))
    at_test false e = no_words_named (length text) h
