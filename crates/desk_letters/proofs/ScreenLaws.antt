-- What a text for a screen shows.
use Rattle.std.proofs.Common.{◌≡◌, ◌≢◌, ℕ, zero, suc, ◌/◌, ◌%◌, ◌<◌, Bool, true, false, cond, eqb, nat_lt, List, [], ◌∷◌, ◌++◌, length, get_or, take, drop, refl, ap, sym, ◌∙◌, arith, append-nil, subst, inl, inr, add-one}
use Rattle.std.specs.Prelude.{All, encode_utf8_all, ◌⊎◌}
use Rattle.std.specs.List.{flat_map}
use Rattle.std.specs.Char.{is_control, digit_char, encode_utf8}
use Rattle.std.specs.Char.Escape.{escape_unicode}
use Rattle.std.specs.Str.{IsUtf8, chars}
use Rattle.std.proofs.lemmas.Bool.{and_parts, and_from, ne_eqb}
use Rattle.std.proofs.lemmas.Bool.Decides.{nat_tests, eqb_tells}
use Rattle.std.proofs.lemmas.List.Concat.{flat_map-append}
use Rattle.std.proofs.lemmas.List.Elements.{All-nil, All-cons, All-head, All-tail, All-append, All-same, All-weaker, All-from_get_or}
use Rattle.std.proofs.lemmas.Str.{chars-encodes, encodes-chars, scalars-chars, encodes-append, inside_one}
use lib.Utf8.{scalar, scalars, low_scalar}
use Rattle.desk_letters.specs.Hidden.{is_hidden}
use Rattle.desk_letters.specs.Screen.{spelled_out, shown, margin, with_margin, set_off, shown_text, ShowsAll, IsSetOff, ForgesNone}
use Rattle.desk_letters.proofs.HiddenLaws.{Shows, IsPlain, plain_shows, newline_shows}

-- ---- what is spelled out

digit_plain : (d : ℕ) → d < 16 → IsPlain (digit_char d)
digit_plain d h = grind (arith, nat_tests)

control_below : (c : ℕ) → is_control c ≡ true → c < 160
control_below c h = grind (arith, nat_tests)

-- each of these is, in a record so that the list is known of it
record ArePlain (cs : List ℕ) : Type 0 where
  all : All IsPlain cs

either : (t : Bool) {xs ys : List ℕ} → ArePlain xs → ArePlain ys → ArePlain (cond t xs ys)
either true p q = p
either false p q = q

then : (c : ℕ) {cs : List ℕ} → IsPlain c → ArePlain cs → ArePlain (c ∷ cs)
then c {cs} h p = record { all = All-cons IsPlain c cs h p.all }

none : ArePlain []
none = record { all = All-nil IsPlain }

begun : {cs : List ℕ} → ArePlain cs → ArePlain (92 ∷ 117 ∷ 123 ∷ cs)
begun h = then 92 (omega arith, omega arith) (then 117 (omega arith, omega arith) (then 123 (omega arith, omega arith) h))

digit_then : (d : ℕ) {cs : List ℕ} → ArePlain cs → ArePlain (digit_char (d % 16) ∷ cs)
digit_then d h = then (digit_char (d % 16)) (digit_plain (d % 16) (omega arith)) h

escaped_plain : (c : ℕ) → ArePlain (escape_unicode c)
escaped_plain c =
    let d0 = digit_then (c / 1) (then 125 (omega arith, omega arith) none) in
    let d1 = digit_then (c / 0x10) d0 in
    let d2 = digit_then (c / 0x100) d1 in
    let d3 = digit_then (c / 0x1000) d2 in
    let d4 = digit_then (c / 0x1_0000) d3 in
    let d5 = digit_then (c / 0x10_0000) d4 in
    either (nat_lt c 0x10) (begun d0) (either (nat_lt c 0x100) (begun d1) (either (nat_lt c 0x1000) (begun d2)
    (either (nat_lt c 0x1_0000) (begun d3) (either (nat_lt c 0x10_0000) (begun d4) (begun d5)))))

control_plain : (c : ℕ) → c < 160 → ArePlain (92 ∷ 120 ∷ digit_char (c / 16) ∷ digit_char (c % 16) ∷ [])
control_plain c h =
    then 92 (omega arith, omega arith) (then 120 (omega arith, omega arith)
    (then (digit_char (c / 16)) (digit_plain (c / 16) (omega arith)) (digit_then c none)))

spelled_plain : (c : ℕ) → All IsPlain (spelled_out c)
spelled_plain c = (at_test (is_control c) refl).all
  where
    at_test : (t : Bool) → is_control c ≡ t
        → ArePlain (cond t (92 ∷ 120 ∷ digit_char (c / 16) ∷ digit_char (c % 16) ∷ []) (escape_unicode c))
    at_test true e = control_plain c (control_below c e)
    at_test false e = escaped_plain c

-- ---- characters that are shown

-- a character that stands on a screen
abbrev IsGood : ℕ → Type 0
IsGood c = (scalar c ≡ true) × Shows c

plain_good : (c : ℕ) → IsPlain c → IsGood c
plain_good c h = (low_scalar c (omega arith), plain_shows c h)

shown_good : (c : ℕ) → scalar c ≡ true → All IsGood (shown c)
shown_good c h = at_test (is_hidden c) refl
  where
    at_test : (t : Bool) → is_hidden c ≡ t → All IsGood (cond t (spelled_out c) (c ∷ []))
    at_test true e = All-weaker IsPlain IsGood plain_good (spelled_out c) (spelled_plain c)
    at_test false e = All-cons IsGood c [] (h, e) (All-nil IsGood)

all_good : (cs : List ℕ) → scalars cs ≡ true → All IsGood (flat_map shown cs)
all_good [] h = All-nil IsGood
all_good (c ∷ cs) h =
    let p = and_parts (scalar c) (scalars cs) h in
    All-append IsGood (shown c) (flat_map shown cs) (shown_good c p.0) (all_good cs p.1)

good_scalars : (cs : List ℕ) → All IsGood cs → scalars cs ≡ true
good_scalars [] h = refl
good_scalars (c ∷ cs) h =
    and_from _ _ (All-head IsGood c cs h).0 (good_scalars cs (All-tail IsGood c cs h))

-- ---- lines

no_newline : (b : ℕ) → b ≢ 10 → with_margin b ≡ b ∷ []
no_newline b h = ap (λ t. cond t (b ∷ margin) (b ∷ [])) (ne_eqb b 10 h)

no_line : (bs : List ℕ) → All (λ b. b ≢ 10) bs → flat_map with_margin bs ≡ bs
no_line [] h = refl
no_line (b ∷ bs) h =
    ap (λ t. t ++ flat_map with_margin bs) (no_newline b (All-head (λ b. b ≢ 10) b bs h))
    ∙ ap (λ (t : List ℕ). b ∷ t) (no_line bs (All-tail (λ b. b ≢ 10) b bs h))

-- the bytes of another character have no newline
pub bytes_in_line : (c : ℕ) → c ≢ 10 → All (λ b. b ≢ 10) (encode_utf8 c)
bytes_in_line c h =
    All-from_get_or (λ b. b ≢ 10) (encode_utf8 c) 0 (λ i lt e.
    h (inside_one c [] (encode_utf8 c) i (sym (append-nil (encode_utf8 c))) lt (omega (arith, e)) ∙ e))

pub encoded_in_line : (cs : List ℕ) → All (λ c. c ≢ 10) cs → flat_map with_margin (encode_utf8_all cs) ≡ encode_utf8_all cs
encoded_in_line [] h = refl
encoded_in_line (c ∷ cs) h =
    flat_map-append with_margin (encode_utf8 c) (encode_utf8_all cs)
    ∙ ap (λ t. t ++ flat_map with_margin (encode_utf8_all cs)) (no_line (encode_utf8 c) (bytes_in_line c (All-head (λ c. c ≢ 10) c cs h)))
    ∙ ap (λ t. encode_utf8 c ++ t) (encoded_in_line cs (All-tail (λ c. c ≢ 10) c cs h))

-- these characters, encoded, with their lines set off
one_set_off : (c : ℕ) → flat_map with_margin (encode_utf8 c) ≡ encode_utf8_all (with_margin c)
unfolding encode_utf8
one_set_off c = at_test (eqb_tells c 10)
  where
    at_test : ((eqb c 10 ≡ true) × (c ≡ 10)) ⊎ ((eqb c 10 ≡ false) × (c ≢ 10))
        → flat_map with_margin (encode_utf8 c) ≡ encode_utf8_all (with_margin c)
    at_test (inl (t, e)) = subst (λ n. flat_map with_margin (encode_utf8 n) ≡ encode_utf8_all (with_margin n)) (sym e) refl
    at_test (inr (t, h)) =
        no_line (encode_utf8 c) (bytes_in_line c h)
        ∙ sym (ap encode_utf8_all (no_newline c h) ∙ append-nil (encode_utf8 c))

all_set_off : (cs : List ℕ) → flat_map with_margin (encode_utf8_all cs) ≡ encode_utf8_all (flat_map with_margin cs)
all_set_off [] = refl
all_set_off (c ∷ cs) =
    flat_map-append with_margin (encode_utf8 c) (encode_utf8_all cs)
    ∙ ap (λ t. t ++ flat_map with_margin (encode_utf8_all cs)) (one_set_off c)
    ∙ ap (λ t. encode_utf8_all (with_margin c) ++ t) (all_set_off cs)
    ∙ sym (encodes-append (with_margin c) (flat_map with_margin cs))

set_off_encodes : (cs : List ℕ) → set_off (encode_utf8_all cs) ≡ encode_utf8_all (margin ++ flat_map with_margin cs)
unfolding set_off encode_utf8
set_off_encodes cs = ap (λ t. margin ++ t) (all_set_off cs)

space_good : IsGood 32
space_good = plain_good 32 (omega arith, omega arith)

margin_good : All IsGood margin
margin_good = All-cons IsGood 32 (32 ∷ []) space_good (All-cons IsGood 32 [] space_good (All-nil IsGood))

one_good : (c : ℕ) → IsGood c → All IsGood (with_margin c)
one_good c h = at_test (eqb c 10)
  where
    at_test : (t : Bool) → All IsGood (cond t (c ∷ margin) (c ∷ []))
    at_test true = All-cons IsGood c margin h margin_good
    at_test false = All-cons IsGood c [] h (All-nil IsGood)

lines_good : (cs : List ℕ) → All IsGood cs → All IsGood (flat_map with_margin cs)
lines_good [] h = All-nil IsGood
lines_good (c ∷ cs) h =
    All-append IsGood (with_margin c) (flat_map with_margin cs) (one_good c (All-head IsGood c cs h))
    (lines_good cs (All-tail IsGood c cs h))

-- no character of what is shown is hidden
pub shows_all : (text : List ℕ) → IsUtf8 text → ShowsAll (shown_text text)
unfolding shown_text
shows_all text utf8 =
    let cs : List ℕ = flat_map shown (chars text) in
    let lines : List ℕ = margin ++ flat_map with_margin cs in
    let good : All IsGood lines = All-append IsGood margin (flat_map with_margin cs) margin_good
    (lines_good cs (all_good (chars text) (scalars-chars text utf8))) in
    All-same Shows (chars (set_off (encode_utf8_all cs))) lines
    (ap chars (set_off_encodes cs) ∙ chars-encodes lines (good_scalars lines good))
    (All-weaker IsGood Shows (λ c h. h.1) lines good)

same_shown : (cs : List ℕ) → All Shows cs → flat_map shown cs ≡ cs
same_shown [] h = refl
same_shown (c ∷ cs) h =
    ap (λ t. cond t (spelled_out c) (c ∷ []) ++ flat_map shown cs) (All-head Shows c cs h)
    ∙ ap (λ (t : List ℕ). c ∷ t) (same_shown cs (All-tail Shows c cs h))

-- of a text of which no character is hidden the lines are set off
pub stays : (text : List ℕ) → IsUtf8 text → ShowsAll text → shown_text text ≡ set_off text
unfolding shown_text
stays text utf8 h = ap set_off (ap encode_utf8_all (same_shown (chars text) h) ∙ encodes-chars text utf8)

-- ---- each line begins with two spaces

-- two spaces stand behind each newline of these bytes
abbrev IsSpaced : List ℕ → Type 0
IsSpaced bytes = (i : ℕ) → get_or bytes i 0 ≡ 10 → take 2 (drop (suc i) bytes) ≡ margin

after_newline : (rest : List ℕ) → IsSpaced rest → IsSpaced (10 ∷ 32 ∷ 32 ∷ rest)
after_newline rest h zero e = refl
after_newline rest h (suc zero) e = absurd (omega (arith, e))
after_newline rest h (suc (suc zero)) e = absurd (omega (arith, e))
after_newline rest h (suc (suc (suc i))) e = h i e

after_other : (b : ℕ) (rest : List ℕ) → b ≢ 10 → IsSpaced rest → IsSpaced (b ∷ rest)
after_other b rest other h zero e = absurd (other e)
after_other b rest other h (suc i) e = h i e

after_one : (b : ℕ) (rest : List ℕ) → IsSpaced rest → IsSpaced (with_margin b ++ rest)
after_one b rest h = at_test (eqb_tells b 10)
  where
    at_test : ((eqb b 10 ≡ true) × (b ≡ 10)) ⊎ ((eqb b 10 ≡ false) × (b ≢ 10)) → IsSpaced (with_margin b ++ rest)
    at_test (inl (t, e)) = subst (λ n. IsSpaced (with_margin n ++ rest)) (sym e) (after_newline rest h)
    at_test (inr (t, other)) =
        subst (λ (front : List ℕ). IsSpaced (front ++ rest)) (sym (no_newline b other)) (after_other b rest other h)

all_spaced : (bs : List ℕ) → IsSpaced (flat_map with_margin bs)
all_spaced [] i h = absurd (omega (arith, h))
all_spaced (b ∷ bs) i h = after_one b (flat_map with_margin bs) (all_spaced bs) i h

pub all_set_apart : (text : List ℕ) → IsSetOff (set_off text)
unfolding set_off
all_set_apart text i (inl e) = subst (λ n. take 2 (drop n (set_off text)) ≡ margin) (sym e) refl
all_set_apart text i (inr (j, e, newline)) =
    subst (λ n. take 2 (drop n (set_off text)) ≡ margin) (sym (e ∙ add-one j)) (behind j newline)
  where
    behind : (j : ℕ) → get_or (set_off text) j 0 ≡ 10 → take 2 (drop (suc j) (set_off text)) ≡ margin
    behind zero h = absurd (omega (arith, h))
    behind (suc zero) h = absurd (omega (arith, h))
    behind (suc (suc j)) h = all_spaced text j h

first_of_take : (n : ℕ) (xs : List ℕ) → get_or (take (suc n) xs) 0 0 ≡ get_or xs 0 0
first_of_take n [] = refl
first_of_take n (x ∷ xs) = refl

-- so no line begins with another character
pub forges_none : (text : List ℕ) → IsSetOff text → ForgesNone text
forges_none text off first rest other line =
    other (sym (ap (λ xs. get_or xs 0 0) line.stands) ∙ first_of_take (length rest) (drop line.at text)
    ∙ sym (first_of_take 1 (drop line.at text)) ∙ ap (λ xs. get_or xs 0 0) (off line.at line.begins))

pub shown_set_off : (text : List ℕ) → IsSetOff (shown_text text)
unfolding shown_text
shown_set_off text = all_set_apart (encode_utf8_all (flat_map shown (chars text)))

pub shown_apart : (text : List ℕ) → ForgesNone (shown_text text)
shown_apart text = forges_none (shown_text text) (shown_set_off text)

-- ---- one character more

-- one character more is shown
pub one_more : (cs : List ℕ) (c : ℕ) → set_off (encode_utf8_all (flat_map shown (cs ++ c ∷ [])))
    ≡ set_off (encode_utf8_all (flat_map shown cs)) ++ flat_map with_margin (encode_utf8_all (shown c))
unfolding set_off
one_more cs c =
    let before : List ℕ = encode_utf8_all (flat_map shown cs) in
    let one : List ℕ = encode_utf8_all (shown c) in
    let is : encode_utf8_all (flat_map shown (cs ++ c ∷ [])) ≡ before ++ one =
    ap encode_utf8_all (flat_map-append shown cs (c ∷ []) ∙ ap (λ (t : List ℕ). flat_map shown cs ++ t) (append-nil (shown c)))
    ∙ encodes-append (flat_map shown cs) (shown c) in
    ap (λ t. margin ++ flat_map with_margin t) is ∙ ap (λ (t : List ℕ). margin ++ t) (flat_map-append with_margin before one)

-- a newline is shown with the margin of the next line
pub newline_shown : flat_map with_margin (encode_utf8_all (shown 10)) ≡ 10 ∷ margin
unfolding encode_utf8
newline_shown = ap (λ t. flat_map with_margin (encode_utf8_all (cond t (spelled_out 10) (10 ∷ [])))) newline_shows

-- what is spelled out has no newline
plain_in_line : (c : ℕ) → IsPlain c → c ≢ 10
plain_in_line c h e = omega (arith, h.0, e)

pub spelled_shown : (c : ℕ) → is_hidden c ≡ true
    → flat_map with_margin (encode_utf8_all (shown c)) ≡ encode_utf8_all (spelled_out c)
spelled_shown c h =
    ap (λ t. flat_map with_margin (encode_utf8_all (cond t (spelled_out c) (c ∷ [])))) h
    ∙ encoded_in_line (spelled_out c) (All-weaker IsPlain (λ b. b ≢ 10) plain_in_line (spelled_out c) (spelled_plain c))

pub itself_shown : (c : ℕ) → c ≢ 10 → is_hidden c ≡ false → flat_map with_margin (encode_utf8_all (shown c)) ≡ encode_utf8 c
itself_shown c h e =
    ap (λ t. flat_map with_margin (encode_utf8_all (cond t (spelled_out c) (c ∷ [])))) e
    ∙ ap (flat_map with_margin) (append-nil (encode_utf8 c))
    ∙ no_line (encode_utf8 c) (bytes_in_line c h)

pub escaped : (c : ℕ) → is_control c ≡ false → spelled_out c ≡ escape_unicode c
escaped c h =
    ap (λ t. cond t (92 ∷ 120 ∷ digit_char (c / 16) ∷ digit_char (c % 16) ∷ []) (escape_unicode c)) h
