-- What is printed of a sheet has the sheet's lines.
use Rattle.std.proofs.Common.{◌≡◌, ◌≢◌, inl, ℕ, zero, suc, ◌+◌, ◌-◌, ◌/◌, ◌%◌, ◌^◌, ◌<◌, ◌≤◌, true, false, Bool, ◌||◌, List, [], ◌∷◌, ◌++◌, map, length, get_or, drop, Ok, Option, Some, None, codes, subst, refl, sym, ap, ◌∙◌, arith, append_assoc, append-nil}
use Rattle.std.specs.Prelude.{IfSome, is_some, replicate}
use Rattle.std.specs.Fmt.{decimal}
use Rattle.std.specs.Char.{is_ascii_digit}
use Rattle.std.specs.List.{list_all}
use Rattle.std.specs.Str.{all_ascii_digits}
use Rattle.std.proofs.lemmas.Bool.{and_parts}
use Rattle.std.proofs.lemmas.Bool.Decides.{nat_tests}
use Rattle.std.proofs.lemmas.Fmt.{digits_decimal}
use Rattle.std.proofs.lemmas.Grind.{common_steps}
use Rattle.std.proofs.lemmas.List.{length-append}
use Rattle.sha2.specs.Sha256.{sha256}
use Rattle.hex.specs.Hex.{lower_digits, encode_with}
use Rattle.express_texts.specs.LineFields.{after}
use Rattle.express_texts.specs.Lines.{HasNoLf, AreLines}
use Rattle.express_texts.proofs.FieldLaws.{after_only}
use Rattle.express_texts.proofs.LineLaws.{lines_only}
use Rattle.express_texts.proofs.NumberLaws.{numerals}
use Rattle.desk_texts.specs.declared.day.Day.{Day}
use Rattle.desk_texts.specs.declared.sheet.CardHead.{CardHead}
use Rattle.desk_texts.specs.declared.sheet.Head.{Head}
use Rattle.desk_texts.specs.declared.sheet.Head.TheVariants.{Card, Pair}
use Rattle.desk_texts.specs.declared.sheet.Sheet.{Sheet}
use Rattle.desk_texts.specs.Checks.{with_content, digit_of, check_word, checked, checked_lines}
use Rattle.desk_texts.specs.Days.{IsDay, zero_filled, day_text}
use Rattle.desk_texts.specs.Fields.{address_digits}
use Rattle.desk_texts.specs.Lines.{is_blank, trimmed, lines_in, begins_sheet, from_first}
use Rattle.desk_texts.specs.Places.{is_place_byte}
use Rattle.desk_texts.specs.Printing.{printed_from, printed}
use Rattle.desk_texts.specs.Sheets.{sheet_of}
use Rattle.desk_texts.specs.Spelling.{numbers_text, card_text_by, head_text, address_text, IsCard, IsHead, IsSheet, contents}
use Rattle.desk_texts.proofs.CheckLaws.{length-check_word}
use Rattle.desk_texts.proofs.DayLaws.{short_day}
use Rattle.desk_texts.proofs.FindLaws.{from_start, line_found}
use Rattle.desk_texts.proofs.SheetLaws.{is_only}
use Rattle.desk_texts.proofs.TextLaws.{place_bytes}
use Rattle.desk_texts.proofs.TrimLaws.{trim_other}

-- ---- no line has an LF in it

pub HasNoLf-append : (xs ys : List ℕ) → HasNoLf xs → HasNoLf ys → HasNoLf (xs ++ ys)
HasNoLf-append [] ys h k = k
HasNoLf-append (x ∷ xs) ys h k = (h.0, HasNoLf-append xs ys h.1 k)

no_lf_at : (xs : List ℕ) (i : ℕ) → HasNoLf xs → get_or xs i 0 ≢ 10
no_lf_at [] i h e = absurd (omega (arith, e))
no_lf_at (x ∷ xs) zero h e = h.0 e
no_lf_at (x ∷ xs) (suc i) h e = no_lf_at xs i h.1 e

pub HasNoLf-encode_with : (t bytes : List ℕ) → HasNoLf t → HasNoLf (encode_with t bytes)
unfolding encode_with
HasNoLf-encode_with t [] h = tt
HasNoLf-encode_with t (b ∷ bytes) h =
    (no_lf_at t (b / 16) h, (no_lf_at t (b % 16) h, HasNoLf-encode_with t bytes h))

pub HasNoLf-digits : HasNoLf lower_digits
HasNoLf-digits = search arith

all_digits : (ds : List ℕ) → all_ascii_digits ds ≡ true → HasNoLf ds
all_digits [] h = tt
all_digits (d ∷ ds) h =
    let here : is_ascii_digit d ≡ true = grind (arith, common_steps) in
    let others : all_ascii_digits ds ≡ true = grind (arith, common_steps) in
    ((λ e. digit_not d here e), all_digits ds others)
  where
    digit_not : (c : ℕ) → is_ascii_digit c ≡ true → c ≢ 10
    digit_not c k e = grind (arith, nat_tests)

pub HasNoLf-decimal : (n : ℕ) → n < 2 ^ 64 → HasNoLf (decimal n)
HasNoLf-decimal n small = all_digits (decimal n) (digits_decimal numerals n small)

-- a word and a number
pub spaced : (n : ℕ) (rest : List ℕ) → n < 2 ^ 64 → HasNoLf rest → HasNoLf (codes " " ++ (decimal n ++ rest))
spaced n rest small h =
    HasNoLf-append (codes " ") (decimal n ++ rest) (search arith) (HasNoLf-append (decimal n) rest (HasNoLf-decimal n small) h)

pub spaced_last : (n : ℕ) → n < 2 ^ 64 → HasNoLf (codes " " ++ decimal n)
spaced_last n small = HasNoLf-append (codes " ") (decimal n) (search arith) (HasNoLf-decimal n small)

numbers_no_lf : (h : CardHead) (rest : List ℕ) → IsCard h → HasNoLf rest → HasNoLf (numbers_text h rest)
numbers_no_lf h rest is none =
    let width = is.width.most in let order = is.lanes.order in let last = is.lanes.last in let few = is.few in
    let tail1 = spaced h.addresses rest (omega (arith, few)) none in
    let tail2 = spaced h.to _ (omega (arith, last)) tail1 in
    let tail3 = spaced h.from _ (omega (arith, order, last)) tail2 in
    HasNoLf-append (decimal h.width) _ (HasNoLf-decimal h.width (omega (arith, width))) tail3

zeros_no_lf : (n : ℕ) → HasNoLf (replicate n 48)
zeros_no_lf zero = tt
zeros_no_lf (suc n) = ((λ e. absurd (omega (arith, e))), zeros_no_lf n)

filled_no_lf : (width n : ℕ) → n < 2 ^ 64 → HasNoLf (zero_filled width n)
filled_no_lf width n small = HasNoLf-append _ (decimal n) (zeros_no_lf (width - length (decimal n))) (HasNoLf-decimal n small)

pub day_no_lf : (d : Day) → IsDay d → HasNoLf (day_text d)
day_no_lf d is =
    let year = is.year in let month = is.last_month in let day = (short_day d is).1 in
    let tail1 = HasNoLf-append (codes "-") (zero_filled 2 d.day) (search arith) (filled_no_lf 2 d.day (omega (arith, day))) in
    let tail2 = HasNoLf-append (zero_filled 2 d.month) _ (filled_no_lf 2 d.month (omega (arith, month))) tail1 in
    let tail3 = HasNoLf-append (codes "-") _ (search arith) tail2 in
    HasNoLf-append (zero_filled 4 d.year) _ (filled_no_lf 4 d.year (omega (arith, year))) tail3

card_no_lf : (h : CardHead) → IsCard h → (u : Option Day) → h.until ≡ u → HasNoLf (card_text_by h u)
card_no_lf h is None e = HasNoLf-append (codes "express card 1 ") _ (search arith) (numbers_no_lf h [] is tt)
card_no_lf h is (Some day) e =
    let d : IsDay day = subst (λ (u : Option Day). IfSome u IsDay) e is.until in
    let behind = HasNoLf-append (codes " ") (day_text day) (search arith) (day_no_lf day d) in
    HasNoLf-append (codes "express card 2 ") _ (search arith) (numbers_no_lf h _ is behind)

head_no_lf : (head : Head) → IsHead head → HasNoLf (head_text head)
head_no_lf (Card h) is = card_no_lf h is h.until refl
head_no_lf (Pair h) is =
    let width = is.width.most in let order = is.lanes.order in let last = is.lanes.last in let few = is.few in
    let lane = is.lane in
    let tail1 = spaced_last h.to (omega (arith, last)) in
    let tail2 = spaced h.from _ (omega (arith, order, last)) tail1 in
    let tail3 = spaced h.lane _ (omega (arith, lane)) tail2 in
    let tail4 = spaced h.boxes _ (omega (arith, few)) tail3 in
    HasNoLf-append (codes "express pair 1 ") _ (search arith) (HasNoLf-append (decimal h.width) _ (HasNoLf-decimal h.width (omega (arith, width))) tail4)

byte_no_lf : (b : ℕ) → is_place_byte b ≡ true → b ≢ 10
byte_no_lf b h e = grind (arith, nat_tests)

pub bytes_no_lf : (text : List ℕ) → list_all is_place_byte text ≡ true → HasNoLf text
bytes_no_lf [] h = tt
bytes_no_lf (b ∷ text) h =
    let p = and_parts (is_place_byte b) (list_all is_place_byte text) h in
    ((λ e. byte_no_lf b p.0 e), bytes_no_lf text p.1)

abbrev pub AreLfFree : List (List ℕ) → Type 0
AreLfFree [] = Unit {0}
AreLfFree (line ∷ lines) = HasNoLf line × AreLfFree lines

pub addresses_no_lf : (addresses : List ℕ) → AreLfFree (map address_text addresses)
addresses_no_lf [] = tt
addresses_no_lf (a ∷ addresses) =
    (HasNoLf-append (codes "address ") (address_digits a) (search arith) (HasNoLf-encode_with lower_digits _ HasNoLf-digits), addresses_no_lf addresses)

contents_no_lf : (s : Sheet) → IsSheet s → AreLfFree (contents s)
contents_no_lf s is = (
  head_no_lf s.head is.head,
  (
    HasNoLf-append (codes "leader ") s.leader (search arith) (bytes_no_lf s.leader (place_bytes s.leader is.leader)),
    (
      HasNoLf-append (codes "helper ") s.helper (search arith) (bytes_no_lf s.helper (place_bytes s.helper is.helper)),
      addresses_no_lf s.addresses,
    ),
  ),
)

-- ---- check words

digit_not_lf : (x : ℕ) → digit_of x ≢ 10
digit_not_lf x e = absurd (omega (arith, e))

word_no_lf : (said : List ℕ) → HasNoLf (check_word said)
unfolding check_word
word_no_lf said =
    let d : List ℕ = sha256 said in (
      (λ e. absurd (omega (arith, e))),
      (
        digit_not_lf (get_or d 0 0),
        (
          digit_not_lf (get_or d 1 0),
          (
            digit_not_lf (get_or d 2 0),
            (digit_not_lf (get_or d 3 0), (digit_not_lf (get_or d 4 0), tt)),
          ),
        ),
      ),
    )

last_shows : (said : List ℕ) → is_blank (get_or (check_word said) 5 0) ≡ false
unfolding check_word
last_shows said = not_blank (get_or (sha256 said) 4 0)
  where
    not_blank : (x : ℕ) → is_blank (digit_of x) ≡ false
    not_blank x = let low : 48 ≤ digit_of x = omega arith in shown (digit_of x) low
      where
        shown : (b : ℕ) → 48 ≤ b → is_blank b ≡ false
        shown b h = grind (arith, nat_tests)

-- nothing is cut off a line with its check word
stays : (said content : List ℕ) → trimmed (checked said content) ≡ checked said content
stays said content =
    let word : List ℕ = check_word (with_content said content) in
    let len : length (content ++ word) ≡ length content + 6 =
    omega (arith, length-append content word, length-check_word (with_content said content)) in
    let at : get_or (content ++ word) (length (content ++ word) - 1) 0 ≡ get_or word 5 0 =
    ap (λ i. get_or (content ++ word) i 0) (let e : length (content ++ word) - 1 ≡ length content + 5 = omega (arith, len) in e)
    ∙ past content word in
    trim_other (content ++ word) (omega (arith, len)) (ap is_blank at ∙ last_shows (with_content said content))
  where
    past : (xs ys : List ℕ) → get_or (xs ++ ys) (length xs + 5) 0 ≡ get_or ys 5 0
    past [] ys = refl
    past (x ∷ xs) ys =
        ap (λ i. get_or (x ∷ (xs ++ ys)) i 0) (let e : suc (length xs) + 5 ≡ suc (length xs + 5) = omega arith in e)
        ∙ past xs ys

pub all_stay : (said : List ℕ) (contents : List (List ℕ))
    → map trimmed (checked_lines said contents) ≡ checked_lines said contents
all_stay said [] = refl
all_stay said (content ∷ contents) =
    ap (λ (t : List ℕ). t ∷ map trimmed (checked_lines (with_content said content) contents)) (stays said content)
    ∙ ap (λ (ts : List (List ℕ)). checked said content ∷ ts) (all_stay (with_content said content) contents)

pub are_lines : (said : List ℕ) (contents : List (List ℕ)) → AreLfFree contents
    → AreLines (checked_lines said contents) (printed_from said contents)
unfolding printed_from
are_lines said [] h = refl
are_lines said (content ∷ []) h = (
  HasNoLf-append content _ h.0 (word_no_lf (with_content said content)),
  inl (append-nil (checked said content ++ 10 ∷ [])),
)
are_lines said (content ∷ next ∷ contents) h = (
  HasNoLf-append content _ h.0 (word_no_lf (with_content said content)),
  (
    printed_from (with_content said content) (next ∷ contents),
    append_assoc (checked said content) (10 ∷ []) (printed_from (with_content said content) (next ∷ contents)),
    are_lines (with_content said content) (next ∷ contents) h.1,
  ),
)

-- ---- a printed sheet begins with its first line

begins_by : (word rest : List ℕ) → is_some (after word (word ++ rest)) ≡ true
begins_by word rest = ap is_some (after_only word rest)

pub begins_card : (rest : List ℕ) → begins_sheet (codes "express card " ++ rest) ≡ true
begins_card rest = rw (begins_by (codes "express card ") rest) refl

pub begins_pair : (rest : List ℕ) → begins_sheet (codes "express pair " ++ rest) ≡ true
begins_pair rest = rw (begins_by (codes "express pair ") rest) (some_or (is_some (after (codes "express card ") (codes "express pair " ++ rest))))
  where
    some_or : (t : Bool) → t || true ≡ true
    some_or true = refl
    some_or false = refl

head_begins : (head : Head) (rest : List ℕ) → begins_sheet (head_text head ++ rest) ≡ true
head_begins (Card h) rest = at_until h.until
  where
    at_until : (u : Option Day) → begins_sheet (card_text_by h u ++ rest) ≡ true
    at_until None = begins_card _
    at_until (Some day) = begins_card _
head_begins (Pair h) rest = begins_pair _

pub nothing_before : (line : List ℕ) (lines : List (List ℕ)) → begins_sheet line ≡ true
    → from_first (line ∷ lines) ≡ line ∷ lines
nothing_before line lines begins =
    ap (λ k. drop k (line ∷ lines)) (sym (line_found 0 line (line ∷ lines) (line ∷ lines) lines (omega arith) refl begins (from_start (line ∷ lines))))

-- reading what is printed of a sheet gives it again
pub prints_again : (s : Sheet) → IsSheet s → sheet_of (lines_in (printed s)) ≡ Ok s
prints_again s is =
    let lines : lines_in (printed s) ≡ checked_lines [] (contents s) =
    ap (λ (ls : List (List ℕ)). map trimmed ls)
    (lines_only (checked_lines [] (contents s)) (printed s) (are_lines [] (contents s) (contents_no_lf s is)))
    ∙ all_stay [] (contents s) in
    is_only (printed s) s (record {
      sheet = is;
      behind = [];
      lines = ap from_first lines ∙ nothing_before _ _ (head_begins s.head _)
          ∙ sym (append-nil (checked_lines [] (contents s)));
    })

-- ---- the loop over the addresses

pub one_more : (text said content : List ℕ) (contents : List (List ℕ))
    → (text ++ ((content ++ check_word (with_content said content)) ++ 10 ∷ [])) ++ printed_from (with_content said content) contents
    ≡ text ++ printed_from said (content ∷ contents)
unfolding printed_from
one_more text said content contents =
    append_assoc text ((content ++ check_word (with_content said content)) ++ 10 ∷ []) (printed_from (with_content said content) contents)

pub no_more : (text said : List ℕ) → text ++ printed_from said [] ≡ text
unfolding printed_from
no_more text said = append-nil text

pub map_drop : (addresses : List ℕ) (i : ℕ) → i < length addresses
    → map address_text (drop i addresses)
    ≡ address_text (get_or addresses i 0) ∷ map address_text (drop (i + 1) addresses)
map_drop [] i h = absurd (omega (arith, h))
map_drop (a ∷ addresses) zero h = refl
map_drop (a ∷ addresses) (suc i) h =
    map_drop addresses i (omega (arith, h))
    ∙ ap (λ k. address_text (get_or addresses i 0) ∷ map address_text (drop k (a ∷ addresses)))
    (let e : suc (i + 1) ≡ suc i + 1 = omega arith in e)
