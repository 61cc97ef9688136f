-- The digits at the end of what is printed.
use Rattle.std.proofs.Common.{◌≡◌, ℕ, zero, suc, ◌+◌, ◌-◌, ◌%◌, ◌<◌, ◌≤◌, true, List, [], ◌∷◌, ◌++◌, length, get_or, take, drop, refl, sym, ap, subst, ◌∙◌, arith, append_assoc, append-nil}
use Rattle.std.specs.Char.{is_ascii_digit}
use Rattle.std.specs.Str.{all_ascii_digits, IsAscii, IsUtf8}
use Rattle.std.proofs.lemmas.Bool.{and_parts}
use Rattle.std.proofs.lemmas.Bool.Decides.{nat_tests}
use Rattle.std.proofs.lemmas.List.{take_at, drop_at, length-append}
use Rattle.std.proofs.lemmas.Str.{IsUtf8-from_ascii}
use Rattle.sha2.specs.Sha256.{sha256}
use Rattle.desk_texts.specs.declared.sheet.Sheet.{Sheet}
use Rattle.desk_texts.specs.Checks.{with_content, digit_of, check_word, checked}
use Rattle.desk_texts.specs.Printing.{printed_from, printed, check_digits}
use Rattle.desk_texts.specs.Spelling.{contents}

digits_ascii : (digits : List ℕ) → all_ascii_digits digits ≡ true → IsAscii digits
digits_ascii [] h i = omega arith
digits_ascii (d ∷ digits) h zero = low d (and_parts (is_ascii_digit d) (all_ascii_digits digits) h).0
  where
    low : (b : ℕ) → is_ascii_digit b ≡ true → b < 128
    low b k = grind (arith, nat_tests)
digits_ascii (d ∷ digits) h (suc i) =
    digits_ascii digits (and_parts (is_ascii_digit d) (all_ascii_digits digits) h).1 i

pub digits_utf8 : (digits : List ℕ) → all_ascii_digits digits ≡ true → IsUtf8 digits
digits_utf8 digits h = IsUtf8-from_ascii digits (digits_ascii digits h)

-- a text that ends with five digits and an LF
pub record EndsWithDigits (text : List ℕ) : Type 0 where
  pub front : List ℕ
  pub digits : List ℕ
  pub text_is : text ≡ front ++ (digits ++ 10 ∷ [])
  pub five : length digits ≡ 5
  pub all : all_ascii_digits digits ≡ true

digit_is : (x : ℕ) → is_ascii_digit (digit_of x) ≡ true
digit_is x = low_digit (x % 10) (omega arith)
  where
    low_digit : (n : ℕ) → n < 10 → is_ascii_digit (48 + n) ≡ true
    low_digit n low = grind (arith, nat_tests)

line_ends : (said content : List ℕ) → EndsWithDigits (checked said content ++ 10 ∷ [])
unfolding check_word
line_ends said content =
    let d : List ℕ = sha256 (with_content said content) in
    record {
      front = content ++ 32 ∷ [];
      digits = digit_of (get_or d 0 0) ∷ (digit_of (get_or d 1 0) ∷ (digit_of (get_or d 2 0) ∷ (digit_of (get_or d 3 0) ∷ (digit_of (get_or d 4 0) ∷ []))));
      text_is = append_assoc content (check_word (with_content said content)) (10 ∷ [])
          ∙ sym (append_assoc content (32 ∷ []) _);
      five = refl;
      all = rw (digit_is (get_or d 0 0), digit_is (get_or d 1 0), digit_is (get_or d 2 0), digit_is (get_or d 3 0), digit_is (get_or d 4 0)) refl;
    }

behind : (front text : List ℕ) → EndsWithDigits text → EndsWithDigits (front ++ text)
behind front text e = record {
  front = front ++ e.front;
  digits = e.digits;
  text_is = ap (λ (t : List ℕ). front ++ t) e.text_is ∙ sym (append_assoc front e.front (e.digits ++ 10 ∷ []));
  five = e.five;
  all = e.all;
}

pub ends : (said content : List ℕ) (contents : List (List ℕ)) → EndsWithDigits (printed_from said (content ∷ contents))
unfolding printed_from
ends said content [] = subst EndsWithDigits (sym (append-nil (checked said content ++ 10 ∷ []))) (line_ends said content)
ends said content (next ∷ contents) =
    behind (checked said content ++ 10 ∷ []) _ (ends (with_content said content) next contents)

sheet_ends : (s : Sheet) → EndsWithDigits (printed s)
sheet_ends s = ends [] _ _

pub long_text : (text : List ℕ) → EndsWithDigits text → 6 ≤ length text
long_text text e =
    let five = e.five in
    let len : length text ≡ length e.front + (length e.digits + 1) =
    ap length e.text_is ∙ length-append e.front _ ∙ ap (λ n. length e.front + n) (length-append e.digits (10 ∷ [])) in
    omega (arith, len, five)

-- and between the sixth byte from the end and the last
pub between : (text : List ℕ) (e : EndsWithDigits text) → take 5 (drop (length text - 6) text) ≡ e.digits
between text e =
    let five = e.five in
    let len : length text ≡ length e.front + (length e.digits + 1) =
    ap length e.text_is ∙ length-append e.front _ ∙ ap (λ n. length e.front + n) (length-append e.digits (10 ∷ [])) in
    let at : length text - 6 ≡ length e.front = omega (arith, len, five) in
    ap (λ n. take 5 (drop n text)) at ∙ ap (λ (t : List ℕ). take 5 (drop (length e.front) t)) e.text_is
    ∙ ap (take 5) (drop_at e.front (e.digits ++ 10 ∷ []) (length e.front) refl)
    ∙ take_at e.digits (10 ∷ []) 5 five

digits_are : (s : Sheet) (e : EndsWithDigits (printed s)) → check_digits s ≡ e.digits
unfolding check_digits
digits_are s e = between (printed s) e

pub is_long : (s : Sheet) (text : List ℕ) → text ≡ printed s → 6 ≤ length text
is_long s text is = subst (λ (t : List ℕ). 6 ≤ length t) (sym is) (long_text (printed s) (sheet_ends s))

pub cut_out : (s : Sheet) (text bytes : List ℕ) → text ≡ printed s
    → bytes ≡ take 5 (drop (length text - 6) text) → bytes ≡ check_digits s
unfolding check_digits
cut_out s text bytes is cut = cut ∙ ap (λ (t : List ℕ). take 5 (drop (length t - 6) t)) is

pub five_digits : (s : Sheet) → length (check_digits s) ≡ 5
five_digits s = let e = sheet_ends s in ap length (digits_are s e) ∙ e.five

pub only_digits : (s : Sheet) → all_ascii_digits (check_digits s) ≡ true
only_digits s = let e = sheet_ends s in ap all_ascii_digits (digits_are s e) ∙ e.all
