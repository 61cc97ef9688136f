-- A number is found exactly where it is spelled so.
use Rattle.std.proofs.Common.{◌≡◌, ◌≢◌, ℕ, zero, suc, ◌+◌, ◌-◌, ◌*◌, ◌<◌, ◌≤◌, ◌^◌, nat_eq, nat_le, ◌&&◌, Bool, true, false, cond, List, [], ◌∷◌, ◌++◌, get_or, Some, None, arith, rules, refl, sym, ◌∙◌, ap, subst, append-nil}
use Rattle.std.specs.Char.{is_ascii_digit}
use Rattle.std.specs.Str.{all_ascii_digits}
use Rattle.std.specs.Fmt.{decimal}
use Rattle.std.proofs.lemmas.Str.Parse.{IsNumeralModel, numerals_by_fold}
use Rattle.std.proofs.lemmas.Fmt.{decimal-digits_value, digits_value-decimal, digits_decimal, first_decimal, decimal_digit}
use Rattle.std.proofs.lemmas.Bool.{eqb-true, eqb-false, ne_eqb, le-leb, leb-true}
use Rattle.std.proofs.lemmas.Grind.{common_steps}
use Rattle.express_texts.specs.LineFields.{◌>>=◌, end}
use Rattle.express_texts.specs.Numbers.{digits_on, within, number_at, last_number}
use Rattle.express_texts.proofs.FieldLaws.{bind_some}

-- digits in front
abbrev pub read_on : ℕ → List ℕ → ℕ
read_on n [] = n
read_on n (c ∷ cs) = read_on (10 * n + (c - 48)) cs

pub numerals : IsNumeralModel (λ ds. all_ascii_digits ds ≡ true) (read_on 0)
numerals = numerals_by_fold _ (search rules) read_on (search rules)

digits_found : (n : ℕ) (bytes : List ℕ)
    → (front : List ℕ) × (bytes ≡ front ++ (digits_on n bytes).1) × (all_ascii_digits front ≡ true)
    × ((digits_on n bytes).0 ≡ read_on n front)
unfolding digits_on
digits_found n [] = ([], refl, refl, refl)
digits_found n (b ∷ bytes) = at_test (is_ascii_digit b) refl (digits_found (10 * n + (b - 48)) bytes)
  where
    at_test : (t : Bool) → is_ascii_digit b ≡ t
        → (front : List ℕ) × (bytes ≡ front ++ (digits_on (10 * n + (b - 48)) bytes).1)
        × (all_ascii_digits front ≡ true)
        × ((digits_on (10 * n + (b - 48)) bytes).0 ≡ read_on (10 * n + (b - 48)) front)
        → (front : List ℕ) × (b ∷ bytes ≡ front
        ++ (cond t (digits_on (10 * n + (b - 48)) bytes) (n, b ∷ bytes)).1)
        × (all_ascii_digits front ≡ true)
        × ((cond t (digits_on (10 * n + (b - 48)) bytes) (n, b ∷ bytes)).0 ≡ read_on n front)
    at_test true e h = (b ∷ h.0, ap (λ xs. b ∷ xs) h.1, rw (e, h.2) refl, h.3)
    at_test false e h = ([], refl, refl, refl)

-- no digit goes on
abbrev pub NoDigit : List ℕ → Type 0
NoDigit [] = Unit {0}
NoDigit (b ∷ bytes) = is_ascii_digit b ≡ false

digits_only : (n : ℕ) (front rest : List ℕ) → all_ascii_digits front ≡ true → NoDigit rest
    → digits_on n (front ++ rest) ≡ (read_on n front, rest)
unfolding digits_on
digits_only n [] [] all none = refl
digits_only n [] (b ∷ rest) all none = rw none refl
digits_only n (c ∷ front) rest all none =
    let here : is_ascii_digit c ≡ true = grind (arith, common_steps) in
    let others : all_ascii_digits front ≡ true = grind (arith, common_steps) in
    rw (here, digits_only (10 * n + (c - 48)) front rest others none) refl

-- a number in front
within_some : (low high : ℕ) (r s : ℕ × List ℕ) → within low high r ≡ Some s
    → (r ≡ s) × (low ≤ r.0) × (r.0 ≤ high)
within_some low high r s h = at_test (nat_le low r.0) (nat_le r.0 high) refl refl h
  where
    at_test : (t u : Bool) → nat_le low r.0 ≡ t → nat_le r.0 high ≡ u → cond (t && u) (Some r) None ≡ Some s
        → (r ≡ s) × (low ≤ r.0) × (r.0 ≤ high)
    at_test true true e f k = (cc, leb-true _ _ e, leb-true _ _ f)
    at_test true false e f k = cc
    at_test false u e f k = cc

within_only : (low high : ℕ) (r : ℕ × List ℕ) → low ≤ r.0 → r.0 ≤ high → within low high r ≡ Some r
within_only low high r h k = rw (le-leb _ _ h, le-leb _ _ k) refl

pub record Numbers (low high : ℕ) (bytes : List ℕ) (found : ℕ × List ℕ) : Type 0 where
  pub text : bytes ≡ decimal found.0 ++ found.1
  pub at_least : low ≤ found.0
  pub at_most : found.0 ≤ high

number_of_digits : (low high b : ℕ) (bytes : List ℕ) (found : ℕ × List ℕ) → high < 2 ^ 64 → b ≢ 48
    → is_ascii_digit b ≡ true
    → within low high (digits_on (b - 48) bytes) ≡ Some found → Numbers low high (b ∷ bytes) found
number_of_digits low high b bytes found small other digit h =
    let w = within_some low high (digits_on (b - 48) bytes) found h in
    let d = digits_found (b - 48) bytes in
    let front = d.0 in
    let start : 10 * 0 + (b - 48) ≡ b - 48 = omega arith in
    let value : read_on 0 (b ∷ front) ≡ found.0 = ap (λ n. read_on n front) start ∙ sym d.3
    ∙ ap (λ r. r.0) w.0 in
    let digits : all_ascii_digits (b ∷ front) ≡ true = rw (digit, d.2) refl in
    let size : found.0 < 2 ^ 64 =
    let e : (digits_on (b - 48) bytes).0 ≡ found.0 = ap (λ r. r.0) w.0 in omega (arith, w.2, e, small) in
    let again : decimal (read_on 0 (b ∷ front)) ≡ b ∷ front =
    decimal-digits_value numerals (b ∷ front) digits (omega arith) (λ e. absurd (other e)) (rw value size) in
    record {
      text = ap (λ xs. b ∷ xs) (d.1 ∙ ap (λ r. front ++ r.1) w.0)
          ∙ ap (λ xs. xs ++ found.1) (sym again ∙ ap decimal value);
      at_least = subst (λ (n : ℕ). low ≤ n) (ap (λ r. r.0) w.0) w.1;
      at_most = subst (λ (n : ℕ). n ≤ high) (ap (λ r. r.0) w.0) w.2;
    }

pub number_found : (low high : ℕ) (bytes : List ℕ) (found : ℕ × List ℕ) → high < 2 ^ 64
    → number_at low high bytes ≡ Some found → Numbers low high bytes found
unfolding number_at
number_found low high [] found small h = cc
number_found low high (b ∷ bytes) found small h = at_test (nat_eq b 48) (is_ascii_digit b) refl refl h
  where
    at_test : (t u : Bool) → nat_eq b 48 ≡ t → is_ascii_digit b ≡ u
        → cond t (within low high (0, bytes))
        (cond u (within low high (digits_on (b - 48) bytes)) None) ≡ Some found
        → Numbers low high (b ∷ bytes) found
    at_test true u e f k =
        let w = within_some low high (0, bytes) found k in
        subst (λ (r : ℕ × List ℕ). Numbers low high (b ∷ bytes) r) w.0
        (record {
          text = ap (λ x. x ∷ bytes) (eqb-true b 48 e)
              ∙ ap (λ d. d ++ bytes) (sym (decimal_digit 0 (omega arith)));
          at_least = w.1;
          at_most = w.2;
        })
    at_test false true e f k = number_of_digits low high b bytes found small (eqb-false b 48 e) f k
    at_test false false e f k = cc

number_at_digits : (low high n b : ℕ) (ds rest : List ℕ) → low ≤ n → n ≤ high → NoDigit rest → 48 < b
    → all_ascii_digits (b ∷ ds) ≡ true → read_on 0 (b ∷ ds) ≡ n
    → number_at low high (b ∷ (ds ++ rest)) ≡ Some (n, rest)
unfolding number_at
number_at_digits low high n b ds rest h k none first all value =
    let other : nat_eq b 48 ≡ false = ne_eqb b 48 (λ e. omega (arith, e, first)) in
    let digit : is_ascii_digit b ≡ true = grind (arith, common_steps) in
    let others : all_ascii_digits ds ≡ true = grind (arith, common_steps) in
    let start : b - 48 ≡ 10 * 0 + (b - 48) = omega arith in
    let whole : digits_on (b - 48) (ds ++ rest) ≡ (n, rest) = digits_only (b - 48) ds rest others none
    ∙ ap (λ m. (m, rest)) (ap (λ m. read_on m ds) start ∙ value) in
    rw (other, digit, whole) (within_only low high (n, rest) h k)

number_at_zero : (low high : ℕ) (rest : List ℕ) → low ≤ 0 → number_at low high (48 ∷ rest) ≡ Some (0, rest)
unfolding number_at
number_at_zero low high rest h = within_only low high (0, rest) h (omega arith)

pub number_only : (low high n : ℕ) (rest : List ℕ) → high < 2 ^ 64 → low ≤ n → n ≤ high → NoDigit rest
    → number_at low high (decimal n ++ rest) ≡ Some (n, rest)
number_only low high zero rest small h k none =
    rw (decimal_digit 0 (omega arith)) (number_at_zero low high rest h)
number_only low high (suc m) rest small h k none =
    shape (decimal (suc m)) (first_decimal (suc m) (omega arith) (omega arith))
    (digits_decimal numerals (suc m) (omega arith)) (digits_value-decimal numerals (suc m) (omega arith))
  where
    shape : (ds : List ℕ) → 48 < get_or ds 0 0 → all_ascii_digits ds ≡ true → read_on 0 ds ≡ suc m
        → number_at low high (ds ++ rest) ≡ Some (suc m, rest)
    shape [] first all value = absurd (omega (arith, first))
    shape (b ∷ ds) first all value = number_at_digits low high (suc m) b ds rest h k none first all value

pub last_found : (low high : ℕ) (bytes : List ℕ) (n : ℕ) → high < 2 ^ 64
    → last_number low high bytes ≡ Some n → (bytes ≡ decimal n) × (low ≤ n) × (n ≤ high)
unfolding last_number
last_found low high bytes n small h =
    let a = bind_some (number_at low high bytes) (λ r. end r.1 >>= λ u. Some r.0) n h in
    let f = number_found low high bytes a.0 small a.1 in
    at_rest a.0 f a.2
  where
    at_rest : (r : ℕ × List ℕ) → Numbers low high bytes r → (end r.1 >>= λ u. Some r.0) ≡ Some n
        → (bytes ≡ decimal n) × (low ≤ n) × (n ≤ high)
    at_rest (m, []) f k = let e : m ≡ n = cc in
        subst (λ (x : ℕ). (bytes ≡ decimal x) × (low ≤ x) × (x ≤ high)) e (
          f.text
              ∙ append-nil (decimal m),
          f.at_least,
          f.at_most,
        )
    at_rest (m, x ∷ xs) f k = cc

pub last_only : (low high n : ℕ) → high < 2 ^ 64 → low ≤ n → n ≤ high
    → last_number low high (decimal n) ≡ Some n
unfolding last_number
last_only low high n small h k =
    rw (sym (append-nil (decimal n)), number_only low high n [] small h k tt) refl
