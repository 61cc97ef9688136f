-- Days of the calendar: their numbers and their texts.
use Rattle.std.proofs.Common.{◌≡◌, ℕ, ◌+◌, ◌-◌, ◌*◌, ◌/◌, ◌%◌, ◌^◌, ◌<◌, ◌≤◌, ◌⊎◌, inl, inr, ◌&&◌, Bool, true, false, cond, List, [], ◌∷◌, ◌++◌, length, Option, Some, None, codes, refl, sym, ap, subst, ◌∙◌, arith, append_assoc, append-nil, ℤ, pos, negsuc, ◌<ℤ◌, unsigned_abs}
use Rattle.std.specs.Prelude.{IsTrue, ◌↔◌, Result, Ok, Err, IfOk}
use Rattle.std.specs.Char.{is_ascii_digit}
use Rattle.std.specs.Fmt.{decimal, char_count, padded_integral, format_spec}
use Rattle.std.proofs.lemmas.Bool.{and_parts, cases_lt}
use Rattle.std.proofs.lemmas.Bool.Decides.{nat_tests}
use Rattle.std.proofs.lemmas.Fmt.{decimal_digit, decimal_step}
use Rattle.jiff_core.specs.declared.civil.date.Date.{Date}
use Rattle.jiff_core.specs.Calendar.{IsYear}
use Rattle.jiff_core.specs.Date.{epoch_day}
use Rattle.jiff_core.proofs.CalendarLemmas.{days_in_month_bounds, days_from_civil-day_count, day_count-epoch}
use Rattle.jiff_core.proofs.DateLemmas.{cases_date, epoch_day-lt, epoch_day_same, IsEarlier}
use Rattle.jiff_core.proofs.SignedLemmas.{signed_arith}
use Rattle.express_texts.specs.LineFields.{after}
use Rattle.express_texts.proofs.FieldLaws.{bind_some, after_found, after_only}
use Rattle.desk_texts.specs.declared.day.Day.{Day}
use Rattle.desk_texts.specs.Days.{IsDay, is_day, number_of, is_after, zero_filled, day_text, SpellsDay, JudgesDay, two_digits, last_day, day_of}

-- ---- numbers of days

-- the day as the kit's date
abbrev date_of : (d : Day) → IsDay d → Date
date_of d is =
    let year = is.year in
    record {
      year = pos d.year;
      month = d.month;
      day = d.day;
      year_in = (omega (arith, signed_arith), omega (arith, signed_arith, year));
      month_in = (is.first_month, is.last_month);
      day_in = (is.first, is.last);
    }

first_is : IsDay (record { year = 1970; month = 1; day = 1 })
first_is = record {
  year = omega arith;
  first_month = omega arith;
  last_month = omega arith;
  first = omega arith;
  last = omega arith;
}

-- the day that numbers are counted from
abbrev epoch : Date
epoch = date_of (record { year = 1970; month = 1; day = 1 }) first_is

epoch_is : epoch_day epoch ≡ pos 0
epoch_is = omega (arith, signed_arith, days_from_civil-day_count (pos 1970) 1 1, day_count-epoch)

pub short_year : (y : ℤ) → IsYear y → unsigned_abs y < 2 ^ 15
short_year (pos y) h = omega (arith, signed_arith, h.1)
short_year (negsuc y) h = omega (arith, signed_arith, h.0)

-- a day from 1970 on has no negative year
pub year_is : (d : Date) (n : ℕ) → epoch_day d ≡ pos n → pos (unsigned_abs d.year) ≡ d.year
year_is d n is = at_year d.year refl
  where
    at_year : (y : ℤ) → d.year ≡ y → pos (unsigned_abs y) ≡ y
    at_year (pos y) e = refl
    at_year (negsuc y) e =
        let early : IsEarlier d epoch = inl (omega (arith, signed_arith, e)) in
        let before = epoch_day-lt d epoch early in
        absurd (omega (arith, signed_arith, before, is, epoch_is))

ends_before : (d e : Day) (x : IsDay d) (y : IsDay e) → IsEarlier (date_of d x) (date_of e y) → is_after d e ≡ false
ends_before d e x y (inl year) =
    let lt : d.year < e.year = omega (arith, signed_arith, year) in grind (arith, nat_tests)
ends_before d e x y (inr (year, inl month)) =
    let same : d.year ≡ e.year = omega (arith, signed_arith, year) in grind (arith, nat_tests)
ends_before d e x y (inr (year, inr day)) =
    let same : d.year ≡ e.year = omega (arith, signed_arith, year) in grind (arith, nat_tests)

comes_behind : (d e : Day) (x : IsDay d) (y : IsDay e) → IsEarlier (date_of e y) (date_of d x) → is_after d e ≡ true
comes_behind d e x y (inl year) =
    let lt : e.year < d.year = omega (arith, signed_arith, year) in grind (arith, nat_tests)
comes_behind d e x y (inr (year, inl month)) =
    let same : d.year ≡ e.year = omega (arith, signed_arith, year) in grind (arith, nat_tests)
comes_behind d e x y (inr (year, inr day)) =
    let same : d.year ≡ e.year = omega (arith, signed_arith, year) in grind (arith, nat_tests)

is_same : (d e : Day) → d.year ≡ e.year → d.month ≡ e.month → d.day ≡ e.day → is_after d e ≡ false
is_same d e year month day = grind (arith, nat_tests)

-- the order of days is that of their numbers
pub after_so : (b : Bool) (d e : Day) → b ≡ is_after d e → IsDay d → IsDay e
    → IsTrue b ↔ (number_of e <ℤ number_of d)
after_so b d e h x y = rw h (at_order (cases_date (date_of d x) (date_of e y)))
  where
    at_order : IsEarlier (date_of d x) (date_of e y) ⊎ (IsEarlier (date_of e y) (date_of d x) ⊎ ((pos d.year ≡ pos e.year) × (d.month ≡ e.month) × (d.day ≡ e.day))) → IsTrue (is_after d e) ↔ (number_of e <ℤ number_of d)
    at_order (inl lt) =
        let less = epoch_day-lt (date_of d x) (date_of e y) lt in
        rw (ends_before d e x y lt) ((λ t. cc), (λ gt. absurd (omega (arith, signed_arith, less, gt))))
    at_order (inr (inl gt)) = rw (comes_behind d e x y gt) ((λ t. epoch_day-lt (date_of e y) (date_of d x) gt), (λ lt. refl))
    at_order (inr (inr same)) =
        let years : d.year ≡ e.year = omega (arith, signed_arith, same.0) in
        let numbers = epoch_day_same (date_of d x) (date_of e y) same.0 same.1 same.2 in
        rw (is_same d e years same.1 same.2) ((λ t. cc), (λ gt. absurd (omega (arith, signed_arith, numbers, gt))))

-- ---- numbers in digits

-- what is printed of a number with zeros in front, to its width
pub pads : (width n : ℕ) → padded_integral (format_spec 32 0 4 width (2 ^ 64 - 1)) false [] (decimal n) ≡ zero_filled width n
unfolding padded_integral char_count
pads width n =
    let none : width - length (decimal n) - 0 - 0 ≡ width - length (decimal n) = omega arith in
    rw (none, append-nil (decimal n)) refl

digit_bounds : (b : ℕ) → is_ascii_digit b ≡ true → (48 ≤ b) × (b ≤ 57)
digit_bounds b h = grind (arith, nat_tests)

two_is : (n : ℕ) → n < 100 → zero_filled 2 n ≡ (48 + n / 10) ∷ ((48 + n % 10) ∷ [])
two_is n small = at_size (cases_lt n 10)
  where
    at_size : (n < 10) ⊎ (10 ≤ n) → zero_filled 2 n ≡ (48 + n / 10) ∷ ((48 + n % 10) ∷ [])
    at_size (inl one) =
        let high : n / 10 ≡ 0 = omega arith in
        let low : n % 10 ≡ n = omega arith in
        rw (decimal_digit n one, high, low) refl
    at_size (inr two) = rw (decimal_step n two (omega arith), decimal_digit (n / 10) (omega arith)) refl

four_is : (n : ℕ) → n < 10000 → zero_filled 4 n ≡ zero_filled 2 (n / 100) ++ zero_filled 2 (n % 100)
four_is n small = rw (two_is (n / 100) (omega arith), two_is (n % 100) (omega arith)) (at_size (cases_lt n 10) (cases_lt n 100) (cases_lt n 1000))
  where
    at_size : (n < 10) ⊎ (10 ≤ n) → (n < 100) ⊎ (100 ≤ n) → (n < 1000) ⊎ (1000 ≤ n)
        → zero_filled 4 n ≡ (48 + n / 100 / 10) ∷ ((48 + n / 100 % 10) ∷ []) ++ (48 + n % 100 / 10) ∷ ((48 + n % 100 % 10) ∷ [])
    at_size (inl one) q r =
        let a : n / 100 / 10 ≡ 0 = omega arith in
        let b : n / 100 % 10 ≡ 0 = omega arith in
        let c : n % 100 / 10 ≡ 0 = omega arith in
        let d : n % 100 % 10 ≡ n = omega arith in
        rw (decimal_digit n one, a, b, c, d) refl
    at_size (inr one) (inl two) r =
        let a : n / 100 / 10 ≡ 0 = omega arith in
        let b : n / 100 % 10 ≡ 0 = omega arith in
        let c : n % 100 / 10 ≡ n / 10 = omega arith in
        let d : n % 100 % 10 ≡ n % 10 = omega arith in
        rw (decimal_step n one (omega arith), decimal_digit (n / 10) (omega arith), a, b, c, d) refl
    at_size (inr one) (inr two) (inl three) =
        let a : n / 100 / 10 ≡ 0 = omega arith in
        let b : n / 100 % 10 ≡ n / 10 / 10 = omega arith in
        let c : n % 100 / 10 ≡ n / 10 % 10 = omega arith in
        let d : n % 100 % 10 ≡ n % 10 = omega arith in
        rw (decimal_step n one (omega arith), decimal_step (n / 10) (omega arith) (omega arith), decimal_digit (n / 10 / 10) (omega arith), a, b, c, d) refl
    at_size (inr one) (inr two) (inr three) =
        let a : n / 100 / 10 ≡ n / 10 / 10 / 10 = omega arith in
        let b : n / 100 % 10 ≡ n / 10 / 10 % 10 = omega arith in
        let c : n % 100 / 10 ≡ n / 10 % 10 = omega arith in
        let d : n % 100 % 10 ≡ n % 10 = omega arith in
        rw (decimal_step n one (omega arith), decimal_step (n / 10) (omega arith) (omega arith), decimal_step (n / 10 / 10) (omega arith) (omega arith), decimal_digit (n / 10 / 10 / 10) (omega arith), a, b, c, d) refl

-- ---- reading

some_is : {A : Type 0} (x y : A) → Some x ≡ Some y → x ≡ y
some_is x y h = cc

is_digit : (n : ℕ) → n < 10 → is_ascii_digit (48 + n) ≡ true
is_digit n small = grind (arith, nat_tests)

record Pair (text : List ℕ) (r : ℕ × List ℕ) : Type 0 where
  text_is : text ≡ zero_filled 2 r.0 ++ r.1
  small : r.0 < 100

two_found : (text : List ℕ) (r : ℕ × List ℕ) → two_digits text ≡ Some r → Pair text r
unfolding two_digits
two_found [] r h = cc
two_found (a ∷ []) r h = cc
two_found (a ∷ b ∷ rest) r h = at_test (is_ascii_digit a && is_ascii_digit b) refl h
  where
    at_test : (t : Bool) → is_ascii_digit a && is_ascii_digit b ≡ t
        → cond t (Some (10 * (a - 48) + (b - 48), rest)) None ≡ Some r → Pair (a ∷ b ∷ rest) r
    at_test false e k = cc
    at_test true e k =
        let p = and_parts (is_ascii_digit a) (is_ascii_digit b) e in
        let x = digit_bounds a p.0 in
        let y = digit_bounds b p.1 in
        let n : ℕ = 10 * (a - 48) + (b - 48) in
        let small : n < 100 = omega (arith, x, y) in
        let first : 48 + n / 10 ≡ a = omega (arith, x, y) in
        let second : 48 + n % 10 ≡ b = omega (arith, x, y) in
        let found : Pair (a ∷ b ∷ rest) (n, rest) = record {
          text_is = ap (λ c. c ∷ b ∷ rest) (sym first) ∙ ap (λ c. (48 + n / 10) ∷ c ∷ rest) (sym second)
              ∙ ap (λ (t : List ℕ). t ++ rest) (sym (two_is n small));
          small = small;
        } in
        subst (λ (q : ℕ × List ℕ). Pair (a ∷ b ∷ rest) q) {x = (n, rest)} (some_is (n, rest) r k) found

two_only : (n : ℕ) (rest : List ℕ) → n < 100 → two_digits (zero_filled 2 n ++ rest) ≡ Some (n, rest)
unfolding two_digits
two_only n rest small =
    let first : is_ascii_digit (48 + n / 10) ≡ true = is_digit (n / 10) (omega arith) in
    let second : is_ascii_digit (48 + n % 10) ≡ true = is_digit (n % 10) (omega arith) in
    let same : 10 * (48 + n / 10 - 48) + (48 + n % 10 - 48) ≡ n = omega arith in
    rw (two_is n small, first, second, same) refl

day_bounds : (d : Day) → is_day d ≡ true → IsDay d
day_bounds d h = grind (arith, nat_tests)

day_passes : (d : Day) → IsDay d → is_day d ≡ true
day_passes d is = grind (arith, nat_tests)

-- a day of the calendar has two digits of months and of days
pub short_day : (d : Day) → IsDay d → (d.month < 100) × (d.day < 100)
short_day d is =
    let month = is.last_month in
    let last = is.last in
    (omega (arith, month), omega (arith, last, days_in_month_bounds (pos d.year) d.month))

abbrev no_more : List ℕ
no_more = []

last_found : (found d : Day) (rest : List ℕ) → last_day found rest ≡ Some d
    → (rest ≡ []) × (is_day found ≡ true) × (found ≡ d)
last_found found d (b ∷ rest) h = cc
last_found found d [] h = at_test (is_day found) refl h
  where
    at_test : (t : Bool) → is_day found ≡ t → cond t (Some found) None ≡ Some d
        → (no_more ≡ []) × (is_day found ≡ true) × (found ≡ d)
    at_test false e k = cc
    at_test true e k = (refl, e, some_is found d k)

-- the ten characters, put together
whole_text : (century year month day : ℕ) (text a b e f g : List ℕ) → Pair text (century, a) → Pair a (year, b)
    → b ≡ codes "-" ++ e → Pair e (month, f) → f ≡ codes "-" ++ g → Pair g (day, [])
    → text ≡ day_text (record { year = 100 * century + year; month = month; day = day })
whole_text century year month day text a b e f g p q dash r dash2 s =
    let n : ℕ = 100 * century + year in
    let c_small = p.small in
    let y_small = q.small in
    let high : n / 100 ≡ century = omega (arith, y_small) in
    let low : n % 100 ≡ year = omega (arith, y_small) in
    let front : zero_filled 4 n ≡ zero_filled 2 century ++ zero_filled 2 year =
    four_is n (omega (arith, c_small, y_small)) ∙ ap (λ k. zero_filled 2 k ++ zero_filled 2 (n % 100)) high
    ∙ ap (λ k. zero_filled 2 century ++ zero_filled 2 k) low in
    let back : b ≡ codes "-" ++ (zero_filled 2 month ++ (codes "-" ++ zero_filled 2 day)) =
    dash
    ∙ ap (λ (t : List ℕ). codes "-" ++ t) (r.text_is
    ∙ ap (λ (t : List ℕ). zero_filled 2 month ++ t) (dash2
    ∙ ap (λ (t : List ℕ). codes "-" ++ t) (s.text_is ∙ append-nil (zero_filled 2 day)))) in
    p.text_is
    ∙ ap (λ (t : List ℕ). zero_filled 2 century ++ t) (q.text_is ∙ ap (λ (t : List ℕ). zero_filled 2 year ++ t) back)
    ∙ sym (append_assoc (zero_filled 2 century) (zero_filled 2 year) (codes "-" ++ (zero_filled 2 month ++ (codes "-" ++ zero_filled 2 day))))
    ∙ ap (λ (t : List ℕ). t ++ (codes "-" ++ (zero_filled 2 month ++ (codes "-" ++ zero_filled 2 day)))) (sym front)

pub day_found : (text : List ℕ) (d : Day) → day_of text ≡ Some d → SpellsDay d text
unfolding day_of
day_found text d h =
    let century = bind_some (two_digits text) _ d h in
    let year = bind_some (two_digits century.0.1) _ d century.2 in
    let a = bind_some (after (codes "-") year.0.1) _ d year.2 in
    let month = bind_some (two_digits a.0) _ d a.2 in
    let b = bind_some (after (codes "-") month.0.1) _ d month.2 in
    let day = bind_some (two_digits b.0) _ d b.2 in
    let found : Day = record { year = 100 * century.0.0 + year.0.0; month = month.0.0; day = day.0.0 } in
    let last = last_found found d day.0.1 day.2 in
    let day_is : Pair b.0 (day.0.0, []) =
    subst (λ (t : List ℕ). Pair b.0 (day.0.0, t)) last.0 (two_found b.0 day.0 day.1) in
    let text_is : text ≡ day_text found =
    whole_text century.0.0 year.0.0 month.0.0 day.0.0 text century.0.1 year.0.1 a.0 month.0.1 b.0 (two_found text century.0 century.1) (two_found century.0.1 year.0 year.1) (after_found (codes "-") year.0.1 a.0 a.1) (two_found a.0 month.0 month.1) (after_found (codes "-") month.0.1 b.0 b.1) day_is in
    subst (λ (q : Day). SpellsDay q text) {x = found} last.2 (record { day = day_bounds found last.1; text_is = text_is })

pub day_only : (d : Day) → IsDay d → day_of (day_text d) ≡ Some d
unfolding day_of
day_only d is =
    let short = short_day d is in
    let year = is.year in
    let same : 100 * (d.year / 100) + d.year % 100 ≡ d.year = omega arith in
    let day : List ℕ = zero_filled 2 d.day in
    let month : List ℕ = zero_filled 2 d.month ++ (codes "-" ++ day) in
    let low : List ℕ = zero_filled 2 (d.year % 100) in
    let parts : day_text d ≡ zero_filled 2 (d.year / 100) ++ (low ++ (codes "-" ++ month)) =
    ap (λ (t : List ℕ). t ++ (codes "-" ++ month)) (four_is d.year (omega (arith, year)))
    ∙ append_assoc (zero_filled 2 (d.year / 100)) low (codes "-" ++ month) in
    let last : two_digits day ≡ Some (d.day, []) = ap two_digits (sym (append-nil day)) ∙ two_only d.day [] short.1 in
    rw (
      parts,
      two_only (d.year / 100) (low ++ (codes "-" ++ month)) (omega (arith, year)),
      two_only (d.year % 100) (codes "-" ++ month) (omega arith),
      after_only (codes "-") month,
      two_only d.month (codes "-" ++ day) short.0,
      after_only (codes "-") day,
      last,
      same,
      day_passes d is,
    ) refl

pub read_again : {T E : Type 0} (bytes : T → List ℕ) (r : Result T E) (d : Day) → IsDay d
    → IfOk r (λ text. bytes text ≡ day_text d) → IfOk r (λ text. day_of (bytes text) ≡ Some d)
read_again bytes (Ok text) d is printed = ap day_of printed ∙ day_only d is
read_again bytes (Err fault) d is printed = tt

-- with None no day is spelled
pub judged : (text : List ℕ) (r : Option Day) → r ≡ day_of text → JudgesDay text r
judged text (Some d) h = day_found text d (sym h)
judged text None h =
    λ d spelled.
    let same : day_of text ≡ Some d = ap day_of spelled.text_is ∙ day_only d spelled.day in
    absurd (none_some d (h ∙ same))
  where
    none_some : (d : Day) → None ≡ Some d → ⊥
    none_some d e = cc
