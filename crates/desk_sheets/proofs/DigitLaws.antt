-- The digits at the end of what is printed of a card.
use Rattle.std.proofs.Common.{◌≡◌, ℕ, ◌-◌, ◌≤◌, true, List, length, take, drop, sym, ap, subst, ◌∙◌}
use Rattle.std.specs.Str.{all_ascii_digits}
use Rattle.desk_texts.proofs.DigitLaws.{EndsWithDigits, ends, long_text, between}
use Rattle.desk_sheets.specs.declared.sheet.Card.{Card}
use Rattle.desk_sheets.specs.Printing.{printed_card, check_digits}

card_ends : (c : Card) → EndsWithDigits (printed_card c)
card_ends c = ends _ _ _

digits_are : (c : Card) (e : EndsWithDigits (printed_card c)) → check_digits c ≡ e.digits
unfolding check_digits
digits_are c e = between (printed_card c) e

pub is_long : (c : Card) (text : List ℕ) → text ≡ printed_card c → 6 ≤ length text
is_long c text is = subst (λ (t : List ℕ). 6 ≤ length t) (sym is) (long_text (printed_card c) (card_ends c))

pub cut_out : (c : Card) (text bytes : List ℕ) → text ≡ printed_card c
    → bytes ≡ take 5 (drop (length text - 6) text) → bytes ≡ check_digits c
unfolding check_digits
cut_out c text bytes is cut = cut ∙ ap (λ (t : List ℕ). take 5 (drop (length t - 6) t)) is

pub five_digits : (c : Card) → length (check_digits c) ≡ 5
five_digits c = let e = card_ends c in ap length (digits_are c e) ∙ e.five

pub only_digits : (c : Card) → all_ascii_digits (check_digits c) ≡ true
only_digits c = let e = card_ends c in ap all_ascii_digits (digits_are c e) ∙ e.all
