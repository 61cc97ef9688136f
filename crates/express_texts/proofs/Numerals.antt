-- Digits that go on make no number smaller.
use Rattle.std.proofs.Common.{◌≡◌, ℕ, ◌+◌, ◌-◌, ◌*◌, ◌<◌, ◌≤◌, true, false, cond, List, [], ◌∷◌, length, get_or, None, arith, sym, ◌∙◌, ap}
use Rattle.std.specs.Char.{is_ascii_digit}
use Rattle.std.proofs.lemmas.Grind.{common_steps}
use Rattle.express_texts.specs.Numbers.{digits_on, within}

-- reading on makes no number smaller
pub digits_on_le : (n : ℕ) (bytes : List ℕ) → n ≤ (digits_on n bytes).0
unfolding digits_on
digits_on_le n [] = omega arith
digits_on_le n (b ∷ bytes) =
    let h = digits_on_le (10 * n + (b - 48)) bytes in
    elim (is_ascii_digit b) as (λ t. n ≤ (cond t (digits_on (10 * n + (b - 48)) bytes) (n, b ∷ bytes)).0)
    [ true ↦ omega (arith, h) | false ↦ omega arith ]

-- a number above the bound is none within it
pub too_large : (low high n : ℕ) (bytes : List ℕ) → high < n → None ≡ within low high (digits_on n bytes)
too_large low high n bytes h = let more = digits_on_le n bytes in grind (arith, common_steps)

pub too_large_on : (high value first : ℕ) (rest bytes : List ℕ)
    → digits_on value rest ≡ digits_on first bytes → 1 ≤ length rest
    → is_ascii_digit (get_or rest 0 0) ≡ true → high < 10 * value + (get_or rest 0 0 - 48)
    → None ≡ within 0 high (digits_on first bytes)
unfolding digits_on
too_large_on high value first [] bytes same some digit large = absurd (omega (arith, some))
too_large_on high value first (b ∷ rest) bytes same some digit large =
    too_large 0 high (10 * value + (b - 48)) rest large
    ∙ ap (λ r. within 0 high r)
    (sym (ap (λ t. cond t (digits_on (10 * value + (b - 48)) rest) (value, b ∷ rest)) digit) ∙ same)
