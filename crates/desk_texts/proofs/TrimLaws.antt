-- A line without the blanks at its end.
use Rattle.std.proofs.Common.{◌≡◌, ℕ, zero, suc, ◌+◌, ◌-◌, ◌<◌, ◌≤◌, true, false, cond, List, [], ◌∷◌, length, get_or, take, refl, ap, sym, arith}
use Rattle.desk_texts.specs.Lines.{is_blank, before, trimmed}

blank_at : (i : ℕ) (xs : List ℕ) → length xs ≡ i + 1 → is_blank (get_or xs i 0) ≡ true
    → trimmed (take i xs) ≡ trimmed xs
unfolding trimmed
blank_at i [] len blank = absurd (omega (arith, len))
blank_at zero (b ∷ []) len blank = sym (ap (λ t. cond t [] (b ∷ [])) blank)
blank_at zero (b ∷ c ∷ xs) len blank = absurd (omega (arith, len))
blank_at (suc i) (b ∷ xs) len blank = ap (before b) (blank_at i xs (omega arith) blank)

other_at : (i : ℕ) (xs : List ℕ) → length xs ≡ i + 1 → is_blank (get_or xs i 0) ≡ false → trimmed xs ≡ xs
unfolding trimmed
other_at i [] len blank = absurd (omega (arith, len))
other_at zero (b ∷ []) len blank = ap (λ t. cond t [] (b ∷ [])) blank
other_at zero (b ∷ c ∷ xs) len blank = absurd (omega (arith, len))
other_at (suc i) (b ∷ []) len blank = absurd (omega (arith, len))
other_at (suc i) (b ∷ c ∷ xs) len blank = ap (before b) (other_at i (c ∷ xs) (omega arith) blank)

pub trim_blank : (xs : List ℕ) → 1 ≤ length xs → is_blank (get_or xs (length xs - 1) 0) ≡ true
    → trimmed (take (length xs - 1) xs) ≡ trimmed xs
trim_blank xs some blank = blank_at (length xs - 1) xs (omega (arith, some)) blank

pub trim_other : (xs : List ℕ) → 1 ≤ length xs → is_blank (get_or xs (length xs - 1) 0) ≡ false → trimmed xs ≡ xs
trim_other xs some blank = other_at (length xs - 1) xs (omega (arith, some)) blank

pub trim_none : (xs : List ℕ) → length xs < 1 → xs ≡ trimmed xs
unfolding trimmed
trim_none [] none = refl
trim_none (b ∷ xs) none = absurd (omega (arith, none))
