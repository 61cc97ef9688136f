-- Where the first line of a text ends.
use Rattle.std.proofs.Common.{◌≡◌, ℕ, ◌+◌, ◌-◌, ◌<◌, nat_eq, false, List, [], ◌∷◌, length, take, drop, get_or, arith, refl, add-one, suc, zero}
use Rattle.std.proofs.lemmas.List.{take_rest}
use Rattle.std.proofs.lemmas.Bool.{ne_eqb}
use Rattle.express_texts.specs.Lines.{lines_of}

-- the first line ends before the first LF
first_at : (text : List ℕ) (i : ℕ) → i < length text → ((k : ℕ) → k < i → get_or text k 0 ≡ 10 → ⊥)
    → get_or text i 0 ≡ 10
    → lines_of text ≡ take i text ∷ lines_of (drop (suc i) text)
unfolding lines_of
first_at [] i short none here = absurd (omega (arith, short))
first_at (b ∷ text) zero short none here = rw here refl
first_at (b ∷ text) (suc i) short none here =
    let other : nat_eq b 10 ≡ false = ne_eqb b 10 (none 0 (omega arith)) in
    rw (other, first_at text i (omega arith) (λ k h. none (suc k) (omega arith)) here) refl

pub lines_of_line : (text : List ℕ) (i : ℕ) → i < length text → ((k : ℕ) → k < i → get_or text k 0 ≡ 10 → ⊥)
    → get_or text i 0 ≡ 10
    → lines_of text ≡ take i text ∷ lines_of (take (length text - (i + 1)) (drop (i + 1) text))
lines_of_line text i short none here = rw (take_rest text (i + 1), add-one) (first_at text i short none here)

-- a text with no LF is one line
pub lines_of_last : (text : List ℕ) → 0 < length text
    → ((k : ℕ) → k < length text → get_or text k 0 ≡ 10 → ⊥) → lines_of text ≡ text ∷ lines_of []
unfolding lines_of
lines_of_last [] some none = absurd (omega (arith, some))
lines_of_last (b ∷ []) some none =
    let other : nat_eq b 10 ≡ false = ne_eqb b 10 (none 0 (omega arith)) in rw other refl
lines_of_last (b ∷ c ∷ text) some none =
    let other : nat_eq b 10 ≡ false = ne_eqb b 10 (none 0 (omega arith)) in
    let rest = lines_of_last (c ∷ text) (omega arith) (λ k h. none (suc k) (omega arith)) in
    simp (other, rest)

pub empty_from : (xs : List ℕ) → length xs ≡ 0 → xs ≡ []
empty_from [] h = refl
empty_from (x ∷ xs) h = absurd (omega (arith, h))
