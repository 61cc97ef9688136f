-- A colon that is found later is the last one.
use Rattle.std.proofs.Common.{◌≡◌, ◌≢◌, ℕ, ◌-◌, ◌<◌, ◌≤◌, nat_eq, true, false, cond, List, [], ◌∷◌, length, get_or, take, drop, Option, Some, None, refl, ap, sym, ◌∙◌, arith}
use Rattle.std.proofs.lemmas.Bool.{eq-eqb, ne_eqb}
use Rattle.std.proofs.lemmas.List.{take_all}
use Rattle.desk_texts.specs.Places.{or_behind, behind_colon}

abbrev pub later : Option (List ℕ) → Option (List ℕ) → Option (List ℕ)
later (Some port) earlier = Some port
later None earlier = earlier

pub later_none : (r : Option (List ℕ)) → later r None ≡ r
later_none (Some port) = refl
later_none None = refl

-- what follows the first byte
abbrev pub rest_of : List ℕ → List ℕ
rest_of xs = take (length xs - 1) (drop 1 xs)

at_colon : (b : ℕ) (bytes : List ℕ) (found r : Option (List ℕ)) → nat_eq b 58 ≡ true
    → later r (Some bytes) ≡ later (or_behind b bytes r) found
at_colon b bytes found (Some port) e = refl
at_colon b bytes found None e = sym (ap (λ t. later (cond t (Some bytes) None) found) e)

at_other : (b : ℕ) (bytes : List ℕ) (found r : Option (List ℕ)) → nat_eq b 58 ≡ false
    → later r found ≡ later (or_behind b bytes r) found
at_other b bytes found (Some port) e = refl
at_other b bytes found None e = sym (ap (λ t. later (cond t (Some bytes) None) found) e)

pub on_colon : (xs : List ℕ) (found : Option (List ℕ)) → 1 ≤ length xs → get_or xs 0 0 ≡ 58
    → later (behind_colon (rest_of xs)) (Some (rest_of xs)) ≡ later (behind_colon xs) found
unfolding behind_colon
on_colon [] found some is = absurd (omega (arith, some))
on_colon (b ∷ bytes) found some is =
    ap (λ (t : List ℕ). later (behind_colon t) (Some t)) (take_all (length (b ∷ bytes) - 1) bytes (omega arith))
    ∙ at_colon b bytes found (behind_colon bytes) (eq-eqb b 58 is)

pub on_other : (xs : List ℕ) (found : Option (List ℕ)) → 1 ≤ length xs → get_or xs 0 0 ≢ 58
    → later (behind_colon (rest_of xs)) found ≡ later (behind_colon xs) found
unfolding behind_colon
on_other [] found some other = absurd (omega (arith, some))
on_other (b ∷ bytes) found some other =
    ap (λ (t : List ℕ). later (behind_colon t) found) (take_all (length (b ∷ bytes) - 1) bytes (omega arith))
    ∙ at_other b bytes found (behind_colon bytes) (ne_eqb b 58 other)

pub on_none : (xs : List ℕ) (found : Option (List ℕ)) → length xs < 1 → found ≡ later (behind_colon xs) found
unfolding behind_colon
on_none [] found none = refl
on_none (b ∷ bytes) found none = absurd (omega (arith, none))
