-- The place of the connection that the server dials.
use Rattle.std.proofs.Common.{◌≡◌, ℕ, zero, suc, ◌<◌, Bool, true, false, List, [], ◌∷◌, length, refl, sym, ap, ◌∙◌, get_or, arith}
use Rattle.std.specs.Prelude.{Option, Some, None, ◌==◌}
use Rattle.many_conns.specs.Places.{Place, is_linked}
use Rattle.many_conns.specs.Routes.{dialled, place_when}

none_below : (i : ℕ) → i < 0 → ⊥
none_below i lt = omega arith

no_true : true ≡ false → ⊥
no_true is = cc

pub nonzero : (n : ℕ) → false ≡ (n == 0) → 0 < n
nonzero zero is = absurd (no_true (sym is))
nonzero (suc n) is = omega arith

pub dialled_none : (places : List Place) → length places ≡ 0 → None ≡ dialled places
dialled_none [] empty = refl
dialled_none (p ∷ places) empty = absurd (omega (arith, empty))

pub dialled_first : (places : List Place) (p : Place) (b : Bool) → 0 < length places → p ≡ get_or places 0 p → b ≡ is_linked p
    → place_when b 0 ≡ dialled places
dialled_first [] p b lt read is = absurd (none_below 0 lt)
dialled_first (q ∷ places) p b lt read is = ap (λ k. place_when k 0) is ∙ ap (λ k. place_when (is_linked k) 0) read
