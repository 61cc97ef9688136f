-- The polynomial through three values has them.
use Rattle.std.specs.Prelude.{◌≡◌, Bool, List, [], ◌∷◌, refl}
use Rattle.std.proofs.Common.{◌∙◌, ap}
use Rattle.tower_laws.specs.Laws.{FieldLaws}
use Rattle.tower_laws.proofs.Rings.{var, nil, unit, ◌⊕◌, ◌⊗◌, solve}
use Rattle.tower_laws.specs.Polynomials.{value_at}
use Rattle.tower_laws.specs.Through.{square_coefficient, through}

module _ {F : Type 0} {z o : F} {add mul : F → F → F} {inverse : F → F} {eq : F → F → Bool} (laws : FieldLaws z o add mul inverse eq) (t : F) (square : mul t t ≡ add t o) where
  pub through_zero : (u x m : F) → value_at z add mul (through add mul t u x m) z ≡ u
  through_zero u x m =
      let vu = var 0 in let vx = var 1 in let vm = var 2 in let vt = var 3 in
      let c = vu ⊕ vm ⊕ vt ⊗ (vu ⊕ vx) in
      solve laws (u ∷ (x ∷ (m ∷ (t ∷ [])))) (vu ⊕ nil ⊗ (c ⊕ (vu ⊕ vx) ⊕ nil ⊗ (c ⊕ nil ⊗ nil))) vu refl

  pub through_one : (u x m : F) → value_at z add mul (through add mul t u x m) o ≡ x
  through_one u x m =
      let vu = var 0 in let vx = var 1 in let vm = var 2 in let vt = var 3 in
      let c = vu ⊕ vm ⊕ vt ⊗ (vu ⊕ vx) in
      solve laws (u ∷ (x ∷ (m ∷ (t ∷ [])))) (vu ⊕ unit ⊗ (c ⊕ (vu ⊕ vx) ⊕ unit ⊗ (c ⊕ unit ⊗ nil))) vx refl

  pub through_two : (u x m : F) → value_at z add mul (through add mul t u x m) t ≡ m
  through_two u x m =
      let vu = var 0 in let vx = var 1 in let vm = var 2 in let vt = var 3 in
      let env : List F = u ∷ (x ∷ (m ∷ (t ∷ []))) in
      let c = vu ⊕ vm ⊕ vt ⊗ (vu ⊕ vx) in
      let cx = square_coefficient add mul t u x m in
      solve laws env (vu ⊕ vt ⊗ (c ⊕ (vu ⊕ vx) ⊕ vt ⊗ (c ⊕ vt ⊗ nil))) (vu ⊕ vt ⊗ (c ⊕ (vu ⊕ vx)) ⊕ (vt ⊗ vt) ⊗ c) refl
      ∙ ap (λ s. add (add u (mul t (add cx (add u x)))) (mul s cx)) square
      ∙ solve laws env (vu ⊕ vt ⊗ (c ⊕ (vu ⊕ vx)) ⊕ (vt ⊕ unit) ⊗ c) vm refl
