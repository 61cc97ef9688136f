-- The value of a sum is the sum of the values, and that of a product their product.
use Rattle.std.specs.Prelude.{◌≡◌, Bool, List, [], ◌∷◌, All, refl}
use Rattle.std.proofs.Common.{sym, ◌∙◌, ap}
use Rattle.std.proofs.lemmas.List.Elements.{All-head, All-tail}
use Rattle.tower_laws.specs.Laws.{FieldLaws}
use Rattle.tower_laws.proofs.Rings.{var, nil, ◌⊕◌, ◌⊗◌, solve, mul_zero, zero_add}
use Rattle.tower_laws.specs.Polynomials.{value_at, plus_of, scaled_of, times_of}

module _ {F : Type 0} {z o : F} {add mul : F → F → F} {inverse : F → F} {eq : F → F → Bool} (laws : FieldLaws z o add mul inverse eq) where
  pub value-plus : (p q : List F) (x : F) → value_at z add mul (plus_of add p q) x ≡ add (value_at z add mul p x) (value_at z add mul q x)
  value-plus [] q x = sym (zero_add laws (value_at z add mul q x))
  value-plus (c ∷ p) [] x = sym (laws.add_zero (value_at z add mul (c ∷ p) x))
  value-plus (c ∷ p) (d ∷ q) x =
      let a = value_at z add mul p x in
      let b = value_at z add mul q x in
      let vc = var 0 in let vd = var 1 in let vx = var 2 in let va = var 3 in let vb = var 4 in
      ap (λ w. add (add c d) (mul x w)) (value-plus p q x)
      ∙ solve laws (c ∷ (d ∷ (x ∷ (a ∷ (b ∷ []))))) (vc ⊕ vd ⊕ vx ⊗ (va ⊕ vb)) ((vc ⊕ vx ⊗ va) ⊕ (vd ⊕ vx ⊗ vb)) refl

  pub value-scaled : (c : F) (q : List F) (x : F) → value_at z add mul (scaled_of mul c q) x ≡ mul c (value_at z add mul q x)
  value-scaled c [] x = sym (mul_zero laws c)
  value-scaled c (d ∷ q) x =
      let b = value_at z add mul q x in
      let vc = var 0 in let vd = var 1 in let vx = var 2 in let vb = var 3 in
      ap (λ w. add (mul c d) (mul x w)) (value-scaled c q x)
      ∙ solve laws (c ∷ (d ∷ (x ∷ (b ∷ [])))) (vc ⊗ vd ⊕ vx ⊗ (vc ⊗ vb)) (vc ⊗ (vd ⊕ vx ⊗ vb)) refl

  pub value-times : (p q : List F) (x : F) → value_at z add mul (times_of z add mul p q) x ≡ mul (value_at z add mul p x) (value_at z add mul q x)
  value-times [] q x = sym (laws.mul_comm z (value_at z add mul q x) ∙ mul_zero laws (value_at z add mul q x))
  value-times (c ∷ p) q x =
      let a = value_at z add mul p x in
      let b = value_at z add mul q x in
      let vc = var 0 in let vx = var 1 in let va = var 2 in let vb = var 3 in
      value-plus (scaled_of mul c q) (z ∷ times_of z add mul p q) x
      ∙ ap (λ w. add w (add z (mul x (value_at z add mul (times_of z add mul p q) x)))) (value-scaled c q x)
      ∙ ap (λ w. add (mul c b) (add z (mul x w))) (value-times p q x)
      ∙ solve laws (c ∷ (x ∷ (a ∷ (b ∷ [])))) (vc ⊗ vb ⊕ (nil ⊕ vx ⊗ (va ⊗ vb))) ((vc ⊕ vx ⊗ va) ⊗ vb) refl

  pub value-all_zero : (p : List F) (x : F) → All (λ c. c ≡ z) p → value_at z add mul p x ≡ z
  value-all_zero [] x zeros = refl
  value-all_zero (c ∷ p) x zeros =
      ap (λ w. add w (mul x (value_at z add mul p x))) (All-head (λ c. c ≡ z) c p zeros)
      ∙ ap (λ w. add z (mul x w)) (value-all_zero p x (All-tail (λ c. c ≡ z) c p zeros))
      ∙ solve laws (x ∷ []) (nil ⊕ var 0 ⊗ nil) nil refl
