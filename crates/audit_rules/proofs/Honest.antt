-- The sketch of a vector that is zero everywhere but at one place, and that its proof passes at every point, over any field.
use Rattle.std.specs.Prelude.{◌≡◌, ◌≢◌, ℕ, ◌<◌, Bool, List, [], ◌∷◌, length, refl}
use Rattle.std.proofs.Common.{zero, suc, ◌∙◌, ap, get_or, arith}
use Rattle.tower_laws.specs.Laws.{FieldLaws}
use Rattle.tower_laws.proofs.Rings.{var, nil, ◌⊕◌, ◌⊗◌, solve, zero_add}
use Rattle.tower_laws.specs.Polynomials.{value_at, times_of}
use Rattle.tower_laws.specs.Through.{through}
use Rattle.tower_laws.proofs.ThroughLaws.{through_one, through_two}
use Rattle.tower_laws.proofs.ValueLaws.{value-times}
use Rattle.audit_rules.specs.Sketch.{total, dot, dot3}
use Rattle.audit_rules.specs.Passing.{Passes}

module _ {F : Type 0} {z o : F} {add mul : F → F → F} {inverse : F → F} {eq : F → F → Bool} (laws : FieldLaws z o add mul inverse eq) where
  total-nothing : (w : List F) → ((i : ℕ) → get_or w i z ≡ z) → total z add w ≡ z
  total-nothing [] h = refl
  total-nothing (x ∷ w) h = ap (λ k. add k (total z add w)) (h 0) ∙ zero_add laws (total z add w) ∙ total-nothing w (λ i. h (suc i))

  dot-nothing : (w r : List F) → ((i : ℕ) → get_or w i z ≡ z) → dot z add mul w r ≡ z
  dot-nothing [] r h = refl
  dot-nothing (x ∷ w) [] h = refl
  dot-nothing (x ∷ w) (y ∷ r) h =
      let rest = dot z add mul w r in
      ap (λ k. add (mul k y) rest) (h 0) ∙ solve laws (y ∷ (rest ∷ [])) (nil ⊗ var 0 ⊕ var 1) (var 1) refl ∙ dot-nothing w r (λ i. h (suc i))

  dot3-nothing : (w r s : List F) → ((i : ℕ) → get_or w i z ≡ z) → dot3 z add mul w r s ≡ z
  dot3-nothing [] r s h = refl
  dot3-nothing (x ∷ w) [] s h = refl
  dot3-nothing (x ∷ w) (y ∷ r) [] h = refl
  dot3-nothing (x ∷ w) (y ∷ r) (k ∷ s) h =
      let rest = dot3 z add mul w r s in
      ap (λ l. add (mul (mul l y) k) rest) (h 0) ∙ solve laws (y ∷ (k ∷ (rest ∷ []))) (nil ⊗ var 0 ⊗ var 1 ⊕ var 2) (var 2) refl ∙ dot3-nothing w r s (λ i. h (suc i))

  pub total-alone : (w : List F) (p : ℕ) → p < length w → ((i : ℕ) → i ≢ p → get_or w i z ≡ z) → total z add w ≡ get_or w p z
  total-alone [] p l h = absurd (omega arith)
  total-alone (x ∷ w) zero l h = ap (add x) (total-nothing w (λ i. h (suc i) (omega arith))) ∙ laws.add_zero x
  total-alone (x ∷ w) (suc p) l h =
      ap (λ k. add k (total z add w)) (h 0 (omega arith)) ∙ zero_add laws (total z add w) ∙ total-alone w p (omega arith) (λ i n. h (suc i) (omega arith))

  pub dot-alone : (w r : List F) (p : ℕ) → p < length w → p < length r → ((i : ℕ) → i ≢ p → get_or w i z ≡ z) → dot z add mul w r ≡ mul (get_or w p z) (get_or r p z)
  dot-alone [] r p l l' h = absurd (omega arith)
  dot-alone (x ∷ w) [] p l l' h = absurd (omega arith)
  dot-alone (x ∷ w) (y ∷ r) zero l l' h = ap (add (mul x y)) (dot-nothing w r (λ i. h (suc i) (omega arith))) ∙ laws.add_zero (mul x y)
  dot-alone (x ∷ w) (y ∷ r) (suc p) l l' h =
      let rest = dot z add mul w r in
      ap (λ k. add (mul k y) rest) (h 0 (omega arith)) ∙ solve laws (y ∷ (rest ∷ [])) (nil ⊗ var 0 ⊕ var 1) (var 1) refl
      ∙ dot-alone w r p (omega arith) (omega arith) (λ i n. h (suc i) (omega arith))

  pub dot3-alone : (w r s : List F) (p : ℕ) → p < length w → p < length r → p < length s → ((i : ℕ) → i ≢ p → get_or w i z ≡ z) →
      dot3 z add mul w r s ≡ mul (mul (get_or w p z) (get_or r p z)) (get_or s p z)
  dot3-alone [] r s p l l' l'' h = absurd (omega arith)
  dot3-alone (x ∷ w) [] s p l l' l'' h = absurd (omega arith)
  dot3-alone (x ∷ w) (y ∷ r) [] p l l' l'' h = absurd (omega arith)
  dot3-alone (x ∷ w) (y ∷ r) (k ∷ s) zero l l' l'' h = ap (add (mul (mul x y) k)) (dot3-nothing w r s (λ i. h (suc i) (omega arith))) ∙ laws.add_zero (mul (mul x y) k)
  dot3-alone (x ∷ w) (y ∷ r) (k ∷ s) (suc p) l l' l'' h =
      let rest = dot3 z add mul w r s in
      ap (λ l. add (mul (mul l y) k) rest) (h 0 (omega arith)) ∙ solve laws (y ∷ (k ∷ (rest ∷ []))) (nil ⊗ var 0 ⊗ var 1 ⊕ var 2) (var 2) refl
      ∙ dot3-alone w r s p (omega arith) (omega arith) (omega arith) (λ i n. h (suc i) (omega arith))

  -- with h the product of f and g, and c the product of a and b
  pub honest-passes : (t : F) → mul t t ≡ add t o → (u v m r s a b p : F) →
      let f = through add mul t u (mul m r) m in
      let g = through add mul t v (mul m s) (mul (mul m r) s) in
      Passes z o add mul f g (times_of z add mul f g) t (add (mul a b) (mul a b)) p
  honest-passes t square u v m r s a b p =
      let f = through add mul t u (mul m r) m in
      let g = through add mul t v (mul m s) (mul (mul m r) s) in
      record {
        outputs =
            ap (λ k. add k (value_at z add mul (times_of z add mul f g) t)) (value-times laws f g o ∙ ap (λ k. mul k (value_at z add mul g o)) (through_one laws t square u (mul m r) m) ∙ ap (mul (mul m r)) (through_one laws t square v (mul m s) (mul (mul m r) s)))
            ∙ ap (add (mul (mul m r) (mul m s))) (value-times laws f g t ∙ ap (λ k. mul k (value_at z add mul g t)) (through_two laws t square u (mul m r) m) ∙ ap (mul m) (through_two laws t square v (mul m s) (mul (mul m r) s)))
            ∙ solve laws (m ∷ (r ∷ (s ∷ []))) ((var 0 ⊗ var 1) ⊗ (var 0 ⊗ var 2) ⊕ var 0 ⊗ (var 0 ⊗ var 1 ⊗ var 2)) nil refl;
        product =
            let k = mul (value_at z add mul f p) (value_at z add mul g p) in
            ap (λ h. add (mul p (add k h)) (add (mul a b) (mul a b))) (value-times laws f g p)
            ∙ solve laws (p ∷ (k ∷ (a ∷ (b ∷ [])))) (var 0 ⊗ (var 1 ⊕ var 1) ⊕ (var 2 ⊗ var 3 ⊕ var 2 ⊗ var 3)) nil refl;
      }
