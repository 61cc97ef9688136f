-- Where neither challenge is bad, a vector with two places that aren't zero is seen.
use Rattle.std.specs.Prelude.{◌≡◌, ◌≢◌, ℕ, ◌<◌, Bool, List, [], ◌∷◌, length, refl}
use Rattle.std.proofs.Common.{zero, suc, sym, ◌∙◌, ap, get_or, set, arith}
use Rattle.tower_laws.specs.Laws.{FieldLaws}
use Rattle.tower_laws.proofs.Rings.{var, nil, ◌⊕◌, ◌⊗◌, solve, mul_zero}
use Rattle.tower_laws.proofs.Roots.{sum_zero, product_zero}
use Rattle.audit_rules.specs.Sketch.{total, dot, dot3, verdict, bad_s, divisor, bad_r}

module _ {F : Type 0} {z o : F} {add mul : F → F → F} {inverse : F → F} {eq : F → F → Bool} (laws : FieldLaws z o add mul inverse eq) where
  dot_split : (w s : List F) (i : ℕ) → i < length w → i < length s → dot z add mul w s ≡ add (dot z add mul w (set s i z)) (mul (get_or w i z) (get_or s i z))
  dot_split [] s i h k = absurd (omega arith)
  dot_split (x ∷ w) [] i h k = absurd (omega arith)
  dot_split (x ∷ w) (y ∷ s) zero h k =
      let rest = dot z add mul w s in
      solve laws (x ∷ (y ∷ (rest ∷ []))) (var 0 ⊗ var 1 ⊕ var 2) (var 0 ⊗ nil ⊕ var 2 ⊕ var 0 ⊗ var 1) refl
  dot_split (x ∷ w) (y ∷ s) (suc i) h k =
      ap (add (mul x y)) (dot_split w s i (omega arith) (omega arith)) ∙ sym (laws.add_assoc (mul x y) (dot z add mul w (set s i z)) (mul (get_or w i z) (get_or s i z)))

  dot3_split : (w r s : List F) (i : ℕ) → i < length w → i < length r → i < length s →
      dot3 z add mul w r s ≡ add (dot3 z add mul w (set r i z) s) (mul (mul (get_or w i z) (get_or r i z)) (get_or s i z))
  dot3_split [] r s i h k l = absurd (omega arith)
  dot3_split (x ∷ w) [] s i h k l = absurd (omega arith)
  dot3_split (x ∷ w) (y ∷ r) [] i h k l = absurd (omega arith)
  dot3_split (x ∷ w) (y ∷ r) (v ∷ s) zero h k l =
      let rest = dot3 z add mul w r s in
      solve laws (x ∷ (y ∷ (v ∷ (rest ∷ [])))) (var 0 ⊗ var 1 ⊗ var 2 ⊕ var 3) (var 0 ⊗ nil ⊗ var 2 ⊕ var 3 ⊕ var 0 ⊗ var 1 ⊗ var 2) refl
  dot3_split (x ∷ w) (y ∷ r) (v ∷ s) (suc i) h k l =
      ap (add (mul (mul x y) v)) (dot3_split w r s i (omega arith) (omega arith) (omega arith))
      ∙ sym (laws.add_assoc (mul (mul x y) v) (dot3 z add mul w (set r i z) s) (mul (mul (get_or w i z) (get_or r i z)) (get_or s i z)))

  -- what a line of slope k that is not zero gives zero at
  root_of : (e r k : F) → k ≢ z → add e (mul r k) ≡ z → r ≡ mul (inverse k) e
  root_of e r k n h =
      let same : e ≡ mul r k = sum_zero laws e (mul r k) h in
      let once : mul k (inverse k) ≡ o = laws.inverts k n in
      sym (ap (mul (inverse k)) same ∙ solve laws (r ∷ (k ∷ (inverse k ∷ []))) (var 2 ⊗ (var 0 ⊗ var 1)) (var 0 ⊗ (var 1 ⊗ var 2)) refl ∙ ap (mul r) once ∙ laws.mul_one r)

  -- and it gives zero there
  root_back : (e k : F) → k ≢ z → add e (mul (mul (inverse k) e) k) ≡ z
  root_back e k n =
      let once : mul k (inverse k) ≡ o = laws.inverts k n in
      ap (add e) (solve laws (e ∷ (k ∷ (inverse k ∷ []))) (var 2 ⊗ var 0 ⊗ var 1) (var 0 ⊗ (var 1 ⊗ var 2)) refl ∙ ap (mul e) once ∙ laws.mul_one e) ∙ laws.add_self e

  -- what divides in the bad value of r is zero exactly where s at b is the bad value
  pub divisor_zero : (w s : List F) (a b : ℕ) → b < length w → b < length s → get_or w a z ≢ z → get_or w b z ≢ z →
      (divisor z add mul w s a ≡ z → get_or s b z ≡ bad_s z add mul inverse w s a b) × (get_or s b z ≡ bad_s z add mul inverse w s a b → divisor z add mul w s a ≡ z)
  divisor_zero w s a b hb hs na nb =
      let others = dot z add mul w (set s b z) in
      let moved = mul (total z add w) (get_or s a z) in
      let wa = get_or w a z in
      let wb = get_or w b z in
      let sb = get_or s b z in
      let inner = add (dot z add mul w s) moved in
      let line : add (add others moved) (mul sb wb) ≡ inner =
      solve laws (others ∷ (moved ∷ (wb ∷ (sb ∷ [])))) (var 0 ⊕ var 1 ⊕ var 3 ⊗ var 2) (var 0 ⊕ var 2 ⊗ var 3 ⊕ var 1) refl
      ∙ sym (ap (λ y. add y moved) (dot_split w s b hb hs)) in (
        λ h. root_of (add others moved) sb wb nb (line ∙ product_zero laws wa inner na h),
        λ bad. ap (mul wa) (sym line ∙ ap (λ t. add (add others moved) (mul t wb)) bad ∙ root_back (add others moved) wb nb) ∙ mul_zero laws wa,
      )

  divisor_apart : (w s : List F) (a b : ℕ) → b < length w → b < length s → get_or w a z ≢ z → get_or w b z ≢ z → get_or s b z ≢ bad_s z add mul inverse w s a b → divisor z add mul w s a ≢ z
  divisor_apart w s a b hb hs na nb good h = good ((divisor_zero w s a b hb hs na nb).0 h)

  -- where neither challenge is bad, a vector with two places that are not zero is seen
  pub seen : (w r s : List F) (a b : ℕ) → a < length w → a < length r → a < length s → b < length w → b < length s → get_or w a z ≢ z → get_or w b z ≢ z →
      get_or s b z ≢ bad_s z add mul inverse w s a b → get_or r a z ≢ bad_r z add mul inverse w r s a → verdict z add mul w r s ≢ z
  seen w r s a b haw har has hbw hbs na nb good_s good_r h =
      let y = dot z add mul w s in
      let m = total z add w in
      let x0 = dot z add mul w (set r a z) in
      let z0 = dot3 z add mul w (set r a z) s in
      let wa = get_or w a z in
      let ra = get_or r a z in
      let sa = get_or s a z in
      let line : add (verdict z add mul w (set r a z) s) (mul ra (divisor z add mul w s a)) ≡ z =
      solve laws (x0 ∷ (y ∷ (m ∷ (z0 ∷ (wa ∷ (ra ∷ (sa ∷ []))))))) (var 0 ⊗ var 1 ⊕ var 2 ⊗ var 3 ⊕ var 5 ⊗ (var 4 ⊗ (var 1 ⊕ var 2 ⊗ var 6))) ((var 0 ⊕ var 4 ⊗ var 5) ⊗ var 1 ⊕ var 2 ⊗ (var 3 ⊕ var 4 ⊗ var 5 ⊗ var 6)) refl
      ∙ sym (ap (λ x. add (mul x y) (mul m (dot3 z add mul w r s))) (dot_split w r a haw har) ∙ ap (λ k. add (mul (add x0 (mul wa ra)) y) (mul m k)) (dot3_split w r s a haw har has)) ∙ h in
      good_r (root_of (verdict z add mul w (set r a z) s) ra (divisor z add mul w s a) (divisor_apart w s a b hbw hbs na nb good_s) line)
