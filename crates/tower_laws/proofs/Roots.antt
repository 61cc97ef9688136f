-- A polynomial whose coefficients are not all zero has fewer roots than coefficients.
use Rattle.std.specs.Prelude.{◌≡◌, ◌≢◌, ◌≤◌, Bool, List, [], ◌∷◌, length, All, AllPairs, refl}
use Rattle.std.proofs.Common.{suc, sym, ◌∙◌, ap, arith, get_or}
use Rattle.std.proofs.lemmas.List.Elements.{All-nil, All-cons, All-head, All-tail}
use Rattle.tower_laws.specs.Laws.{FieldLaws}
use Rattle.tower_laws.proofs.Rings.{var, nil, ◌⊕◌, ◌⊗◌, solve, mul_zero, one_mul}
use Rattle.tower_laws.specs.Polynomials.{value_at}

-- p less its value at r, divided by x + r
quotient : {F : Type 0} → F → (F → F → F) → (F → F → F) → F → List F → List F
quotient z add mul r [] = []
quotient z add mul r (c ∷ []) = []
quotient z add mul r (c ∷ (d ∷ p)) = value_at z add mul (d ∷ p) r ∷ quotient z add mul r (d ∷ p)

quotient_length : {F : Type 0} (z : F) (add mul : F → F → F) (r : F) (c : F) (p : List F) → length (quotient z add mul r (c ∷ p)) ≡ length p
unfolding quotient
quotient_length z add mul r c [] = refl
quotient_length z add mul r c (d ∷ p) = ap suc (quotient_length z add mul r d p)

module _ {F : Type 0} {z o : F} {add mul : F → F → F} {inverse : F → F} {eq : F → F → Bool} (laws : FieldLaws z o add mul inverse eq) where
  pub sum_zero : (x y : F) → add x y ≡ z → x ≡ y
  sum_zero x y h = sym (laws.add_zero x) ∙ ap (add x) (sym (laws.add_self y)) ∙ sym (laws.add_assoc x y y) ∙ ap (λ w. add w y) h ∙ laws.add_comm z y ∙ laws.add_zero y

  pub product_zero : (x y : F) → x ≢ z → mul x y ≡ z → y ≡ z
  product_zero x y n h =
      sym (one_mul laws y) ∙ ap (λ w. mul w y) (sym (laws.mul_comm (inverse x) x ∙ laws.inverts x n)) ∙ laws.mul_assoc (inverse x) x y ∙ ap (mul (inverse x)) h ∙ mul_zero laws (inverse x)

  divides : (r s : F) (p : List F) → value_at z add mul p s ≡ add (mul (add s r) (value_at z add mul (quotient z add mul r p) s)) (value_at z add mul p r)
  unfolding quotient
  divides r s [] = sym (laws.add_zero (mul (add s r) z) ∙ mul_zero laws (add s r))
  divides r s (c ∷ []) =
      let vr = var 0 in let vs = var 1 in let vc = var 2 in
      solve laws (r ∷ (s ∷ (c ∷ []))) (vc ⊕ vs ⊗ nil) ((vs ⊕ vr) ⊗ nil ⊕ (vc ⊕ vr ⊗ nil)) refl
  divides r s (c ∷ (d ∷ p)) =
      let at_s = value_at z add mul (d ∷ p) s in
      let at_r = value_at z add mul (d ∷ p) r in
      let rest = value_at z add mul (quotient z add mul r (d ∷ p)) s in
      let vr = var 0 in let vs = var 1 in let vc = var 2 in let vat = var 3 in let vrest = var 4 in
      ap (λ w. add c (mul s w)) (divides r s (d ∷ p))
      ∙ solve laws (r ∷ (s ∷ (c ∷ (at_r ∷ (rest ∷ []))))) (vc ⊕ vs ⊗ ((vs ⊕ vr) ⊗ vrest ⊕ vat)) ((vs ⊕ vr) ⊗ (vat ⊕ vs ⊗ vrest) ⊕ (vc ⊕ vr ⊗ vat)) refl

  all_zero_back : (r : F) (p : List F) → value_at z add mul p r ≡ z → All (λ c. c ≡ z) (quotient z add mul r p) → All (λ c. c ≡ z) p
  unfolding quotient
  all_zero_back r [] root zeros = All-nil (λ c. c ≡ z)
  all_zero_back r (c ∷ []) root zeros =
      let c_zero : c ≡ z = sym (laws.add_zero c) ∙ ap (add c) (sym (mul_zero laws r)) ∙ root in
      All-cons (λ c. c ≡ z) c [] c_zero (All-nil (λ c. c ≡ z))
  all_zero_back r (c ∷ (d ∷ p)) root zeros =
      let next : value_at z add mul (d ∷ p) r ≡ z = All-head (λ c. c ≡ z) (value_at z add mul (d ∷ p) r) (quotient z add mul r (d ∷ p)) zeros in
      let c_zero : c ≡ z = sym (laws.add_zero c) ∙ ap (add c) (sym (mul_zero laws r) ∙ ap (mul r) (sym next)) ∙ root in
      All-cons (λ c. c ≡ z) c (d ∷ p) c_zero (all_zero_back r (d ∷ p) next (All-tail (λ c. c ≡ z) (value_at z add mul (d ∷ p) r) (quotient z add mul r (d ∷ p)) zeros))

  -- each other root of p is one of the quotient
  kept_roots : (r : F) (p rs : List F) → value_at z add mul p r ≡ z → All (λ s. r ≢ s) rs → All (λ s. value_at z add mul p s ≡ z) rs → All (λ s. value_at z add mul (quotient z add mul r p) s ≡ z) rs
  kept_roots r p rs root apart roots = λ k d h.
      let s = get_or rs k d in
      let product : mul (add s r) (value_at z add mul (quotient z add mul r p) s) ≡ z =
      sym (laws.add_zero _) ∙ ap (add (mul (add s r) (value_at z add mul (quotient z add mul r p) s))) (sym root) ∙ sym (divides r s p) ∙ roots k d h in
      product_zero (add s r) (value_at z add mul (quotient z add mul r p) s) (λ e. apart k d h (sym (sum_zero s r e))) product

  pub all_zero : (rs p : List F) → AllPairs (λ x y. x ≢ y) rs → All (λ r. value_at z add mul p r ≡ z) rs → length p ≤ length rs → All (λ c. c ≡ z) p
  all_zero [] [] apart roots short = All-nil (λ c. c ≡ z)
  all_zero [] (c ∷ p) apart roots short = absurd (omega arith)
  all_zero (r ∷ rs) [] apart roots short = All-nil (λ c. c ≡ z)
  all_zero (r ∷ rs) (c ∷ p) apart roots short =
      let root = roots 0 z (omega arith) in
      let others = kept_roots r (c ∷ p) rs root (λ k d h. apart 0 (suc k) d (omega arith) (omega arith)) (λ k d h. roots (suc k) d (omega arith)) in
      let shorter : length (quotient z add mul r (c ∷ p)) ≤ length rs = omega (arith, quotient_length z add mul r c p) in
      all_zero_back r (c ∷ p) root
      (all_zero rs (quotient z add mul r (c ∷ p)) (λ i j d h k. apart (suc i) (suc j) d (omega arith) (omega arith)) others shorter)
