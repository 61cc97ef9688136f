-- The two servers' shares of a sketch and of a proof add up to the whole, over any field.
use Rattle.std.specs.Prelude.{◌≡◌, Bool, List, [], ◌∷◌, length, refl}
use Rattle.std.proofs.Common.{◌∙◌, ap, sym, arith}
use Rattle.tower_laws.specs.Laws.{FieldLaws}
use Rattle.tower_laws.proofs.Rings.{var, nil, ◌⊕◌, ◌⊗◌, solve}
use Rattle.tower_laws.specs.Polynomials.{value_at}
use Rattle.tower_laws.specs.Through.{through}
use Rattle.audit_rules.specs.Sketch.{total, dot, dot3, both}

module _ {F : Type 0} {z o : F} {add mul : F → F → F} {inverse : F → F} {eq : F → F → Bool} (laws : FieldLaws z o add mul inverse eq) where
  pub total-both : (v w : List F) → length v ≡ length w → total z add (both add v w) ≡ add (total z add v) (total z add w)
  total-both [] [] h = sym (laws.add_zero z)
  total-both [] (y ∷ w) h = cc
  total-both (x ∷ v) [] h = cc
  total-both (x ∷ v) (y ∷ w) h =
      let p = total z add v in let q = total z add w in
      ap (add (add x y)) (total-both v w (omega arith))
      ∙ solve laws (x ∷ (y ∷ (p ∷ (q ∷ [])))) (var 0 ⊕ var 1 ⊕ (var 2 ⊕ var 3)) (var 0 ⊕ var 2 ⊕ (var 1 ⊕ var 3)) refl

  pub dot-both : (v w r : List F) → length v ≡ length w → dot z add mul (both add v w) r ≡ add (dot z add mul v r) (dot z add mul w r)
  dot-both [] [] r h = sym (laws.add_zero z)
  dot-both [] (y ∷ w) r h = cc
  dot-both (x ∷ v) [] r h = cc
  dot-both (x ∷ v) (y ∷ w) [] h = sym (laws.add_zero z)
  dot-both (x ∷ v) (y ∷ w) (k ∷ r) h =
      let p = dot z add mul v r in let q = dot z add mul w r in
      ap (add (mul (add x y) k)) (dot-both v w r (omega arith))
      ∙ solve laws (x ∷ (y ∷ (p ∷ (q ∷ (k ∷ []))))) ((var 0 ⊕ var 1) ⊗ var 4 ⊕ (var 2 ⊕ var 3)) (var 0 ⊗ var 4 ⊕ var 2 ⊕ (var 1 ⊗ var 4 ⊕ var 3)) refl

  pub dot3-both : (v w r s : List F) → length v ≡ length w → dot3 z add mul (both add v w) r s ≡ add (dot3 z add mul v r s) (dot3 z add mul w r s)
  dot3-both [] [] r s h = sym (laws.add_zero z)
  dot3-both [] (y ∷ w) r s h = cc
  dot3-both (x ∷ v) [] r s h = cc
  dot3-both (x ∷ v) (y ∷ w) [] s h = sym (laws.add_zero z)
  dot3-both (x ∷ v) (y ∷ w) (k ∷ r) [] h = sym (laws.add_zero z)
  dot3-both (x ∷ v) (y ∷ w) (k ∷ r) (l ∷ s) h =
      let p = dot3 z add mul v r s in let q = dot3 z add mul w r s in
      ap (add (mul (mul (add x y) k) l)) (dot3-both v w r s (omega arith))
      ∙ solve laws (x ∷ (y ∷ (p ∷ (q ∷ (k ∷ (l ∷ [])))))) ((var 0 ⊕ var 1) ⊗ var 4 ⊗ var 5 ⊕ (var 2 ⊕ var 3)) (var 0 ⊗ var 4 ⊗ var 5 ⊕ var 2 ⊕ (var 1 ⊗ var 4 ⊗ var 5 ⊕ var 3)) refl

  -- the value of a sum of two polynomials through three values each
  pub through-both : (t u u' x x' m m' p : F) →
      value_at z add mul (through add mul t (add u u') (add x x') (add m m')) p ≡ add (value_at z add mul (through add mul t u x m) p) (value_at z add mul (through add mul t u' x' m') p)
  through-both t u u' x x' m m' p =
      let env : List F = t ∷ (u ∷ (u' ∷ (x ∷ (x' ∷ (m ∷ (m' ∷ (p ∷ []))))))) in
      let vt = var 0 in let vu = var 1 in let vu' = var 2 in let vx = var 3 in let vx' = var 4 in let vm = var 5 in let vm' = var 6 in let vp = var 7 in
      let c0 = vu ⊕ vm ⊕ vt ⊗ (vu ⊕ vx) in
      let c1 = vu' ⊕ vm' ⊕ vt ⊗ (vu' ⊕ vx') in
      let c = vu ⊕ vu' ⊕ (vm ⊕ vm') ⊕ vt ⊗ (vu ⊕ vu' ⊕ (vx ⊕ vx')) in
      solve laws env
      (vu ⊕ vu' ⊕ vp ⊗ (c ⊕ (vu ⊕ vu' ⊕ (vx ⊕ vx')) ⊕ vp ⊗ (c ⊕ vp ⊗ nil)))
      ((vu ⊕ vp ⊗ (c0 ⊕ (vu ⊕ vx) ⊕ vp ⊗ (c0 ⊕ vp ⊗ nil))) ⊕ (vu' ⊕ vp ⊗ (c1 ⊕ (vu' ⊕ vx') ⊕ vp ⊗ (c1 ⊕ vp ⊗ nil)))) refl

  -- f_b, g_b and h_b are the values of server b's polynomials at the point p; a_b, b_b and c_b are its part of the triple
  pub closings-both : (f0 f1 g0 g1 h0 h1 a0 a1 b0 b1 c0 c1 p : F) →
      let d = add (add f0 a0) (add f1 a1) in
      let e = add (add (mul p g0) b0) (add (mul p g1) b1) in
      let t0 = add (add (add (add (mul d b0) (mul e a0)) c0) (mul p h0)) (mul d e) in
      let t1 = add (add (add (add (mul d b1) (mul e a1)) c1) (mul p h1)) z in
      add t0 t1 ≡ add (mul p (add (mul (add f0 f1) (add g0 g1)) (add h0 h1))) (add (mul (add a0 a1) (add b0 b1)) (add c0 c1))
  closings-both f0 f1 g0 g1 h0 h1 a0 a1 b0 b1 c0 c1 p =
      let env : List F = f0 ∷ (f1 ∷ (g0 ∷ (g1 ∷ (h0 ∷ (h1 ∷ (a0 ∷ (a1 ∷ (b0 ∷ (b1 ∷ (c0 ∷ (c1 ∷ (p ∷ [])))))))))))) in
      let vf0 = var 0 in let vf1 = var 1 in let vg0 = var 2 in let vg1 = var 3 in let vh0 = var 4 in let vh1 = var 5 in
      let va0 = var 6 in let va1 = var 7 in let vb0 = var 8 in let vb1 = var 9 in let vc0 = var 10 in let vc1 = var 11 in let vp = var 12 in
      let d = vf0 ⊕ va0 ⊕ (vf1 ⊕ va1) in
      let e = vp ⊗ vg0 ⊕ vb0 ⊕ (vp ⊗ vg1 ⊕ vb1) in
      solve laws env
      ((d ⊗ vb0 ⊕ e ⊗ va0 ⊕ vc0 ⊕ vp ⊗ vh0 ⊕ d ⊗ e) ⊕ (d ⊗ vb1 ⊕ e ⊗ va1 ⊕ vc1 ⊕ vp ⊗ vh1 ⊕ nil))
      (vp ⊗ ((vf0 ⊕ vf1) ⊗ (vg0 ⊕ vg1) ⊕ (vh0 ⊕ vh1)) ⊕ ((va0 ⊕ va1) ⊗ (vb0 ⊕ vb1) ⊕ (vc0 ⊕ vc1))) refl
