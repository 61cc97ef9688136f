-- By its moved mask a polynomial keeps its value at a point at which the mask counts.
use Rattle.std.specs.Prelude.{◌≡◌, ◌≢◌, ℕ, ◌<◌, ◌^◌, Bool, List, [], ◌∷◌, bit_xor, refl}
use Rattle.std.proofs.Common.{sym, ◌∙◌, ap, subst}
use Rattle.std.specs.Int.Bits.{xor_comm}
use Rattle.tower_numbers.specs.Levels.{inverse_at, product_at, twist_at}
use Rattle.tower_laws.specs.Laws.{FieldLaws}
use Rattle.tower_laws.specs.Elements.{element_one}
use Rattle.tower_laws.specs.Gf.{gf}
use Rattle.tower_laws.specs.Polynomials.{value_at}
use Rattle.tower_laws.specs.Through.{through}
use Rattle.tower_laws.proofs.Rings.{var, nil, unit, ◌⊕◌, ◌⊗◌, solve, one_mul}
use Rattle.tower_laws.proofs.Roots.{sum_zero, product_zero}
use Rattle.tower_laws.proofs.ElementLaws.{level_laws, element_path}
use Rattle.tower_laws.proofs.GfLaws.{gf_two}
use Rattle.audit_rules.specs.Audit.{product, value, through_three}
use Rattle.audit_rules.proofs.Transfer.{E, z, add, mul, inverse, element, value-values}
use Rattle.write_hiding.specs.Moved.{weight, moved_mask}
use Rattle.write_hiding.specs.MaliciousLaws.{WeightsAreZeroAtOneAndTwo}
use Rattle.write_hiding.proofs.AuditLemmas.{number_forth}

-- ---- over the operations of any field

abbrev weight_of : {F : Type 0} → F → F → (F → F → F) → (F → F → F) → F → F → F
weight_of z o add mul t p = value_at z add mul (through add mul t o z z) p

abbrev rest_of : {F : Type 0} → F → (F → F → F) → (F → F → F) → F → F → F → F → F
rest_of z add mul t x m p = value_at z add mul (through add mul t z x m) p

abbrev mask_of : {F : Type 0} → F → F → (F → F → F) → (F → F → F) → (F → F) → F → F → F → F → F → F → F → F
mask_of z o add mul inverse t p u x m y n =
    add u (mul (inverse (weight_of z o add mul t p)) (rest_of z add mul t (add x y) (add m n) p))

module _ {F : Type 0} {z o : F} {add mul : F → F → F} {inverse : F → F} {eq : F → F → Bool} (laws : FieldLaws z o add mul inverse eq) (t : F) (square : mul t t ≡ add t o) where
  split : (u x m p : F) → value_at z add mul (through add mul t u x m) p ≡ add (mul (weight_of z o add mul t p) u) (rest_of z add mul t x m p)
  split u x m p =
      let vt = var 0 in let vu = var 1 in let vx = var 2 in let vm = var 3 in let vp = var 4 in
      let c = vu ⊕ vm ⊕ vt ⊗ (vu ⊕ vx) in
      let c0 = unit ⊕ nil ⊕ vt ⊗ (unit ⊕ nil) in
      let c1 = nil ⊕ vm ⊕ vt ⊗ (nil ⊕ vx) in
      solve laws (t ∷ (u ∷ (x ∷ (m ∷ (p ∷ [])))))
      (vu ⊕ vp ⊗ (c ⊕ (vu ⊕ vx) ⊕ vp ⊗ (c ⊕ vp ⊗ nil)))
      ((unit ⊕ vp ⊗ (c0 ⊕ (unit ⊕ nil) ⊕ vp ⊗ (c0 ⊕ vp ⊗ nil))) ⊗ vu ⊕ (nil ⊕ vp ⊗ (c1 ⊕ (nil ⊕ vx) ⊕ vp ⊗ (c1 ⊕ vp ⊗ nil)))) refl

  -- the change of the rest takes the new one to the old
  rest_adds : (x m y n p : F) → add (rest_of z add mul t (add x y) (add m n) p) (rest_of z add mul t y n p) ≡ rest_of z add mul t x m p
  rest_adds x m y n p =
      let vt = var 0 in let vx = var 1 in let vm = var 2 in let vy = var 3 in let vn = var 4 in let vp = var 5 in
      let c0 = nil ⊕ (vm ⊕ vn) ⊕ vt ⊗ (nil ⊕ (vx ⊕ vy)) in
      let c1 = nil ⊕ vn ⊕ vt ⊗ (nil ⊕ vy) in
      let c2 = nil ⊕ vm ⊕ vt ⊗ (nil ⊕ vx) in
      solve laws (t ∷ (x ∷ (m ∷ (y ∷ (n ∷ (p ∷ []))))))
      ((nil ⊕ vp ⊗ (c0 ⊕ (nil ⊕ (vx ⊕ vy)) ⊕ vp ⊗ (c0 ⊕ vp ⊗ nil))) ⊕ (nil ⊕ vp ⊗ (c1 ⊕ (nil ⊕ vy) ⊕ vp ⊗ (c1 ⊕ vp ⊗ nil))))
      (nil ⊕ vp ⊗ (c2 ⊕ (nil ⊕ vx) ⊕ vp ⊗ (c2 ⊕ vp ⊗ nil))) refl

  factors : (p : F) → mul (mul (add p o) (add p t)) (add o t) ≡ weight_of z o add mul t p
  factors p =
      let vt = var 0 in let vp = var 1 in
      let c0 = unit ⊕ nil ⊕ vt ⊗ (unit ⊕ nil) in
      let env : List F = t ∷ (p ∷ []) in
      solve laws env ((vp ⊕ unit) ⊗ (vp ⊕ vt) ⊗ (unit ⊕ vt)) (vp ⊗ vp ⊕ vp ⊗ vp ⊗ vt ⊕ vp ⊗ (vt ⊗ vt) ⊕ vp ⊕ vt ⊕ vt ⊗ vt) refl
      ∙ ap (λ s. add (add (add (add (add (mul p p) (mul (mul p p) t)) (mul p s)) p) t) s) square
      ∙ solve laws env (vp ⊗ vp ⊕ vp ⊗ vp ⊗ vt ⊕ vp ⊗ (vt ⊕ unit) ⊕ vp ⊕ vt ⊕ (vt ⊕ unit)) (unit ⊕ vp ⊗ (c0 ⊕ (unit ⊕ nil) ⊕ vp ⊗ (c0 ⊕ vp ⊗ nil))) refl

  weight_apart : (p : F) → p ≢ o → p ≢ t → weight_of z o add mul t p ≢ z
  weight_apart p n k h =
      let second : add p t ≢ z = λ e. k (sum_zero laws p t e) in
      let first : add p o ≢ z = λ e. n (sum_zero laws p o e) in
      let both : mul (add p o) (add p t) ≢ z = λ e. second (product_zero laws (add p o) (add p t) first e) in
      let same : o ≡ t = sum_zero laws o t (product_zero laws (mul (add p o) (add p t)) (add o t) both (factors p ∙ h)) in
      laws.apart (same ∙ sym (laws.mul_one t) ∙ ap (mul t) same ∙ square ∙ ap (add t) same ∙ laws.add_self t)

  spread : (w u i d r : F) → add (mul w (add u (mul i d))) r ≡ add (mul w u) (add (mul (mul w i) d) r)
  spread w u i d r =
      let vw = var 0 in let vu = var 1 in let vi = var 2 in let vd = var 3 in let vr = var 4 in
      solve laws (w ∷ (u ∷ (i ∷ (d ∷ (r ∷ []))))) (vw ⊗ (vu ⊕ vi ⊗ vd) ⊕ vr) (vw ⊗ vu ⊕ (vw ⊗ vi ⊗ vd ⊕ vr)) refl

  value_stays : (p u x m y n : F) → weight_of z o add mul t p ≢ z →
      value_at z add mul (through add mul t (mask_of z o add mul inverse t p u x m y n) y n) p ≡ value_at z add mul (through add mul t u x m) p
  value_stays p u x m y n h =
      let w = weight_of z o add mul t p in
      let d = rest_of z add mul t (add x y) (add m n) p in
      let r = rest_of z add mul t y n p in
      split (mask_of z o add mul inverse t p u x m y n) y n p
      ∙ spread w u (inverse w) d r
      ∙ ap (λ k. add (mul w u) (add (mul k d) r)) (laws.inverts w h)
      ∙ ap (λ k. add (mul w u) (add k r)) (one_mul laws d)
      ∙ ap (add (mul w u)) (rest_adds x m y n p)
      ∙ sym (split u x m p)

-- ---- on numbers

abbrev mask : E → E → E → E → E → E → E
mask p u x m y n = mask_of z (element_one 7) add mul inverse (gf 2) p u x m y n

mask_values : (p u x m y n : E) → moved_mask p.value u.value x.value m.value y.value n.value ≡ (mask p u x m y n).value
unfolding moved_mask
mask_values p u x m y n =
    ap (λ w. bit_xor u.value (product (inverse_at 7 w) (value (through_three 0 (bit_xor x.value y.value) (bit_xor m.value n.value)) p.value))) (value-values (through add mul (gf 2) (element_one 7) z z) p)
    ∙ ap (λ k. bit_xor u.value (product (inverse_at 7 (weight_of z (element_one 7) add mul (gf 2) p).value) k)) (value-values (through add mul (gf 2) z (add x y) (add m n)) p)

apart : (p : E) → p.value ≢ 1 → p.value ≢ 2 → weight_of z (element_one 7) add mul (gf 2) p ≢ z
apart p n k = weight_apart (level_laws 7).0 (gf 2) gf_two p (λ e. n (ap (λ e. e.value) e)) (λ e. k (ap (λ e. e.value) e))

module _ (sigma : ℕ) (hs : sigma < 2 ^ 128) (u x m y n : ℕ) (hu : u < 2 ^ 128) (hx : x < 2 ^ 128) (hm : m < 2 ^ 128) (hy : y < 2 ^ 128) (hn : n < 2 ^ 128) where
  abbrev p : E
  p = element sigma hs

  abbrev eu : E
  eu = element u hu

  abbrev ex : E
  ex = element x hx

  abbrev em : E
  em = element m hm

  abbrev ey : E
  ey = element y hy

  abbrev en : E
  en = element n hn

  pub mask_lt : moved_mask sigma u x m y n < 2 ^ 128
  mask_lt = subst (λ n. n < 2 ^ 128) (sym (mask_values p eu ex em ey en)) (mask p eu ex em ey en).in_range

  pub mask_keeps : sigma ≢ 1 → sigma ≢ 2 → value (through_three (moved_mask sigma u x m y n) y n) sigma ≡ value (through_three u x m) sigma
  mask_keeps one two =
      ap (λ u. value (through_three u y n) sigma) (mask_values p eu ex em ey en)
      ∙ value-values (through add mul (gf 2) (mask p eu ex em ey en) ey en) p
      ∙ ap (λ e. e.value) (value_stays (level_laws 7).0 (gf 2) gf_two p eu ex em ey en (apart p one two))
      ∙ sym (value-values (through add mul (gf 2) eu ex em) p)

-- the opposite move gives the mask back
pub mask_back : (sigma u x m y n : ℕ) → moved_mask sigma (moved_mask sigma u x m y n) y n x m ≡ u
unfolding moved_mask
mask_back sigma u x m y n =
    let k = λ (a b : ℕ). product (inverse_at 7 (weight sigma)) (value (through_three 0 a b) sigma) in
    let by = k (bit_xor x y) (bit_xor m n) in
    ap (λ a. bit_xor (bit_xor u by) (k a (bit_xor n m))) (xor_comm y x)
    ∙ ap (λ b. bit_xor (bit_xor u by) (k (bit_xor x y) b)) (xor_comm n m)
    ∙ ap (λ a. bit_xor a by) (xor_comm u by) ∙ number_forth by u

pub inverse_zero : inverse_at 7 0 ≡ 0
unfolding inverse_at product_at twist_at
inverse_zero = refl

pub weights_are_zero_at_one_and_two : WeightsAreZeroAtOneAndTwo
unfolding product_at twist_at
weights_are_zero_at_one_and_two = (
  λ sigma hs n k e.
      let p = element sigma hs in
      apart p n k (element_path 7 (weight_of z (element_one 7) add mul (gf 2) p) z (sym (value-values (through add mul (gf 2) (element_one 7) z z) p) ∙ e)),
  refl,
  refl,
)
