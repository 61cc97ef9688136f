-- The next level over a level is a field and a level of the tower.
use Rattle.std.specs.Prelude.{◌≡◌, ◌≢◌, Bool, true, false, ◌&&◌, List, [], ◌∷◌, refl}
use Rattle.std.proofs.Common.{sym, ◌∙◌, ap, ◌⊎◌, inl, inr}
use Rattle.tower_laws.specs.Laws.{FieldLaws, TowerLaws, differ}
use Rattle.tower_laws.proofs.Rings.{var, nil, unit, ◌⊕◌, ◌⊗◌, solve, mul_zero, one_mul}
use Rattle.tower_laws.specs.declared.quad.Quad.{Quad}
use Rattle.tower_laws.specs.Quads.{quad, quad_add, quad_mul, norm, quad_inverse, quad_eq, quad_trace}

from_and : (a b : Bool) → (a && b) ≡ true → (a ≡ true) × (b ≡ true)
from_and true b h = (refl, h)
from_and false b h = (h, cc)

both_true : (a b : Bool) → a ≡ true → b ≡ true → (a && b) ≡ true
both_true true true p q = refl
both_true true false p q = q
both_true false b p q = p

true_false : true ≡ false → ⊥
true_false h = cc

differ_self : (a : Bool) → differ a a ≡ false
differ_self true = refl
differ_self false = refl

quad_path : {K : Type 0} {a b c d : K} → a ≡ c → b ≡ d → quad a b ≡ quad c d
quad_path p q = cc

module _ {K : Type 0} {z o c : K} {add mul : K → K → K} {inverse : K → K} {eq : K → K → Bool} {trace : K → Bool}
    (laws : FieldLaws z o add mul inverse eq) (tower : TowerLaws add mul inverse c trace) where
  -- what the solver proves of seven values
  assoc : (x y w : Quad K) → quad_mul add mul c (quad_mul add mul c x y) w ≡ quad_mul add mul c x (quad_mul add mul c y w)
  assoc x y w =
      let env : List K = x.low ∷ (x.high ∷ (y.low ∷ (y.high ∷ (w.low ∷ (w.high ∷ (c ∷ [])))))) in
      let a = var 0 in let a' = var 1 in let b = var 2 in let b' = var 3 in let d = var 4 in let d' = var 5 in let t = var 6 in
      let low = a ⊗ b ⊕ a' ⊗ b' in
      let high = a ⊗ b' ⊕ a' ⊗ b ⊕ t ⊗ (a' ⊗ b') in
      let low' = b ⊗ d ⊕ b' ⊗ d' in
      let high' = b ⊗ d' ⊕ b' ⊗ d ⊕ t ⊗ (b' ⊗ d') in
      quad_path
      (solve laws env (low ⊗ d ⊕ high ⊗ d') (a ⊗ low' ⊕ a' ⊗ high') refl)
      (solve laws env (low ⊗ d' ⊕ high ⊗ d ⊕ t ⊗ (high ⊗ d')) (a ⊗ high' ⊕ a' ⊗ low' ⊕ t ⊗ (a' ⊗ high')) refl)

  comm : (x y : Quad K) → quad_mul add mul c x y ≡ quad_mul add mul c y x
  comm x y =
      let env : List K = x.low ∷ (x.high ∷ (y.low ∷ (y.high ∷ (c ∷ [])))) in
      let a = var 0 in let a' = var 1 in let b = var 2 in let b' = var 3 in let t = var 4 in
      quad_path
      (solve laws env (a ⊗ b ⊕ a' ⊗ b') (b ⊗ a ⊕ b' ⊗ a') refl)
      (solve laws env (a ⊗ b' ⊕ a' ⊗ b ⊕ t ⊗ (a' ⊗ b')) (b ⊗ a' ⊕ b' ⊗ a ⊕ t ⊗ (b' ⊗ a')) refl)

  one_right : (x : Quad K) → quad_mul add mul c x (quad o z) ≡ x
  one_right x =
      let env : List K = x.low ∷ (x.high ∷ (c ∷ [])) in
      let a = var 0 in let a' = var 1 in let t = var 2 in
      quad_path
      (solve laws env (a ⊗ unit ⊕ a' ⊗ nil) a refl)
      (solve laws env (a ⊗ nil ⊕ a' ⊗ unit ⊕ t ⊗ (a' ⊗ nil)) a' refl)

  spreads : (x y w : Quad K) → quad_mul add mul c x (quad_add add y w) ≡ quad_add add (quad_mul add mul c x y) (quad_mul add mul c x w)
  spreads x y w =
      let env : List K = x.low ∷ (x.high ∷ (y.low ∷ (y.high ∷ (w.low ∷ (w.high ∷ (c ∷ [])))))) in
      let a = var 0 in let a' = var 1 in let b = var 2 in let b' = var 3 in let d = var 4 in let d' = var 5 in let t = var 6 in
      quad_path
      (solve laws env (a ⊗ (b ⊕ d) ⊕ a' ⊗ (b' ⊕ d')) ((a ⊗ b ⊕ a' ⊗ b') ⊕ (a ⊗ d ⊕ a' ⊗ d')) refl)
      (solve laws env (a ⊗ (b' ⊕ d') ⊕ a' ⊗ (b ⊕ d) ⊕ t ⊗ (a' ⊗ (b' ⊕ d'))) ((a ⊗ b' ⊕ a' ⊗ b ⊕ t ⊗ (a' ⊗ b')) ⊕ (a ⊗ d' ⊕ a' ⊗ d ⊕ t ⊗ (a' ⊗ d'))) refl)

  -- a value times its conjugate is its norm
  by_norm : (x : Quad K) (n : K) → quad_mul add mul c x (quad (mul (add x.low (mul x.high c)) n) (mul x.high n)) ≡ quad (mul (norm add mul c x) n) z
  by_norm x n =
      let env : List K = x.low ∷ (x.high ∷ (c ∷ (n ∷ []))) in
      let a = var 0 in let a' = var 1 in let t = var 2 in let m = var 3 in
      let b = (a ⊕ a' ⊗ t) ⊗ m in let b' = a' ⊗ m in
      quad_path
      (solve laws env (a ⊗ b ⊕ a' ⊗ b') ((a ⊗ a ⊕ a ⊗ a' ⊗ t ⊕ a' ⊗ a') ⊗ m) refl)
      (solve laws env (a ⊗ b' ⊕ a' ⊗ b ⊕ t ⊗ (a' ⊗ b')) nil refl)

  trace_zero : trace z ≡ false
  trace_zero = ap trace (sym (laws.add_self z)) ∙ tower.trace_add z z ∙ differ_self (trace z)

  twist_apart : c ≢ z
  twist_apart h = absurd (true_false (sym tower.trace_twist ∙ ap trace h ∙ trace_zero))

  is_zero : (x : K) → (x ≡ z) ⊎ (x ≢ z)
  is_zero x =
      (elim (eq x z) as (λ b. eq x z ≡ b → (x ≡ z) ⊎ (x ≢ z)) [
        | true ↦ λ h. inl (laws.from_eq x z h)
        | false ↦ λ h. inr (λ e. true_false (sym (laws.eq_self z) ∙ ap (λ w. eq w z) (sym e) ∙ h))
      ]) refl

  square_apart : (x : K) → x ≢ z → mul x x ≢ z
  square_apart x n h =
      let i = inverse x in
      let unit_there : mul x i ≡ o = laws.inverts x n in
      let same : x ≡ z = sym (laws.mul_one x) ∙ ap (mul x) (sym unit_there) ∙ sym (laws.mul_assoc x x i) ∙ ap (λ w. mul w i) h ∙ laws.mul_comm z i ∙ mul_zero laws i in
      n same

  -- where the high half is not zero, a norm of zero would make a value of trace false equal one of trace true
  norm_apart_high : (x : Quad K) → x.high ≢ z → norm add mul c x ≢ z
  norm_apart_high x n h =
      let a = x.low in let b = x.high in let d = inverse c in let e = inverse b in
      let be : mul b e ≡ o = laws.inverts b n in
      let cd : mul c d ≡ o = laws.inverts c twist_apart in
      let y = mul (mul a e) d in
      let env : List K = a ∷ (b ∷ (c ∷ (d ∷ (e ∷ [])))) in
      let va = var 0 in let vb = var 1 in let vc = var 2 in let vd = var 3 in let ve = var 4 in let vy = va ⊗ ve ⊗ vd in
      let scaled_norm : mul (mul (mul e d) (mul e d)) (norm add mul c x) ≡ add (add (mul y y) (mul (mul (mul b e) (mul c d)) y)) (mul (mul (mul b e) (mul b e)) (mul d d)) =
      solve laws env ((ve ⊗ vd) ⊗ (ve ⊗ vd) ⊗ (va ⊗ va ⊕ va ⊗ vb ⊗ vc ⊕ vb ⊗ vb)) (vy ⊗ vy ⊕ (vb ⊗ ve) ⊗ (vc ⊗ vd) ⊗ vy ⊕ (vb ⊗ ve) ⊗ (vb ⊗ ve) ⊗ (vd ⊗ vd)) refl in
      let ones : add (add (mul y y) (mul (mul o o) y)) (mul (mul o o) (mul d d)) ≡ add (add (mul y y) y) (mul d d) =
      solve laws env (vy ⊗ vy ⊕ unit ⊗ unit ⊗ vy ⊕ unit ⊗ unit ⊗ (vd ⊗ vd)) (vy ⊗ vy ⊕ vy ⊕ vd ⊗ vd) refl in
      let nothing : mul (mul (mul e d) (mul e d)) (norm add mul c x) ≡ z = ap (mul (mul (mul e d) (mul e d))) h ∙ mul_zero laws (mul (mul e d) (mul e d)) in
      let whole : add (add (mul y y) y) (mul d d) ≡ z = sym ones ∙ sym (rw (be, cd) at scaled_norm) ∙ nothing in
      let traced : trace (add (add (mul y y) y) (mul d d)) ≡ true =
      tower.trace_add (add (mul y y) y) (mul d d)
      ∙ ap (λ w. differ w (trace (mul d d))) (tower.trace_add (mul y y) y ∙ ap (λ w. differ w (trace y)) (tower.trace_square y) ∙ differ_self (trace y))
      ∙ ap (differ false) (tower.trace_square d ∙ tower.trace_inverse) in
      true_false (sym traced ∙ ap trace whole ∙ trace_zero)

  pub norm_apart : (x : Quad K) → x ≢ quad z z → norm add mul c x ≢ z
  norm_apart x n h =
      elim (is_zero x.high) [
        | inl p ↦
            let env : List K = x.low ∷ (c ∷ []) in
            let a = var 0 in let t = var 1 in
            let low_square : norm add mul c x ≡ mul x.low x.low =
            ap (λ w. add (add (mul x.low x.low) (mul (mul x.low w) c)) (mul w w)) p ∙ solve laws env (a ⊗ a ⊕ a ⊗ nil ⊗ t ⊕ nil ⊗ nil) (a ⊗ a) refl in
            elim (is_zero x.low) [
              | inl q ↦ n (quad_path q p)
              | inr m ↦ square_apart x.low m (sym low_square ∙ h)
            ]
        | inr m ↦ norm_apart_high x m h
      ]

  pub norm_zero : norm add mul c (quad z z) ≡ z
  norm_zero = solve laws (c ∷ []) (nil ⊗ nil ⊕ nil ⊗ nil ⊗ var 0 ⊕ nil ⊗ nil) nil refl

  pub quad_laws : FieldLaws (quad z z) (quad o z) (quad_add add) (quad_mul add mul c) (quad_inverse add mul inverse c) (quad_eq eq)
  quad_laws = record {
    add_comm = λ x y. quad_path (laws.add_comm x.low y.low) (laws.add_comm x.high y.high);
    add_assoc = λ x y w. quad_path (laws.add_assoc x.low y.low w.low) (laws.add_assoc x.high y.high w.high);
    add_zero = λ x. quad_path (laws.add_zero x.low) (laws.add_zero x.high);
    add_self = λ x. quad_path (laws.add_self x.low) (laws.add_self x.high);
    mul_comm = comm;
    mul_assoc = assoc;
    mul_one = one_right;
    distributes = spreads;
    apart = λ h. laws.apart (ap (λ x. x.low) h);
    inverts = λ x n. by_norm x (inverse (norm add mul c x)) ∙ quad_path (laws.inverts (norm add mul c x) (norm_apart x n)) refl;
    eq_self = λ x. both_true (eq x.low x.low) (eq x.high x.high) (laws.eq_self x.low) (laws.eq_self x.high);
    from_eq = λ x y h. let parts = from_and (eq x.low y.low) (eq x.high y.high) h in quad_path (laws.from_eq x.low y.low parts.0) (laws.from_eq x.high y.high parts.1);
  }

  trace_one_by_twist : trace (mul o c) ≡ true
  trace_one_by_twist = ap trace (one_mul laws c) ∙ tower.trace_twist

  pub quad_tower_laws : TowerLaws (quad_add add) (quad_mul add mul c) (quad_inverse add mul inverse c) (quad z o) (quad_trace mul c trace)
  quad_tower_laws = record {
    trace_add = λ x y.
        let env : List K = x.high ∷ (y.high ∷ (c ∷ [])) in
        let a = var 0 in let b = var 1 in let t = var 2 in
        ap trace (solve laws env ((a ⊕ b) ⊗ t) (a ⊗ t ⊕ b ⊗ t) refl) ∙ tower.trace_add (mul x.high c) (mul y.high c);
    trace_square = λ x.
        let env : List K = x.low ∷ (x.high ∷ (c ∷ [])) in
        let a = var 0 in let b = var 1 in let t = var 2 in
        ap trace (solve laws env ((a ⊗ b ⊕ b ⊗ a ⊕ t ⊗ (b ⊗ b)) ⊗ t) ((b ⊗ t) ⊗ (b ⊗ t)) refl) ∙ tower.trace_square (mul x.high c);
    trace_twist = trace_one_by_twist;
    trace_inverse =
        let env : List K = c ∷ [] in
        let t = var 0 in
        let norm_one : norm add mul c (quad z o) ≡ o = solve laws env (nil ⊗ nil ⊕ nil ⊗ unit ⊗ t ⊕ unit ⊗ unit) unit refl in
        let inverse_one : inverse o ≡ o = sym (one_mul laws (inverse o)) ∙ laws.inverts o laws.apart in
        ap (λ n. trace (mul (mul o (inverse n)) c)) norm_one ∙ ap (λ n. trace (mul (mul o n) c)) inverse_one
        ∙ ap (λ n. trace (mul n c)) (laws.mul_one o) ∙ trace_one_by_twist;
  }
