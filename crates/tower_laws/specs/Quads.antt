-- The next level over a level K: pairs low + high·X with X² = c·X + 1, where c is K's constant.
use Rattle.std.specs.Prelude.{Bool, ◌&&◌}
use Rattle.tower_laws.specs.declared.quad.Quad.{Quad}

abbrev pub quad : {K : Type 0} → K → K → Quad K
quad a b = record { low = a; high = b }

abbrev pub quad_add : {K : Type 0} → (K → K → K) → Quad K → Quad K → Quad K
quad_add add x y = quad (add x.low y.low) (add x.high y.high)

abbrev pub quad_mul : {K : Type 0} → (K → K → K) → (K → K → K) → K → Quad K → Quad K → Quad K
quad_mul add mul c x y =
    quad
    (add (mul x.low y.low) (mul x.high y.high))
    (add (add (mul x.low y.high) (mul x.high y.low)) (mul c (mul x.high y.high)))

abbrev pub norm : {K : Type 0} → (K → K → K) → (K → K → K) → K → Quad K → K
norm add mul c x = add (add (mul x.low x.low) (mul (mul x.low x.high) c)) (mul x.high x.high)

abbrev pub quad_inverse : {K : Type 0} → (K → K → K) → (K → K → K) → (K → K) → K → Quad K → Quad K
quad_inverse add mul inverse c x =
    let n = inverse (norm add mul c x) in
    quad (mul (add x.low (mul x.high c)) n) (mul x.high n)

abbrev pub quad_eq : {K : Type 0} → (K → K → Bool) → Quad K → Quad K → Bool
quad_eq eq x y = eq x.low y.low && eq x.high y.high

abbrev pub quad_trace : {K : Type 0} → (K → K → K) → K → (K → Bool) → Quad K → Bool
quad_trace mul c trace x = trace (mul x.high c)
