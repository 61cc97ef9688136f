-- The sketch of a difference vector w with two challenge vectors r and s, over the operations of any field,
-- and the two values of a challenge that hide a bad vector.
use Rattle.std.specs.Prelude.{ℕ, List, [], ◌∷◌}
use Rattle.std.proofs.Common.{get_or, set}

-- the sum of w
abbrev pub total : {F : Type 0} → F → (F → F → F) → List F → F
total z add [] = z
total z add (x ∷ w) = add x (total z add w)

-- the sum of w_i · r_i
abbrev pub dot : {F : Type 0} → F → (F → F → F) → (F → F → F) → List F → List F → F
dot z add mul [] r = z
dot z add mul (x ∷ w) [] = z
dot z add mul (x ∷ w) (y ∷ r) = add (mul x y) (dot z add mul w r)

-- the sum of w_i · r_i · s_i
abbrev pub dot3 : {F : Type 0} → F → (F → F → F) → (F → F → F) → List F → List F → List F → F
dot3 z add mul [] r s = z
dot3 z add mul (x ∷ w) [] s = z
dot3 z add mul (x ∷ w) (y ∷ r) [] = z
dot3 z add mul (x ∷ w) (y ∷ r) (k ∷ s) = add (mul (mul x y) k) (dot3 z add mul w r s)

-- what is zero where w is zero everywhere but at one place
abbrev pub verdict : {F : Type 0} → F → (F → F → F) → (F → F → F) → List F → List F → List F → F
verdict z add mul w r s =
    add (mul (dot z add mul w r) (dot z add mul w s)) (mul (total z add w) (dot3 z add mul w r s))

-- the value of s at b that hides w, from the other places
abbrev pub bad_s : {F : Type 0} → F → (F → F → F) → (F → F → F) → (F → F) → List F → List F → ℕ → ℕ → F
bad_s z add mul inverse w s a b =
    mul (inverse (get_or w b z)) (add (dot z add mul w (set s b z)) (mul (total z add w) (get_or s a z)))

-- what divides in the bad value of r
abbrev pub divisor : {F : Type 0} → F → (F → F → F) → (F → F → F) → List F → List F → ℕ → F
divisor z add mul w s a = mul (get_or w a z) (add (dot z add mul w s) (mul (total z add w) (get_or s a z)))

-- the value of r at a that hides w, from the other places
abbrev pub bad_r : {F : Type 0} → F → (F → F → F) → (F → F → F) → (F → F) → List F → List F → List F → ℕ → F
bad_r z add mul inverse w r s a = mul (inverse (divisor z add mul w s a)) (verdict z add mul w (set r a z) s)

-- the sum of two lists, place by place
abbrev pub both : {F : Type 0} → (F → F → F) → List F → List F → List F
both add [] w = []
both add (x ∷ v) [] = []
both add (x ∷ v) (y ∷ w) = add x y ∷ both add v w
