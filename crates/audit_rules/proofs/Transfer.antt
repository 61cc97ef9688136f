-- What holds of elements of level 7 holds of their numbers: the sums, values and products of numbers are the numbers of those
-- of elements.
use Rattle.std.specs.Prelude.{◌≡◌, ℕ, ◌<◌, ◌^◌, List, [], ◌∷◌, length, All, bit_xor, refl}
use Rattle.std.proofs.Common.{zero, suc, ◌∙◌, ap, get_or, set}
use Rattle.std.proofs.lemmas.List.Elements.{All-head, All-tail}
use Rattle.tower_numbers.specs.Levels.{inverse_at}
use Rattle.tower_laws.specs.Elements.{Element, element_zero, element_add, element_mul, element_inverse}
use Rattle.tower_laws.specs.Gf.{values}
use Rattle.tower_laws.specs.Polynomials.{value_at, plus_of, scaled_of, times_of}
use Rattle.audit_rules.specs.Sketch as sketch
use Rattle.audit_rules.specs.Audit.{product, value, sums_of, bad_s, bad_r_divisor, bad_r, difference}

abbrev pub E : Type 0
E = Element 7

abbrev pub z : E
z = element_zero 7

abbrev pub add : E → E → E
add = element_add 7

abbrev pub mul : E → E → E
mul = element_mul 7

abbrev pub inverse : E → E
inverse = element_inverse 7

-- the element with a number that is in range
abbrev pub element : (n : ℕ) → n < 2 ^ 128 → E
element n h = record { value = n; in_range = h }

abbrev pub elements : (ns : List ℕ) → All (λ n. n < 2 ^ 128) ns → List E
elements [] h = []
elements (n ∷ ns) h = element n (All-head (λ n. n < 2 ^ 128) n ns h) ∷ elements ns (All-tail (λ n. n < 2 ^ 128) n ns h)

pub values-elements : (ns : List ℕ) (h : All (λ n. n < 2 ^ 128) ns) → values (elements ns h) ≡ ns
values-elements [] h = refl
values-elements (n ∷ ns) h = ap (λ ms. n ∷ ms) (values-elements ns (All-tail (λ n. n < 2 ^ 128) n ns h))

pub length-values : (xs : List E) → length (values xs) ≡ length xs
length-values [] = refl
length-values (x ∷ xs) = ap suc (length-values xs)

pub get_or-values : (xs : List E) (i : ℕ) → get_or (values xs) i 0 ≡ (get_or xs i z).value
get_or-values [] i = refl
get_or-values (x ∷ xs) zero = refl
get_or-values (x ∷ xs) (suc i) = get_or-values xs i

pub get_or-default : (xs : List E) (i : ℕ) (d : E) → get_or (values xs) i d.value ≡ (get_or xs i d).value
get_or-default [] i d = refl
get_or-default (x ∷ xs) zero d = refl
get_or-default (x ∷ xs) (suc i) d = get_or-default xs i d

pub set-values : (xs : List E) (i : ℕ) → set (values xs) i 0 ≡ values (set xs i z)
set-values [] i = refl
set-values (x ∷ xs) zero = refl
set-values (x ∷ xs) (suc i) = ap (λ ns. x.value ∷ ns) (set-values xs i)

pub total-values : (w : List E) → sketch.total 0 bit_xor (values w) ≡ (sketch.total z add w).value
total-values [] = refl
total-values (x ∷ w) = ap (bit_xor x.value) (total-values w)

pub dot-values : (w r : List E) → sketch.dot 0 bit_xor product (values w) (values r) ≡ (sketch.dot z add mul w r).value
dot-values [] r = refl
dot-values (x ∷ w) [] = refl
dot-values (x ∷ w) (y ∷ r) = ap (bit_xor (product x.value y.value)) (dot-values w r)

pub dot3-values : (w r s : List E) → sketch.dot3 0 bit_xor product (values w) (values r) (values s) ≡ (sketch.dot3 z add mul w r s).value
dot3-values [] r s = refl
dot3-values (x ∷ w) [] s = refl
dot3-values (x ∷ w) (y ∷ r) [] = refl
dot3-values (x ∷ w) (y ∷ r) (k ∷ s) = ap (bit_xor (product (product x.value y.value) k.value)) (dot3-values w r s)

pub sums-values : (w r s : List E) →
    sums_of (values w) (values r) (values s) ≡ record { x = (sketch.dot z add mul w r).value; y = (sketch.dot z add mul w s).value; m = (sketch.total z add w).value; z = (sketch.dot3 z add mul w r s).value }
unfolding sums_of
sums-values w r s = let x = dot-values w r in let y = dot-values w s in let m = total-values w in let k = dot3-values w r s in cc

pub both-values : (v w : List E) → difference (values v) (values w) ≡ values (sketch.both add v w)
both-values [] w = refl
both-values (x ∷ v) [] = refl
both-values (x ∷ v) (y ∷ w) = ap (λ ns. bit_xor x.value y.value ∷ ns) (both-values v w)

pub bad_s-values : (w s : List E) (a b : ℕ) → bad_s (values w) (values s) a b ≡ (sketch.bad_s z add mul inverse w s a b).value
unfolding bad_s
bad_s-values w s a b =
    ap (λ n. product (inverse_at 7 n) (bit_xor (sketch.dot 0 bit_xor product (values w) (set (values s) b 0)) (product (sketch.total 0 bit_xor (values w)) (get_or (values s) a 0)))) (get_or-values w b)
    ∙ ap (λ l. product (inverse_at 7 (get_or w b z).value) (bit_xor (sketch.dot 0 bit_xor product (values w) l) (product (sketch.total 0 bit_xor (values w)) (get_or (values s) a 0)))) (set-values s b)
    ∙ ap (λ n. product (inverse_at 7 (get_or w b z).value) (bit_xor n (product (sketch.total 0 bit_xor (values w)) (get_or (values s) a 0)))) (dot-values w (set s b z))
    ∙ ap (λ n. product (inverse_at 7 (get_or w b z).value) (bit_xor (sketch.dot z add mul w (set s b z)).value (product n (get_or (values s) a 0)))) (total-values w)
    ∙ ap (λ n. product (inverse_at 7 (get_or w b z).value) (bit_xor (sketch.dot z add mul w (set s b z)).value (product (sketch.total z add w).value n))) (get_or-values s a)

verdict-values : (w r s : List E) → sketch.verdict 0 bit_xor product (values w) (values r) (values s) ≡ (sketch.verdict z add mul w r s).value
verdict-values w r s =
    ap (λ n. bit_xor (product n (sketch.dot 0 bit_xor product (values w) (values s))) (product (sketch.total 0 bit_xor (values w)) (sketch.dot3 0 bit_xor product (values w) (values r) (values s)))) (dot-values w r)
    ∙ ap (λ n. bit_xor (product (sketch.dot z add mul w r).value n) (product (sketch.total 0 bit_xor (values w)) (sketch.dot3 0 bit_xor product (values w) (values r) (values s)))) (dot-values w s)
    ∙ ap (λ n. bit_xor (product (sketch.dot z add mul w r).value (sketch.dot z add mul w s).value) (product n (sketch.dot3 0 bit_xor product (values w) (values r) (values s)))) (total-values w)
    ∙ ap (λ n. bit_xor (product (sketch.dot z add mul w r).value (sketch.dot z add mul w s).value) (product (sketch.total z add w).value n)) (dot3-values w r s)

pub divisor-values : (w s : List E) (a : ℕ) → bad_r_divisor (values w) (values s) a ≡ (sketch.divisor z add mul w s a).value
unfolding bad_r_divisor
divisor-values w s a =
    ap (λ n. product n (bit_xor (sketch.dot 0 bit_xor product (values w) (values s)) (product (sketch.total 0 bit_xor (values w)) (get_or (values s) a 0)))) (get_or-values w a)
    ∙ ap (λ n. product (get_or w a z).value (bit_xor n (product (sketch.total 0 bit_xor (values w)) (get_or (values s) a 0)))) (dot-values w s)
    ∙ ap (λ n. product (get_or w a z).value (bit_xor (sketch.dot z add mul w s).value (product n (get_or (values s) a 0)))) (total-values w)
    ∙ ap (λ n. product (get_or w a z).value (bit_xor (sketch.dot z add mul w s).value (product (sketch.total z add w).value n))) (get_or-values s a)

pub bad_r-values : (w r s : List E) (a : ℕ) → bad_r (values w) (values r) (values s) a ≡ (sketch.bad_r z add mul inverse w r s a).value
unfolding bad_r bad_r_divisor
bad_r-values w r s a =
    ap (λ l. product (inverse_at 7 (sketch.divisor 0 bit_xor product (values w) (values s) a)) (sketch.verdict 0 bit_xor product (values w) l (values s))) (set-values r a)
    ∙ ap (λ n. product (inverse_at 7 n) (sketch.verdict 0 bit_xor product (values w) (values (set r a z)) (values s))) (divisor-values w s a)
    ∙ ap (λ n. product (inverse_at 7 (sketch.divisor z add mul w s a).value) n) (verdict-values w (set r a z) s)

pub value-values : (p : List E) (x : E) → value (values p) x.value ≡ (value_at z add mul p x).value
value-values [] x = refl
value-values (c ∷ p) x = ap (λ n. bit_xor c.value (product x.value n)) (value-values p x)

pub plus-values : (p q : List E) → plus_of bit_xor (values p) (values q) ≡ values (plus_of add p q)
plus-values [] q = refl
plus-values (c ∷ p) [] = refl
plus-values (c ∷ p) (d ∷ q) = ap (λ ns. bit_xor c.value d.value ∷ ns) (plus-values p q)

scaled-values : (c : E) (q : List E) → scaled_of product c.value (values q) ≡ values (scaled_of mul c q)
scaled-values c [] = refl
scaled-values c (d ∷ q) = ap (λ ns. product c.value d.value ∷ ns) (scaled-values c q)

pub times-values : (p q : List E) → times_of 0 bit_xor product (values p) (values q) ≡ values (times_of z add mul p q)
times-values [] q = refl
times-values (c ∷ p) q =
    ap (λ l. plus_of bit_xor l (0 ∷ times_of 0 bit_xor product (values p) (values q))) (scaled-values c q)
    ∙ ap (λ l. plus_of bit_xor (values (scaled_of mul c q)) (0 ∷ l)) (times-values p q)
    ∙ plus-values (scaled_of mul c q) (z ∷ times_of z add mul p q)
