-- What faster bodies rest on: the product's laws at numbers, a product by three products, and a product with the twist.
use Rattle.std.specs.Prelude.{◌≡◌, ℕ, ◌+◌, ◌*◌, ◌/◌, ◌%◌, ◌^◌, ◌<◌, List, [], ◌∷◌, refl, bit_xor}
use Rattle.std.proofs.Common.{suc, sym, ◌∙◌, ap}
use Rattle.std.proofs.Math.Nat.{mod_self, div_self}
use Rattle.tower_laws.proofs.Rings.{var, ◌⊕◌, ◌⊗◌, solve, mul_zero, one_mul}
use Rattle.tower_numbers.specs.Levels.{product_at, twist_at}
use Rattle.tower_laws.specs.Elements.{Element, element_zero}
use Rattle.tower_laws.proofs.ElementLaws.{level_laws}
use Rattle.tower_numbers.proofs.Bounds.{low_below, high_below, half_pos}

abbrev in_level : (k a : ℕ) → a < 2 ^ (2 ^ k) → Element k
in_level k a h = record { value = a; in_range = h }

pub product_comm : (k a b : ℕ) → a < 2 ^ (2 ^ k) → b < 2 ^ (2 ^ k) → product_at k a b ≡ product_at k b a
product_comm k a b h i = ap (λ x. x.value) ((level_laws k).0.mul_comm (in_level k a h) (in_level k b i))

pub product_assoc : (k a b c : ℕ) → a < 2 ^ (2 ^ k) → b < 2 ^ (2 ^ k) → c < 2 ^ (2 ^ k) → product_at k (product_at k a b) c ≡ product_at k a (product_at k b c)
product_assoc k a b c h i j = ap (λ x. x.value) ((level_laws k).0.mul_assoc (in_level k a h) (in_level k b i) (in_level k c j))

pub zero_times : (k a : ℕ) → a < 2 ^ (2 ^ k) → product_at k 0 a ≡ 0
zero_times k a h =
    let laws = (level_laws k).0 in
    ap (λ x. x.value) (laws.mul_comm (element_zero k) (in_level k a h) ∙ mul_zero laws (in_level k a h))

pub one_times : (k a : ℕ) → a < 2 ^ (2 ^ k) → product_at k 1 a ≡ a
one_times k a h = ap (λ x. x.value) (one_mul (level_laws k).0 (in_level k a h))

pub times_one : (k a : ℕ) → a < 2 ^ (2 ^ k) → product_at k a 1 ≡ a
times_one k a h = ap (λ x. x.value) ((level_laws k).0.mul_one (in_level k a h))

pub crossed : (k a0 a1 b0 b1 : ℕ) → a0 < 2 ^ (2 ^ k) → a1 < 2 ^ (2 ^ k) → b0 < 2 ^ (2 ^ k) → b1 < 2 ^ (2 ^ k) →
    bit_xor (bit_xor (product_at k (bit_xor a0 a1) (bit_xor b0 b1)) (product_at k a0 b0)) (product_at k a1 b1)
    ≡ bit_xor (product_at k a0 b1) (product_at k a1 b0)
crossed k a0 a1 b0 b1 h i j l =
    let a = var 0 in let a' = var 1 in let b = var 2 in let b' = var 3 in
    let env : List (Element k) = in_level k a0 h ∷ (in_level k a1 i ∷ (in_level k b0 j ∷ (in_level k b1 l ∷ []))) in
    ap (λ x. x.value) (solve (level_laws k).0 env ((a ⊕ a') ⊗ (b ⊕ b') ⊕ a ⊗ b ⊕ a' ⊗ b') (a ⊗ b' ⊕ a' ⊗ b) refl)

-- a product by three products of halves and one with the twist
pub by_three : (k a b : ℕ) → a < 2 ^ (2 ^ suc k) → b < 2 ^ (2 ^ suc k) →
    let half = 2 ^ (2 ^ k) in
    let lows = product_at k (a % half) (b % half) in
    let highs = product_at k (a / half) (b / half) in
    let whole = product_at k (bit_xor (a % half) (a / half)) (bit_xor (b % half) (b / half)) in
    product_at (suc k) a b ≡ bit_xor (bit_xor (bit_xor whole lows) highs) (product_at k (twist_at k) highs) * half + bit_xor lows highs
unfolding product_at
by_three k a b h i =
    let half = 2 ^ (2 ^ k) in
    let lows = product_at k (a % half) (b % half) in
    let highs = product_at k (a / half) (b / half) in
    ap (λ w. bit_xor w (product_at k (twist_at k) highs) * half + bit_xor lows highs)
    (sym (crossed k (a % half) (a / half) (b % half) (b / half) (low_below k a) (high_below k a h) (low_below k b) (high_below k b i)))

-- the twist is X, so its product moves the high half down
pub by_twist : (k a : ℕ) → a < 2 ^ (2 ^ suc k) →
    let half = 2 ^ (2 ^ k) in
    product_at (suc k) (twist_at (suc k)) a ≡ bit_xor (a % half) (product_at k (twist_at k) (a / half)) * half + a / half
unfolding product_at twist_at
by_twist k a h =
    let half = 2 ^ (2 ^ k) in
    let low = low_below k a in
    let high = high_below k a h in
    let none : half % half ≡ 0 = mod_self half in
    let once : half / half ≡ 1 = div_self (half_pos k) in
    let e1 : product_at k (half % half) (a % half) ≡ 0 = ap (λ n. product_at k n (a % half)) none ∙ zero_times k (a % half) low in
    let e2 : product_at k (half / half) (a / half) ≡ a / half = ap (λ n. product_at k n (a / half)) once ∙ one_times k (a / half) high in
    let e3 : product_at k (half % half) (a / half) ≡ 0 = ap (λ n. product_at k n (a / half)) none ∙ zero_times k (a / half) high in
    let e4 : product_at k (half / half) (a % half) ≡ a % half = ap (λ n. product_at k n (a % half)) once ∙ one_times k (a % half) low in
    rw (e1, e2, e3, e4)
