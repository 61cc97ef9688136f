-- Sums, products and inverses of numbers of a level are numbers of that level.
use Rattle.std.specs.Prelude.{◌≡◌, ℕ, ◌+◌, ◌*◌, ◌/◌, ◌%◌, ◌^◌, ◌<◌, ◌≤◌}
use Rattle.std.proofs.Common.{zero, suc, ◌∙◌, ap, subst, arith}
use Rattle.std.proofs.Math.Nat.{pow-suc}
use Rattle.std.proofs.lemmas.Nat.{pow_pos, pow-add, xor_lt, mod_below, shr_below, mul-add-lt, mul-le}
use Rattle.std.proofs.lemmas.Nat.{pow_below}
use Rattle.tower_numbers.specs.Levels.{twist_at, product_at, inverse_at}

pub half_pos : (k : ℕ) → 0 < 2 ^ (2 ^ k)
half_pos k = pow_pos (2 ^ k)

width_suc : (k : ℕ) → 2 ^ suc k ≡ 2 ^ k + 2 ^ k
width_suc k = let p : 2 ^ suc k ≡ 2 ^ k * 2 = pow-suc 2 k in omega arith

-- a level has the square of what the level below has
pub size_suc : (k : ℕ) → 2 ^ (2 ^ suc k) ≡ 2 ^ (2 ^ k) * 2 ^ (2 ^ k)
size_suc k = ap (λ n. 2 ^ n) (width_suc k) ∙ pow-add 2 (2 ^ k) (2 ^ k)

pub joined_below : (k low high : ℕ) → low < 2 ^ (2 ^ k) → high < 2 ^ (2 ^ k) → high * 2 ^ (2 ^ k) + low < 2 ^ (2 ^ suc k)
joined_below k low high l h = rw (size_suc k) (mul-add-lt high (2 ^ (2 ^ k)) low (2 ^ (2 ^ k)) h l)

pub low_below : (k a : ℕ) → a % 2 ^ (2 ^ k) < 2 ^ (2 ^ k)
low_below k a = mod_below a (2 ^ (2 ^ k)) (half_pos k)

pub high_below : (k a : ℕ) → a < 2 ^ (2 ^ suc k) → a / 2 ^ (2 ^ k) < 2 ^ (2 ^ k)
high_below k a h = shr_below a (2 ^ k) (2 ^ k) (subst (λ n. a < 2 ^ n) (width_suc k) h)

pub twist_below : (k : ℕ) → twist_at k < 2 ^ (2 ^ k)
unfolding twist_at
twist_below zero = omega arith
twist_below (suc k) = pow_below (2 ^ k) (2 ^ suc k) (pow_below k (suc k) (omega arith))

pub product_below : (k a b : ℕ) → a < 2 ^ (2 ^ k) → b < 2 ^ (2 ^ k) → product_at k a b < 2 ^ (2 ^ k)
unfolding product_at
product_below zero a b h i = let p : a * b ≤ 1 * 1 = mul-le a b 1 1 (omega arith) (omega arith) in omega arith
product_below (suc k) a b h i =
    let half = 2 ^ (2 ^ k) in
    let a0 = low_below k a in
    let a1 = high_below k a h in
    let b0 = low_below k b in
    let b1 = high_below k b i in
    let highs = product_below k (a / half) (b / half) a1 b1 in
    joined_below k _ _
    (xor_lt (2 ^ k) _ _ (product_below k (a % half) (b % half) a0 b0) highs)
    (xor_lt (2 ^ k) _ _ (xor_lt (2 ^ k) _ _ (product_below k (a % half) (b / half) a0 b1) (product_below k (a / half) (b % half) a1 b0)) (product_below k (twist_at k) _ (twist_below k) highs))

pub inverse_below : (k a : ℕ) → a < 2 ^ (2 ^ k) → inverse_at k a < 2 ^ (2 ^ k)
unfolding inverse_at
inverse_below zero a h = h
inverse_below (suc k) a h =
    let a0 = low_below k a in
    let a1 = high_below k a h in
    let c = twist_below k in
    let by = inverse_below k _ (xor_lt (2 ^ k) _ _ (xor_lt (2 ^ k) _ _ (product_below k _ _ a0 a0) (product_below k _ _ (product_below k _ _ a0 a1) c)) (product_below k _ _ a1 a1)) in
    joined_below k _ _ (product_below k _ _ (xor_lt (2 ^ k) _ _ a0 (product_below k _ _ a1 c)) by) (product_below k _ _ a1 by)

pub one_below : (k : ℕ) → 1 < 2 ^ (2 ^ k)
one_below k = let p : 2 ^ 0 < 2 ^ (2 ^ k) = pow_below 0 (2 ^ k) (pow_pos k) in p
