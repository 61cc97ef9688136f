-- The width of a half, as the code computes it, and the steps of the recursions at `level - 1`.
use Rattle.std.proofs.Common.{◌≡◌, ℕ, suc, ◌+◌, ◌-◌, ◌*◌, ◌/◌, ◌%◌, ◌^◌, ◌<◌, ◌≤◌, subst, arith, refl}
use Rattle.std.proofs.Math.Nat.{pow-le-pow_right}
use Rattle.std.proofs.lemmas.Nat.{one_shl}
use Rattle.std.specs.Prelude.{bit_xor}
use Rattle.tower_numbers.specs.Levels.{twist_at, product_at, inverse_at}
use Rattle.tower_numbers.proofs.Bounds.{joined_below, high_below}
use Rattle.tower_laws.proofs.Products.{by_three, by_twist}

pub width_small : (k : ℕ) → k < 7 → (1 * 2 ^ k) % 2 ^ 32 ≤ 64
width_small k h =
    let p : (1 * 2 ^ k) % 2 ^ 32 ≡ 2 ^ k = one_shl k 32 (omega arith) in
    let two : 0 < 2 = omega arith in
    let six : k ≤ 6 = omega arith in
    let q : 2 ^ k ≤ 2 ^ 6 = pow-le-pow_right two six in
    omega arith

pub level_suc : (n : ℕ) → 0 < n → suc (n - 1) ≡ n
level_suc n h = omega arith

-- what holds at suc k, at a level above 0
pub at_level : (P : ℕ → ℕ → Type 0) → ((k : ℕ) → P k (suc k)) → (n : ℕ) → 0 < n → P (n - 1) n
at_level P p n h = subst (λ m. P (n - 1) m) (level_suc n h) (p (n - 1))

pub joined_small : (n low high : ℕ) → 0 < n → low < 2 ^ (2 ^ (n - 1)) → high < 2 ^ (2 ^ (n - 1)) → high * 2 ^ (2 ^ (n - 1)) + low < 2 ^ (2 ^ n)
joined_small n low high h l m = at_level (λ k n. low < 2 ^ (2 ^ k) → high < 2 ^ (2 ^ k) → high * 2 ^ (2 ^ k) + low < 2 ^ (2 ^ n)) (λ k. joined_below k low high) n h l m

pub high_small : (n a : ℕ) → 0 < n → a < 2 ^ (2 ^ n) → a / 2 ^ (2 ^ (n - 1)) < 2 ^ (2 ^ (n - 1))
high_small n a h l = at_level (λ k n. a < 2 ^ (2 ^ n) → a / 2 ^ (2 ^ k) < 2 ^ (2 ^ k)) (λ k. high_below k a) n h l

pub twist_above : (n : ℕ) → 0 < n → twist_at n ≡ 2 ^ (2 ^ (n - 1))
unfolding twist_at
twist_above n h = at_level (λ k n. twist_at n ≡ 2 ^ (2 ^ k)) (λ k. refl) n h

pub inverse_above : (n a : ℕ) → 0 < n →
    let k = n - 1 in
    let half = 2 ^ (2 ^ k) in
    let by = inverse_at k (bit_xor (bit_xor (product_at k (a % half) (a % half)) (product_at k (product_at k (a % half) (a / half)) (twist_at k))) (product_at k (a / half) (a / half))) in
    inverse_at n a ≡ product_at k (a / half) by * half + product_at k (bit_xor (a % half) (product_at k (a / half) (twist_at k))) by
unfolding inverse_at
inverse_above n a h =
    at_level
    (λ k n.
    let half = 2 ^ (2 ^ k) in
    let by = inverse_at k (bit_xor (bit_xor (product_at k (a % half) (a % half)) (product_at k (product_at k (a % half) (a / half)) (twist_at k))) (product_at k (a / half) (a / half))) in
    inverse_at n a ≡ product_at k (a / half) by * half + product_at k (bit_xor (a % half) (product_at k (a / half) (twist_at k))) by)
    (λ k. refl) n h

pub by_three_above : (n a b : ℕ) → 0 < n → a < 2 ^ (2 ^ n) → b < 2 ^ (2 ^ n) →
    let k = n - 1 in
    let half = 2 ^ (2 ^ k) in
    let lows = product_at k (a % half) (b % half) in
    let highs = product_at k (a / half) (b / half) in
    let whole = product_at k (bit_xor (a % half) (a / half)) (bit_xor (b % half) (b / half)) in
    product_at n a b ≡ bit_xor (bit_xor (bit_xor whole lows) highs) (product_at k (twist_at k) highs) * half + bit_xor lows highs
by_three_above n a b h i j =
    at_level
    (λ k n.
    let half = 2 ^ (2 ^ k) in
    let lows = product_at k (a % half) (b % half) in
    let highs = product_at k (a / half) (b / half) in
    let whole = product_at k (bit_xor (a % half) (a / half)) (bit_xor (b % half) (b / half)) in
    a < 2 ^ (2 ^ n) → b < 2 ^ (2 ^ n) → product_at n a b ≡ bit_xor (bit_xor (bit_xor whole lows) highs) (product_at k (twist_at k) highs) * half + bit_xor lows highs)
    (λ k. by_three k a b) n h i j

pub twisted_above : (n a : ℕ) → 0 < n → a < 2 ^ (2 ^ n) →
    let k = n - 1 in
    let half = 2 ^ (2 ^ k) in
    product_at n (twist_at n) a ≡ bit_xor (a % half) (product_at k (twist_at k) (a / half)) * half + a / half
twisted_above n a h i =
    at_level (λ k n. let half = 2 ^ (2 ^ k) in a < 2 ^ (2 ^ n) → product_at n (twist_at n) a ≡ bit_xor (a % half) (product_at k (twist_at k) (a / half)) * half + a / half)
    (λ k. by_twist k a) n h i
