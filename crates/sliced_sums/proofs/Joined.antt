-- Sums and products of numbers that are given by their halves.
use Rattle.std.specs.Prelude.{◌≡◌, ℕ, ◌+◌, ◌*◌, ◌^◌, ◌<◌, bit_xor}
use Rattle.std.proofs.Common.{suc}
use Rattle.std.proofs.lemmas.Nat.{xor_block, mod_low, shr_high}
use Rattle.tower_numbers.specs.Levels.{product_at, twist_at}
use Rattle.tower_numbers.proofs.Bounds.{joined_below}
use Rattle.tower_laws.proofs.Products.{by_three, by_twist}

abbrev pub joined : ℕ → ℕ → ℕ → ℕ
joined k high low = high * 2 ^ (2 ^ k) + low

pub joined_sum : (k a1 a0 b1 b0 : ℕ) → a0 < 2 ^ (2 ^ k) → b0 < 2 ^ (2 ^ k) → bit_xor (joined k a1 a0) (joined k b1 b0) ≡ joined k (bit_xor a1 b1) (bit_xor a0 b0)
joined_sum k a1 a0 b1 b0 h i = xor_block (2 ^ k) a1 b1 a0 b0 h i

pub joined_twist : (k a1 a0 : ℕ) → a1 < 2 ^ (2 ^ k) → a0 < 2 ^ (2 ^ k) → product_at (suc k) (twist_at (suc k)) (joined k a1 a0) ≡ joined k (bit_xor a0 (product_at k (twist_at k) a1)) a1
joined_twist k a1 a0 h i =
    let step = by_twist k (joined k a1 a0) (joined_below k a0 a1 i h) in
    let low = mod_low a1 (2 ^ k) a0 i in
    let high = shr_high a1 (2 ^ k) a0 i in
    cc

pub joined_product : (k a1 a0 b1 b0 : ℕ) → a1 < 2 ^ (2 ^ k) → a0 < 2 ^ (2 ^ k) → b1 < 2 ^ (2 ^ k) → b0 < 2 ^ (2 ^ k) →
    let lows = product_at k a0 b0 in
    let highs = product_at k a1 b1 in
    let whole = product_at k (bit_xor a0 a1) (bit_xor b0 b1) in
    product_at (suc k) (joined k a1 a0) (joined k b1 b0) ≡ joined k (bit_xor (bit_xor (bit_xor whole lows) highs) (product_at k (twist_at k) highs)) (bit_xor lows highs)
joined_product k a1 a0 b1 b0 h i j l =
    let step = by_three k (joined k a1 a0) (joined k b1 b0) (joined_below k a0 a1 i h) (joined_below k b0 b1 l j) in
    let a_low = mod_low a1 (2 ^ k) a0 i in
    let a_high = shr_high a1 (2 ^ k) a0 i in
    let b_low = mod_low b1 (2 ^ k) b0 l in
    let b_high = shr_high b1 (2 ^ k) b0 l in
    cc
