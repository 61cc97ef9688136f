use Rattle.std.proofs.Common.{◌≡◌, ℕ, ◌/◌, ◌%◌, ◌^◌, [], ◌∷◌, slice_index}
use Rattle.chacha_expand.proofs.LaneLemmas.{below_eight}
use Rattle.chacha_expand.proofs.challenges.address_halves.Goals as goal

pub returns-clause-low : goal.returns-clause-low
returns-clause-low c =
    let lows =
    c.low_half.result ∷ c.low_half-2.result ∷ c.low_half-3.result ∷ c.low_half-4.result
    ∷ c.low_half-5.result ∷ c.low_half-6.result ∷ c.low_half-7.result ∷ c.low_half-8.result ∷ [] in
    below_eight (λ (j : ℕ). slice_index lows j ≡ slice_index c.args.addresses.now j % 2 ^ 64)
    c.low_half.ensures c.low_half-2.ensures c.low_half-3.ensures c.low_half-4.ensures
    c.low_half-5.ensures c.low_half-6.ensures c.low_half-7.ensures c.low_half-8.ensures

pub returns-clause-high : goal.returns-clause-high
returns-clause-high c =
    let highs =
    c.high_half.result ∷ c.high_half-2.result ∷ c.high_half-3.result ∷ c.high_half-4.result
    ∷ c.high_half-5.result ∷ c.high_half-6.result ∷ c.high_half-7.result ∷ c.high_half-8.result ∷ [] in
    below_eight (λ (j : ℕ). slice_index highs j ≡ slice_index c.args.addresses.now j / 2 ^ 64)
    c.high_half.ensures c.high_half-2.ensures c.high_half-3.ensures c.high_half-4.ensures
    c.high_half-5.ensures c.high_half-6.ensures c.high_half-7.ensures c.high_half-8.ensures
