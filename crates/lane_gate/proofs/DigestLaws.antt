-- When two digests are the same.
use Rattle.std.proofs.Common.{◌≡◌, ℕ, bit_xor, sym, ap, ◌∙◌}
use Rattle.std.specs.Int.Bits.{xor_self, xor_zero_l, xor_zero_r, xor_assoc}

pub same-of-xor : (a b : ℕ) → bit_xor a b ≡ 0 → a ≡ b
same-of-xor a b none =
    sym (xor_zero_r a) ∙ (ap (bit_xor a) (sym (xor_self b)) ∙ (sym (xor_assoc a b b)
    ∙ (ap (λ n. bit_xor n b) none ∙ xor_zero_l b)))

pub xor-of-same : (a b : ℕ) → a ≡ b → bit_xor a b ≡ 0
xor-of-same a b same = ap (λ n. bit_xor n b) same ∙ xor_self b
