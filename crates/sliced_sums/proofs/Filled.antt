-- Lists that are filled place by place, and a bit of a byte of a number.
use Rattle.std.specs.Prelude.{◌≡◌, ℕ, ◌+◌, ◌*◌, ◌/◌, ◌%◌, ◌^◌, ◌<◌, List, length}
use store.Seg.{eqb_same}
use Rattle.std.proofs.lemmas.Nat.{pow_pos}
use Rattle.std.proofs.Common.{zero, suc, cond, ◌==◌, sym, ◌∙◌, ap, subst, get_or, set, inl, inr, get_or-set_same, get_or-set_other, arith}
use Rattle.std.specs.Int.{bit_at}
use Rattle.std.proofs.lemmas.Bool.{cases_eq}
use Rattle.std.proofs.lemmas.Nat.{shr-shr, shr_split}
use Rattle.std.proofs.lemmas.Nat.Bits.{bit_at_cat_low}

pub filled : {A : Type 0} (xs : List A) (i : ℕ) (x d : A) (P : ℕ → A → Type 0) → i < length xs → P i x → ((j : ℕ) → j < i → P j (get_or xs j d)) → (j : ℕ) → j < i + 1 → P j (get_or (set xs i x) j d)
filled xs i x d P within new old j k =
    elim (cases_eq j i) [
      | inl e ↦ subst (λ n. P n (get_or (set xs i x) n d)) (sym e) (subst (P i) (sym (get_or-set_same xs i x d within)) new)
      | inr n ↦ subst (P j) (sym (get_or-set_other xs i j x d n)) (old j (omega arith))
    ]

pub bit_of_byte : (n bit : ℕ) → bit_at (n / 2 ^ (8 * (bit / 8)) % 2 ^ 8) (bit % 8) ≡ bit_at n bit
bit_of_byte n bit =
    let m = n / 2 ^ (8 * (bit / 8)) in
    let place : 8 * (bit / 8) + bit % 8 ≡ bit = omega arith in
    sym (bit_at_cat_low (m / 2 ^ 8) 8 (m % 2 ^ 8) (bit % 8) (omega arith))
    ∙ ap (λ t. bit_at t (bit % 8)) (shr_split m 8)
    ∙ ap (λ t. t % 2) (shr-shr n (8 * (bit / 8)) (bit % 8))
    ∙ ap (bit_at n) place

unset_flag : (p : ℕ) → 0 < p → cond {A = ℕ} (0 == p) 1 0 ≡ 0
unset_flag p i = grind arith

same_flag : (b p : ℕ) → b < 2 → 0 < p → cond {A = ℕ} (b * p == p) 1 0 ≡ b
same_flag zero p h i = let none : 0 * p ≡ 0 = omega arith in ap (λ (n : ℕ). cond {A = ℕ} (n == p) 1 0) none ∙ unset_flag p i
same_flag (suc zero) p h i = let whole : 1 * p ≡ p = omega arith in ap (λ (n : ℕ). cond {A = ℕ} (n == p) 1 0) whole ∙ ap (λ t. cond {A = ℕ} t 1 0) (eqb_same p)
same_flag (suc (suc b)) p h i = absurd (omega arith)

pub flag_of : (b k : ℕ) → b < 2 → cond {A = ℕ} (b * 2 ^ k == 2 ^ k) 1 0 ≡ b
flag_of b k h = same_flag b (2 ^ k) h (pow_pos k)
