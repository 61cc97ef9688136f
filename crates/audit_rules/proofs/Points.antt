-- At how many points a proof can pass for a bad vector.
use Rattle.std.specs.Prelude.{◌≡◌, ◌≢◌, ℕ, ◌≤◌, Bool, List, [], ◌∷◌, length, All, AllPairs}
use Rattle.std.proofs.Common.{zero, suc, sym, ◌∙◌, ap, arith, get_or}
use Rattle.tower_laws.specs.Laws.{FieldLaws}
use Rattle.tower_laws.proofs.Rings.{mul_zero, zero_add}
use Rattle.tower_laws.specs.Polynomials.{value_at, plus_of, times_of}
use Rattle.tower_laws.proofs.Roots.{all_zero, sum_zero, product_zero}
use Rattle.tower_laws.proofs.ValueLaws.{value-plus, value-times, value-all_zero}
use Rattle.tower_laws.specs.Through.{through}
use Rattle.tower_laws.proofs.ThroughLaws.{through_one, through_two}
use Rattle.audit_rules.specs.Passing.{Passes}

length_plus : {F : Type 0} (add : F → F → F) (n : ℕ) (p q : List F) → length p ≤ n → length q ≤ n → length (plus_of add p q) ≤ n
length_plus add n [] q h k = k
length_plus add n (c ∷ p) [] h k = h
length_plus add zero (c ∷ p) (d ∷ q) h k = absurd (omega arith)
length_plus add (suc n) (c ∷ p) (d ∷ q) h k = let rest = length_plus add n p q (omega arith) (omega arith) in omega arith

module _ {F : Type 0} {z o : F} {add mul : F → F → F} {inverse : F → F} {eq : F → F → Bool} (laws : FieldLaws z o add mul inverse eq) (t : F) (square : mul t t ≡ add t o) where
  t_apart : t ≢ z
  t_apart h = laws.apart (sym (zero_add laws o) ∙ ap (λ w. add w o) (sym h) ∙ sym square ∙ ap (mul t) h ∙ mul_zero laws t)

  module _ (u x m v y k : F) (h : List F) (alpha : F) where
    whole : List F
    whole = alpha ∷ plus_of add (times_of z add mul (through add mul t u x m) (through add mul t v y k)) h

    whole_value : (p : F) → value_at z add mul whole p ≡ add (mul p (add (mul (value_at z add mul (through add mul t u x m) p) (value_at z add mul (through add mul t v y k) p)) (value_at z add mul h p))) alpha
    unfolding whole
    whole_value p =
        let f = through add mul t u x m in
        let g = through add mul t v y k in
        laws.add_comm _ _ ∙ ap (λ w. add (mul p w) alpha) (value-plus laws (times_of z add mul f g) h p ∙ ap (λ w. add w (value_at z add mul h p)) (value-times laws f g p))

    -- six points at which it passes make the sketch's verdict zero
    pub six_points : (points : List F) → length h ≤ 5 → AllPairs (λ p q. p ≢ q) points → All (Passes z o add mul (through add mul t u x m) (through add mul t v y k) h t alpha) points → 6 ≤ length points →
        add (mul x y) (mul m k) ≡ z
    unfolding whole
    six_points points short apart passes many =
        let f = through add mul t u x m in
        let g = through add mul t v y k in
        let roots : All (λ p. value_at z add mul whole p ≡ z) points = λ i d l. whole_value (get_or points i d) ∙ (passes i d l).product in
        let six : length whole ≤ length points = let five = length_plus add 5 (times_of z add mul f g) h (omega arith) short in omega arith in
        let zeros : All (λ c. c ≡ z) whole = all_zero laws points whole apart roots six in
        let everywhere : (p : F) → add (mul p (add (mul (value_at z add mul f p) (value_at z add mul g p)) (value_at z add mul h p))) alpha ≡ z =
        λ p. sym (whole_value p) ∙ value-all_zero laws whole p zeros in
        let alpha_zero : alpha ≡ z = zeros 0 z (omega arith) in
        let inside : (p : F) → p ≢ z → add (mul (value_at z add mul f p) (value_at z add mul g p)) (value_at z add mul h p) ≡ z =
        λ p n. product_zero laws p _ n (sym (laws.add_zero _) ∙ ap (add (mul p (add (mul (value_at z add mul f p) (value_at z add mul g p)) (value_at z add mul h p)))) (sym alpha_zero) ∙ everywhere p) in
        let at_one : add (mul x y) (value_at z add mul h o) ≡ z =
        ap (λ w. add w (value_at z add mul h o)) (sym (ap (λ a. mul a (value_at z add mul g o)) (through_one laws t square u x m) ∙ ap (mul x) (through_one laws t square v y k))) ∙ inside o laws.apart in
        let at_two : add (mul m k) (value_at z add mul h t) ≡ z =
        ap (λ w. add w (value_at z add mul h t)) (sym (ap (λ a. mul a (value_at z add mul g t)) (through_two laws t square u x m) ∙ ap (mul m) (through_two laws t square v y k))) ∙ inside t t_apart in
        let outputs : value_at z add mul h o ≡ value_at z add mul h t = sum_zero laws _ _ (passes 0 z (omega arith)).outputs in
        let first : mul x y ≡ value_at z add mul h o = sum_zero laws _ _ at_one in
        let second : mul m k ≡ value_at z add mul h t = sum_zero laws _ _ at_two in
        ap (λ w. add w (mul m k)) (first ∙ outputs ∙ sym second) ∙ laws.add_self (mul m k)
