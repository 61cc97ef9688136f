-- Each number from 1 to 255 is one power of 128 below the 255th, and a product adds the exponents.
use Rattle.std.specs.Prelude.{◌≡◌, ◌≢◌, ℕ, ◌+◌, ◌*◌, ◌/◌, ◌%◌, ◌^◌, bit_xor, ◌<◌, ◌≤◌, ◌==◌, List, [], ◌∷◌, length, Bool, true, false, cond, ◌&&◌, not, replicate, ◌⊎◌, refl}
use Rattle.std.proofs.Common.{zero, suc, sym, ◌∙◌, ap, subst, get_or, arith, lit<}
use Rattle.std.proofs.Common.{set, inl, inr, get_or-set_same, get_or-set_other}
use Rattle.std.proofs.lemmas.Bool.{cases_eq}
use borrow.Author.Tests.{eqb-true, eq-eqb, eqb_apart}
use Rattle.tower_numbers.specs.Levels.{product_at, twist_at}
use Rattle.tower_numbers.proofs.Bounds.{product_below}
use Rattle.tower_laws.proofs.Products.{product_assoc, product_comm, zero_times, one_times, times_one}
use Rattle.field_tables.specs.Powers.{power_of}
use Rattle.field_tables.proofs.Covered.{powers, has, covers, all_differ, covered, differ, no_zero, log_of_twist}

pub power_below : (i : ℕ) → power_of i < 256
unfolding power_of
power_below zero = omega arith
power_below (suc i) = let h : 128 < 256 = omega arith in product_below 3 (power_of i) 128 (power_below i) h

pub power_add : (i j : ℕ) → power_of (i + j) ≡ product_at 3 (power_of i) (power_of j)
unfolding power_of
power_add i zero = let e : i + 0 ≡ i = omega arith in ap power_of e ∙ sym (times_one 3 (power_of i) (power_below i))
power_add i (suc j) =
    let e : i + suc j ≡ suc (i + j) = omega arith in
    let h : 128 < 256 = omega arith in
    ap power_of e ∙ ap (λ x. product_at 3 x 128) (power_add i j) ∙ product_assoc 3 (power_of i) (power_of j) 128 (power_below i) (power_below j) h

pub from_and : (a b : Bool) → (a && b) ≡ true → (a ≡ true) × (b ≡ true)
from_and true b h = (refl, h)
from_and false b h = (h, cc)

powers_length : (n x : ℕ) → length (powers n x) ≡ n
unfolding powers
powers_length zero x = refl
powers_length (suc n) x = ap suc (powers_length n (product_at 3 x 128))

powers_at : (n j i : ℕ) → i < n → get_or (powers n (power_of j)) i 0 ≡ power_of (j + i)
unfolding powers power_of
powers_at zero j i h = absurd (omega arith)
powers_at (suc n) j zero h = let e : j ≡ j + 0 = omega arith in ap power_of e
powers_at (suc n) j (suc i) h = let e : suc j + i ≡ j + suc i = omega arith in powers_at n (suc j) i (omega arith) ∙ ap power_of e

pub powers_at_one : (i : ℕ) → i < 255 → get_or (powers 255 1) i 0 ≡ power_of i
unfolding power_of
powers_at_one i h = let e : 0 + i ≡ i = omega arith in powers_at 255 0 i h ∙ ap power_of e

has_place : (a : ℕ) (xs : List ℕ) → has a xs ≡ true → (i : ℕ) × (i < length xs) × (get_or xs i 0 ≡ a)
unfolding has
has_place a [] h = absurd (cc)
has_place a (x ∷ xs) h =
    (elim (a == x) as (λ b. (a == x) ≡ b → cond b true (has a xs) ≡ true → (i : ℕ) × (i < length (x ∷ xs)) × (get_or (x ∷ xs) i 0 ≡ a)) [
      | true ↦ λ e g. (0, omega arith, sym (eqb-true a x e))
      | false ↦ λ e g. let rest = has_place a xs g in (suc rest.0, omega (arith, rest.1), rest.2)
    ]) refl h

place_has : (a : ℕ) (xs : List ℕ) (i : ℕ) → i < length xs → get_or xs i 0 ≡ a → has a xs ≡ true
unfolding has
place_has a [] i h e = absurd (omega arith)
place_has a (x ∷ xs) zero h e = ap (λ b. cond b true (has a xs)) (eq-eqb a x (sym e))
place_has a (x ∷ xs) (suc i) h e =
    let rest = place_has a xs i (omega arith) e in
    elim (a == x) as (λ b. cond b true (has a xs) ≡ true) [ true ↦ refl | false ↦ rest ]

covers_has : (n : ℕ) (xs : List ℕ) → covers n xs ≡ true → (a : ℕ) → 0 < a → a ≤ n → has a xs ≡ true
unfolding covers
covers_has zero xs h a l m = absurd (omega arith)
covers_has (suc n) xs h a l m =
    let parts = from_and (has (suc n) xs) (covers n xs) h in
    (elim (a == suc n) as (λ b. (a == suc n) ≡ b → has a xs ≡ true) [
      | true ↦ λ e. ap (λ k. has k xs) (eqb-true a (suc n) e) ∙ parts.0
      | false ↦ λ e. let apart : a ≢ suc n = eqb_apart a (suc n) e in covers_has n xs parts.1 a l (omega arith)
    ]) refl

pub log_of : (a : ℕ) → 0 < a → a < 256 → (i : ℕ) × (i < 255) × (power_of i ≡ a)
log_of a l h =
    let place = has_place a (powers 255 1) (covers_has 255 (powers 255 1) covered a l (omega arith)) in
    let within : place.0 < 255 = subst (λ n. place.0 < n) (powers_length 255 1) place.1 in
    (place.0, within, sym (powers_at_one place.0 within) ∙ place.2)

differ_apart : (xs : List ℕ) → all_differ xs ≡ true → (i j : ℕ) → i < j → j < length xs → get_or xs i 0 ≢ get_or xs j 0
unfolding all_differ
differ_apart [] h i j l m e = absurd (omega arith)
differ_apart (x ∷ xs) h i zero l m e = absurd (omega arith)
differ_apart (x ∷ xs) h zero (suc j) l m e =
    let parts = from_and (not (has x xs)) (all_differ xs) h in
    let there = place_has x xs j (omega arith) (sym e) in
    let false_true : not true ≡ true = ap not (sym there) ∙ parts.0 in
    cc
differ_apart (x ∷ xs) h (suc i) (suc j) l m e =
    let parts = from_and (not (has x xs)) (all_differ xs) h in
    differ_apart xs parts.1 i j (omega arith) (omega arith) e

pub powers_apart : (i j : ℕ) → i < j → j < 255 → power_of i ≢ power_of j
powers_apart i j l m e =
    let within : j < length (powers 255 1) = subst (λ n. j < n) (sym (powers_length 255 1)) m in
    differ_apart (powers 255 1) differ i j l within (powers_at_one i (omega arith) ∙ e ∙ sym (powers_at_one j m))

pub power_apart : (i : ℕ) → i < 255 → power_of i ≢ 0
power_apart i h e =
    let within : i < length (powers 255 1) = subst (λ n. i < n) (sym (powers_length 255 1)) h in
    let there : has 0 (powers 255 1) ≡ true = place_has 0 (powers 255 1) i within (powers_at_one i h ∙ e) in
    let never = no_zero in
    cc

pub zeros_alone : (n i : ℕ) → let zeros : List ℕ = replicate n 0 in get_or zeros i 0 ≡ 0
zeros_alone zero i = refl
zeros_alone (suc n) zero = refl
zeros_alone (suc n) (suc i) = zeros_alone n i

-- what the tables hold
pub record AreTables (power log : List ℕ) : Type 0 where
  pub powers : (i : ℕ) → i < 629 → get_or power i 0 ≡ power_of i
  pub zeros : (i : ℕ) → 629 ≤ i → get_or power i 0 ≡ 0
  pub logs : (i : ℕ) → i < 255 → get_or log (power_of i) 0 ≡ i
  pub log_of_zero : get_or log 0 0 ≡ 629

-- a logarithm is 629 for zero, and below 255 for all others
log_cases : (power log : List ℕ) → AreTables power log → (a : ℕ) → a < 256 → ((a ≡ 0) × (get_or log a 0 ≡ 629)) ⊎ ((i : ℕ) × (i < 255) × (power_of i ≡ a) × (get_or log a 0 ≡ i))
log_cases power log are zero h = inl (refl, are.log_of_zero)
log_cases power log are (suc a) h =
    let i = log_of (suc a) (omega arith) h in
    inr (i.0, i.1, i.2, ap (λ n. get_or log n 0) (sym i.2) ∙ are.logs i.0 i.1)

log_small : (power log : List ℕ) → AreTables power log → (a : ℕ) → a < 256 → get_or log a 0 ≤ 629
log_small power log are a h =
    elim (log_cases power log are a h) [
      | inl p ↦ let e : get_or log a 0 ≡ 629 = p.1 in omega arith
      | inr p ↦ let e : get_or log a 0 ≡ p.0 = p.3 in let l : p.0 < 255 = p.1 in omega arith
    ]

-- a product with zero is zero, also where it's multiplied on
nothing : (a b k : ℕ) → a < 256 → b < 256 → k ≤ 120 → (a ≡ 0) ⊎ (b ≡ 0) → product_at 3 (power_of k) (product_at 3 a b) ≡ 0
nothing a b k m n l either =
    let times_zero : product_at 3 (power_of k) 0 ≡ 0 = product_comm 3 (power_of k) 0 (power_below k) (lit< tt) ∙ zero_times 3 (power_of k) (power_below k) in
    elim either [
      | inl e ↦ ap (product_at 3 (power_of k)) (ap (λ x. product_at 3 x b) e ∙ zero_times 3 b n) ∙ times_zero
      | inr e ↦ ap (product_at 3 (power_of k)) (product_comm 3 a b m n ∙ ap (λ x. product_at 3 x a) e ∙ zero_times 3 a m) ∙ times_zero
    ]

-- a product of two numbers of level 3 and a power, by the tables
pub tables_give : (power log : List ℕ) → AreTables power log → (a b k : ℕ) → a < 256 → b < 256 → k ≤ 120 →
    (get_or log a 0 + get_or log b 0 + k < 1379) × (get_or power (get_or log a 0 + get_or log b 0 + k) 0 ≡ product_at 3 (power_of k) (product_at 3 a b))
tables_give power log are a b k m n l =
    let small_a = log_small power log are a m in
    let small_b = log_small power log are b n in
    let within : get_or log a 0 + get_or log b 0 + k < 1379 = omega arith in
    elim (log_cases power log are a m) [
      | inl p ↦ let log_a : get_or log a 0 ≡ 629 = p.1 in (within, are.zeros _ (omega arith) ∙ sym (nothing a b k m n l (inl p.0)))
      | inr p ↦
          elim (log_cases power log are b n) [
            | inl q ↦ let log_b : get_or log b 0 ≡ 629 = q.1 in (within, are.zeros _ (omega arith) ∙ sym (nothing a b k m n l (inr q.0)))
            | inr q ↦
                let log_a : get_or log a 0 ≡ p.0 = p.3 in
                let log_b : get_or log b 0 ≡ q.0 = q.3 in
                let low_a : p.0 < 255 = p.1 in
                let low_b : q.0 < 255 = q.1 in
                let inside : p.0 + q.0 + k < 629 = omega arith in (
                  within,
                  rw (log_a, log_b)
                      (are.powers (p.0 + q.0 + k) inside ∙ power_add (p.0 + q.0) k ∙ product_comm 3 (power_of (p.0 + q.0)) (power_of k) (power_below (p.0 + q.0)) (power_below k)
                      ∙ ap (product_at 3 (power_of k)) (power_add p.0 q.0 ∙ ap (λ x. product_at 3 x (power_of q.0)) p.2 ∙ ap (product_at 3 a) q.2)),
                )
          ]
    ]

pub product_given : (power log : List ℕ) → AreTables power log → (a b : ℕ) → a < 256 → b < 256 →
    (get_or log a 0 + get_or log b 0 < 1379) × (get_or power (get_or log a 0 + get_or log b 0) 0 ≡ product_at 3 a b)
unfolding power_of
product_given power log are a b m n =
    let given = tables_give power log are a b 0 m n (omega arith) in
    let e : get_or log a 0 + get_or log b 0 + 0 ≡ get_or log a 0 + get_or log b 0 = omega arith in
    let h : 3 < 8 = lit< tt in
    (omega arith, ap (λ i. get_or power i 0) (sym e) ∙ given.1 ∙ one_times 3 (product_at 3 a b) (product_below 3 a b m n))

-- the twist of level 3 is the power 120
pub twisted_given : (power log : List ℕ) → AreTables power log → (a b : ℕ) → a < 256 → b < 256 →
    (get_or log a 0 + get_or log b 0 + 120 < 1379) × (get_or power (get_or log a 0 + get_or log b 0 + 120) 0 ≡ product_at 3 (twist_at 3) (product_at 3 a b))
twisted_given power log are a b m n =
    let given = tables_give power log are a b 120 m n (omega arith) in
    (given.0, given.1 ∙ ap (λ x. product_at 3 x (product_at 3 a b)) log_of_twist)

-- a step of the loop that fills the tables
pub power_filled : (power : List ℕ) (i : ℕ) → i < length power → ((j : ℕ) → j < i → get_or power j 0 ≡ power_of j) → (j : ℕ) → j < i + 1 → get_or (set power i (power_of i)) j 0 ≡ power_of j
power_filled power i within h j k =
    elim (cases_eq j i) [
      | inl e ↦ subst (λ n. get_or (set power i (power_of i)) n 0 ≡ power_of n) (sym e) (get_or-set_same power i (power_of i) 0 within)
      | inr n ↦ get_or-set_other power i j (power_of i) 0 n ∙ h j (omega arith)
    ]

pub log_filled : (log : List ℕ) (i : ℕ) → i < 255 → length log ≡ 256 → ((j : ℕ) → j < i → j < 255 → get_or log (power_of j) 0 ≡ j) → (j : ℕ) → j < i + 1 → j < 255 → get_or (set log (power_of i) i) (power_of j) 0 ≡ j
log_filled log i below size h j k l =
    elim (cases_eq j i) [
      | inl e ↦
          let within : power_of i < length log = subst (λ n. power_of i < n) (sym size) (power_below i) in
          subst (λ n. get_or (set log (power_of i) i) (power_of n) 0 ≡ n) (sym e) (get_or-set_same log (power_of i) i 0 within)
      | inr n ↦ let lower : j < i = omega arith in get_or-set_other log (power_of i) (power_of j) i 0 (powers_apart j i lower below) ∙ h j lower l
    ]

-- a product by its definition: of two numbers by their halves
pub by_halves : (k a b : ℕ) →
    let half = 2 ^ (2 ^ k) in
    product_at (suc k) a b ≡
    bit_xor (bit_xor (product_at k (a % half) (b / half)) (product_at k (a / half) (b % half))) (product_at k (twist_at k) (product_at k (a / half) (b / half))) * half
    + bit_xor (product_at k (a % half) (b % half)) (product_at k (a / half) (b / half))
unfolding product_at
by_halves k a b = refl
