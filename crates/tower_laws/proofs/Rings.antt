-- Equations that hold in every commutative ring of characteristic two, decided by computing a normal form.
use Rattle.std.specs.Prelude.{◌≡◌, ℕ, Bool, true, false, cond, ◌&&◌, List, [], ◌∷◌, refl}
use Rattle.std.proofs.Common.{sym, ◌∙◌, ap, eqb, ltb, get_or}
use borrow.Author.Tests.{eqb-true}
use Rattle.tower_laws.specs.Laws.{FieldLaws}

-- a term of a ring over numbered variables
pub data Term : Type 0 where
  var : ℕ → Term
  nil : Term
  unit : Term
  ◌⊕◌ : Term → Term → Term
  ◌⊗◌ : Term → Term → Term

infixl 60 ◌⊕◌
infixl 70 ◌⊗◌
-- products of variables in order; sums of products in order, none of them twice
abbrev pub same_list : List ℕ → List ℕ → Bool
same_list [] [] = true
same_list [] (y ∷ ys) = false
same_list (x ∷ xs) [] = false
same_list (x ∷ xs) (y ∷ ys) = eqb x y && same_list xs ys

abbrev pub is_before : List ℕ → List ℕ → Bool
is_before [] ys = true
is_before (x ∷ xs) [] = false
is_before (x ∷ xs) (y ∷ ys) = cond (ltb x y) true (cond (ltb y x) false (is_before xs ys))

abbrev pub put_factor : ℕ → List ℕ → List ℕ
put_factor x [] = x ∷ []
put_factor x (y ∷ ys) = cond (ltb y x) (y ∷ put_factor x ys) (x ∷ (y ∷ ys))

abbrev pub joined : List ℕ → List ℕ → List ℕ
joined [] ys = ys
joined (x ∷ xs) ys = put_factor x (joined xs ys)

abbrev pub toggle : List ℕ → List (List ℕ) → List (List ℕ)
toggle m [] = m ∷ []
toggle m (n ∷ p) = cond (same_list m n) p (cond (is_before m n) (m ∷ (n ∷ p)) (n ∷ toggle m p))

abbrev pub plus : List (List ℕ) → List (List ℕ) → List (List ℕ)
plus [] q = q
plus (m ∷ p) q = toggle m (plus p q)

abbrev pub scaled : List ℕ → List (List ℕ) → List (List ℕ)
scaled m [] = []
scaled m (n ∷ q) = toggle (joined m n) (scaled m q)

abbrev pub times : List (List ℕ) → List (List ℕ) → List (List ℕ)
times [] q = []
times (m ∷ p) q = plus (scaled m q) (times p q)

abbrev pub normal : Term → List (List ℕ)
normal (var x) = (x ∷ []) ∷ []
normal nil = []
normal unit = [] ∷ []
normal (s ⊕ t) = plus (normal s) (normal t)
normal (s ⊗ t) = times (normal s) (normal t)

from_and : (a b : Bool) → (a && b) ≡ true → (a ≡ true) × (b ≡ true)
from_and true b h = (refl, h)
from_and false b h = (h, cc)

from_same_list : (xs ys : List ℕ) → same_list xs ys ≡ true → xs ≡ ys
from_same_list [] [] h = refl
from_same_list [] (y ∷ ys) h = cc
from_same_list (x ∷ xs) [] h = cc
from_same_list (x ∷ xs) (y ∷ ys) h =
    let parts = from_and (eqb x y) (same_list xs ys) h in
    let head : x ≡ y = eqb-true x y parts.0 in
    let tail : xs ≡ ys = from_same_list xs ys parts.1 in
    cc

-- what a term means at values of its variables
abbrev pub meaning : {F : Type 0} → F → F → (F → F → F) → (F → F → F) → List F → Term → F
meaning z o add mul env (var x) = get_or env x z
meaning z o add mul env nil = z
meaning z o add mul env unit = o
meaning z o add mul env (s ⊕ t) = add (meaning z o add mul env s) (meaning z o add mul env t)
meaning z o add mul env (s ⊗ t) = mul (meaning z o add mul env s) (meaning z o add mul env t)

of_product : {F : Type 0} → F → F → (F → F → F) → List F → List ℕ → F
of_product z o mul env [] = o
of_product z o mul env (x ∷ xs) = mul (get_or env x z) (of_product z o mul env xs)

of_sum : {F : Type 0} → F → F → (F → F → F) → (F → F → F) → List F → List (List ℕ) → F
of_sum z o add mul env [] = z
of_sum z o add mul env (m ∷ p) = add (of_product z o mul env m) (of_sum z o add mul env p)

module _ {F : Type 0} {z o : F} {add mul : F → F → F} {inverse : F → F} {eq : F → F → Bool} (laws : FieldLaws z o add mul inverse eq) where
  pub zero_add : (x : F) → add z x ≡ x
  zero_add x = laws.add_comm z x ∙ laws.add_zero x

  pub one_mul : (x : F) → mul o x ≡ x
  one_mul x = laws.mul_comm o x ∙ laws.mul_one x

  -- a third law of sums: what stands twice goes
  pub add_back : (x y : F) → add x (add x y) ≡ y
  add_back x y = sym (laws.add_assoc x x y) ∙ ap (λ s. add s y) (laws.add_self x) ∙ zero_add y

  pub mul_zero : (x : F) → mul x z ≡ z
  mul_zero x =
      let doubled : mul x z ≡ add (mul x z) (mul x z) = ap (mul x) (sym (laws.add_self z)) ∙ laws.distributes x z z in
      doubled ∙ laws.add_self (mul x z)

  add_swap : (x y s : F) → add x (add y s) ≡ add y (add x s)
  add_swap x y s = sym (laws.add_assoc x y s) ∙ ap (λ w. add w s) (laws.add_comm x y) ∙ laws.add_assoc y x s

  mul_swap : (x y s : F) → mul x (mul y s) ≡ mul y (mul x s)
  mul_swap x y s = sym (laws.mul_assoc x y s) ∙ ap (λ w. mul w s) (laws.mul_comm x y) ∙ laws.mul_assoc y x s

  spread : (x y s : F) → mul (add x y) s ≡ add (mul x s) (mul y s)
  spread x y s = laws.mul_comm (add x y) s ∙ laws.distributes s x y ∙ ap (λ w. add w (mul s y)) (laws.mul_comm s x) ∙ ap (add (mul x s)) (laws.mul_comm s y)

  module _ (env : List F) where
    put_means : (x : ℕ) (ys : List ℕ) → of_product z o mul env (put_factor x ys) ≡ mul (get_or env x z) (of_product z o mul env ys)
    unfolding of_product
    put_means x [] = refl
    put_means x (y ∷ ys) =
        elim (ltb y x) as (λ b. of_product z o mul env (cond b (y ∷ put_factor x ys) (x ∷ (y ∷ ys))) ≡ mul (get_or env x z) (of_product z o mul env (y ∷ ys))) [
          | true ↦ ap (mul (get_or env y z)) (put_means x ys) ∙ mul_swap (get_or env y z) (get_or env x z) (of_product z o mul env ys)
          | false ↦ refl
        ]

    joined_means : (xs ys : List ℕ) → of_product z o mul env (joined xs ys) ≡ mul (of_product z o mul env xs) (of_product z o mul env ys)
    unfolding of_product
    joined_means [] ys = sym (one_mul (of_product z o mul env ys))
    joined_means (x ∷ xs) ys =
        put_means x (joined xs ys) ∙ ap (mul (get_or env x z)) (joined_means xs ys)
        ∙ sym (laws.mul_assoc (get_or env x z) (of_product z o mul env xs) (of_product z o mul env ys))

    toggle_means : (m : List ℕ) (p : List (List ℕ)) → of_sum z o add mul env (toggle m p) ≡ add (of_product z o mul env m) (of_sum z o add mul env p)
    unfolding of_sum
    toggle_means m [] = refl
    toggle_means m (n ∷ p) =
        (elim (same_list m n) as (λ b. same_list m n ≡ b → of_sum z o add mul env (cond b p (cond (is_before m n) (m ∷ (n ∷ p)) (n ∷ toggle m p))) ≡ add (of_product z o mul env m) (of_sum z o add mul env (n ∷ p))) [
          | true ↦ λ h. sym (ap (λ k. add (of_product z o mul env k) (of_sum z o add mul env (n ∷ p))) (from_same_list m n h) ∙ add_back (of_product z o mul env n) (of_sum z o add mul env p))
          | false ↦ λ h.
              elim (is_before m n) as (λ b. of_sum z o add mul env (cond b (m ∷ (n ∷ p)) (n ∷ toggle m p)) ≡ add (of_product z o mul env m) (of_sum z o add mul env (n ∷ p))) [
                | true ↦ refl
                | false ↦ ap (add (of_product z o mul env n)) (toggle_means m p) ∙ add_swap (of_product z o mul env n) (of_product z o mul env m) (of_sum z o add mul env p)
              ]
        ]) refl

    plus_means : (p q : List (List ℕ)) → of_sum z o add mul env (plus p q) ≡ add (of_sum z o add mul env p) (of_sum z o add mul env q)
    unfolding of_sum
    plus_means [] q = sym (zero_add (of_sum z o add mul env q))
    plus_means (m ∷ p) q =
        toggle_means m (plus p q) ∙ ap (add (of_product z o mul env m)) (plus_means p q)
        ∙ sym (laws.add_assoc (of_product z o mul env m) (of_sum z o add mul env p) (of_sum z o add mul env q))

    scaled_means : (m : List ℕ) (q : List (List ℕ)) → of_sum z o add mul env (scaled m q) ≡ mul (of_product z o mul env m) (of_sum z o add mul env q)
    unfolding of_sum
    scaled_means m [] = sym (mul_zero (of_product z o mul env m))
    scaled_means m (n ∷ q) =
        toggle_means (joined m n) (scaled m q) ∙ ap (λ w. add w (of_sum z o add mul env (scaled m q))) (joined_means m n)
        ∙ ap (add (mul (of_product z o mul env m) (of_product z o mul env n))) (scaled_means m q)
        ∙ sym (laws.distributes (of_product z o mul env m) (of_product z o mul env n) (of_sum z o add mul env q))

    times_means : (p q : List (List ℕ)) → of_sum z o add mul env (times p q) ≡ mul (of_sum z o add mul env p) (of_sum z o add mul env q)
    unfolding of_sum
    times_means [] q = sym (laws.mul_comm z (of_sum z o add mul env q) ∙ mul_zero (of_sum z o add mul env q))
    times_means (m ∷ p) q =
        plus_means (scaled m q) (times p q) ∙ ap (λ w. add w (of_sum z o add mul env (times p q))) (scaled_means m q)
        ∙ ap (add (mul (of_product z o mul env m) (of_sum z o add mul env q))) (times_means p q)
        ∙ sym (spread (of_product z o mul env m) (of_sum z o add mul env p) (of_sum z o add mul env q))

    normal_means : (t : Term) → of_sum z o add mul env (normal t) ≡ meaning z o add mul env t
    unfolding of_sum of_product
    normal_means (var x) = laws.add_zero (mul (get_or env x z) o) ∙ laws.mul_one (get_or env x z)
    normal_means nil = refl
    normal_means unit = laws.add_zero o
    normal_means (s ⊕ t) = plus_means (normal s) (normal t) ∙ ap (λ w. add w (of_sum z o add mul env (normal t))) (normal_means s) ∙ ap (add (meaning z o add mul env s)) (normal_means t)
    normal_means (s ⊗ t) = times_means (normal s) (normal t) ∙ ap (λ w. mul w (of_sum z o add mul env (normal t))) (normal_means s) ∙ ap (mul (meaning z o add mul env s)) (normal_means t)

    -- two terms of one normal form mean the same
    pub solve : (s t : Term) → normal s ≡ normal t → meaning z o add mul env s ≡ meaning z o add mul env t
    solve s t h = sym (normal_means s) ∙ ap (of_sum z o add mul env) h ∙ normal_means t
