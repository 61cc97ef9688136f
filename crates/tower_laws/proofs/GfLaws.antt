-- Elements of level 7 and their numbers.
use Rattle.std.specs.Prelude.{◌≡◌, ℕ, ◌%◌, ◌^◌, ◌<◌, List, [], ◌∷◌, All, refl}
use Rattle.std.proofs.Common.{sym, ◌∙◌, ap}
use Rattle.std.proofs.Math.Nat.{mod-eq_of_lt}
use Rattle.std.proofs.lemmas.List.Elements.{All-head, All-tail}
use Rattle.tower_laws.specs.Elements.{Element, element_one, element_add, element_mul}
use Rattle.tower_laws.proofs.ElementLaws.{element_path}
use Rattle.tower_numbers.specs.Levels.{product_at, twist_at}
use Rattle.tower_laws.specs.Gf.{gf, values, gfs}

pub gf_is : (x : Element 7) (n : ℕ) → x.value ≡ n → x ≡ gf n
gf_is x n h = element_path 7 x (gf n) (sym (mod-eq_of_lt x.in_range) ∙ ap (λ k. k % 2 ^ 128) h)

-- what a body that answers the bits n gives, where the value wanted is x
pub gf_path : (x : Element 7) (n : ℕ) → n ≡ x.value → gf n ≡ x
gf_path x n h = sym (gf_is x n (sym h))

pub gf_value : (n : ℕ) → n < 2 ^ 128 → (gf n).value ≡ n
gf_value n h = mod-eq_of_lt h

-- the bits inside are the value's
pub inside_is : (x : Element 7) (n : ℕ) → n < 2 ^ 128 → gf n ≡ x → n ≡ x.value
inside_is x n h e = sym (mod-eq_of_lt h) ∙ ap (λ y. y.value) e

-- the element 2 is the X of level 1
pub gf_two : element_mul 7 (gf 2) (gf 2) ≡ element_add 7 (gf 2) (element_one 7)
unfolding product_at twist_at
gf_two = element_path 7 (element_mul 7 (gf 2) (gf 2)) (element_add 7 (gf 2) (element_one 7)) refl

pub values-gfs : (ns : List ℕ) → All (λ n. n < 2 ^ 128) ns → values (gfs ns) ≡ ns
values-gfs [] h = refl
values-gfs (n ∷ ns) h =
    let head : (gf n).value ≡ n = gf_value n (All-head (λ n. n < 2 ^ 128) n ns h) in
    let tail = values-gfs ns (All-tail (λ n. n < 2 ^ 128) n ns h) in
    cc
