-- Leaves at a list of addresses.
use Rattle.std.proofs.Common.{◌≡◌, ℕ, ◌-◌, List, [], ◌∷◌, map, length, refl, ap, ◌∙◌, ◌==◌, if◌then◌else◌}
use Rattle.std.specs.List.{zip}
use Rattle.std.proofs.lemmas.List.{length-map}
use Rattle.dpf_rules.specs.Walk.{leaf_of}
use Rattle.dpf_rules.specs.Ideal.{given_at}
use Rattle.write_hiding.specs.Choices.{PlainChoice, PlainAim}
use Rattle.write_hiding.specs.Views.{public_part, other_leaf}

-- what is made of each address and its leaf
map-zip : (g : ℕ × ℕ → ℕ) (f : ℕ → ℕ) (xs : List ℕ) → map g (zip xs (map f xs)) ≡ map (λ x. g (x, f x)) xs
map-zip g f [] = refl
map-zip g f (x ∷ xs) = ap (λ ys. g (x, f x) ∷ ys) (map-zip g f xs)

module _ (part : List ℕ) (viewer : ℕ) (choice : PlainChoice) (aim : PlainAim) (addresses own other : List ℕ) (end : ℕ)
    (part_is : part ≡ public_part viewer choice aim) (own_is : own ≡ map (leaf_of part viewer choice.own_root) addresses)
    (end_is : end ≡ given_at part aim.target (1 - viewer) choice.other_root choice.other 128)
    (other_is : other ≡ map (λ p. if p.0 == aim.target then end else p.1) (zip addresses own)) where
  -- the viewer's leaves with the end at the target are the other server's
  pub other_leaves_are : other ≡ map (other_leaf viewer choice aim) addresses
  other_leaves_are =
      rw (other_is, own_is, end_is, part_is)
      (map-zip (λ p. if p.0 == aim.target then given_at (public_part viewer choice aim) aim.target (1 - viewer) choice.other_root choice.other 128 else p.1)
      (leaf_of (public_part viewer choice aim) viewer choice.own_root) addresses)

  pub length-other_leaves : length other ≡ length addresses
  length-other_leaves = ap length other_leaves_are ∙ length-map addresses (other_leaf viewer choice aim)
