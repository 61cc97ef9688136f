-- The values of a list.
use Rattle.std.proofs.Common.{◌≡◌, ℕ, ◌<◌, ◌≤◌, List, [], ◌∷◌, length, map, Some, None, refl, ap, le-leb}
use Rattle.std.proofs.lemmas.Bool.{lt-leb}
use Rattle.std.proofs.lemmas.List.{length-map}
use Rattle.toml.specs.View.{view, items_view}
use Rattle.toml.specs.declared.value.Value.{Value}
use Rattle.settings_text.specs.Values.{elements, if_within}

pub elements_view : (values : List Value) → elements (items_view values) ≡ map view values
elements_view [] = refl
elements_view (value ∷ values) = ap (λ others. view value ∷ others) (elements_view values)

pub within : (low high : ℕ) (values : List Value) → low ≤ length values → length values ≤ high → if_within low high (map view values) ≡ Some (map view values)
within low high values enough few = rw (length-map values view, le-leb low (length values) enough, le-leb (length values) high few) refl

pub too_few : (low high : ℕ) (values : List Value) → length values < low → if_within low high (map view values) ≡ None
too_few low high values few = rw (length-map values view, lt-leb low (length values) few) refl

pub too_many : (low high : ℕ) (values : List Value) → low ≤ length values → high < length values → if_within low high (map view values) ≡ None
too_many low high values enough many = rw (length-map values view, le-leb low (length values) enough, lt-leb (length values) high many) refl
