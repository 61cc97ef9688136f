-- Level 7, as the numbers of 128 bits.
use Rattle.std.specs.Prelude.{ℕ, ◌%◌, ◌^◌, List, [], ◌∷◌}
use Rattle.tower_laws.specs.Elements.{Element}
use Rattle.tower_numbers.proofs.Bounds.{low_below}

-- the element with this number; a number of more than 128 bits loses the rest
abbrev pub gf : ℕ → Element 7
gf n = record { value = n % 2 ^ 128; in_range = low_below 7 n }

-- the numbers of elements, and the elements with these numbers
abbrev pub values : List (Element 7) → List ℕ
values [] = []
values (x ∷ xs) = x.value ∷ values xs

abbrev pub gfs : List ℕ → List (Element 7)
gfs [] = []
gfs (n ∷ ns) = gf n ∷ gfs ns
