-- The polynomial of degree at most 2 through three values, at 0, at 1 and at a point t with t·t = t + 1.
use Rattle.std.specs.Prelude.{List, [], ◌∷◌}

abbrev pub square_coefficient : {F : Type 0} → (F → F → F) → (F → F → F) → F → F → F → F → F
square_coefficient add mul t u x m = add (add u m) (mul t (add u x))

abbrev pub through : {F : Type 0} → (F → F → F) → (F → F → F) → F → F → F → F → List F
through add mul t u x m =
    let c = square_coefficient add mul t u x m in
    u ∷ (add c (add u x) ∷ (c ∷ []))
