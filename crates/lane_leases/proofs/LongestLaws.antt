-- The lane that has rested longest, as a function of the rows.
use Rattle.std.proofs.Common.{◌≡◌, ℕ, ◌+◌, List, [], ◌∷◌, ◌++◌, length, length-append, append-nil, append_assoc, Option, Some, None, IfSome, IsNone, option_map, refl, sym, ◌∙◌, ap, subst, arith}
use Rattle.std.proofs.Math.Seq.{get_or-append_seam}
use Rattle.lane_gate.specs.declared.row.GateRow.{GateRow}
use Rattle.lane_gate.specs.Gates.{row_at, keyless}
use Rattle.lane_leases.specs.declared.choosing.Resting.{Resting}
use Rattle.lane_leases.specs.Choosing.{longer_of, longest_from, longest_of}
use Rattle.lane_leases.specs.Resting.{rested, HasRestedLongest, NoneRests}
use Rattle.lane_leases.proofs.LeaseLaws.{one-rested-longest}
use Rattle.lane_leases.proofs.RestLaws.{Found, found-next, longest-of-all, none-of-all}

-- what was found below a place, and then in all rows from there on
found-on : (whole before rows : List GateRow) (best : Option Resting) → whole ≡ before ++ rows → Found whole (length before) best
    → Found whole (length whole) (longest_from best (length before) rows)
found-on whole before [] best is found =
    subst (λ (n : ℕ). Found whole n best) (ap (λ (l : List GateRow). length l) (sym (is ∙ append-nil before))) found
found-on whole before (row ∷ rows) best is found =
    let at : row_at whole (length before) ≡ row = ap (λ (l : List GateRow). row_at l (length before)) is ∙ get_or-append_seam before row rows keyless in
    let longer : ℕ = length before + 1 in
    let same : length (before ++ row ∷ []) ≡ longer = length-append before (row ∷ []) in
    let next = found-next whole (length before) best (rested row) (ap rested at) found in
    subst (λ (n : ℕ). Found whole (length whole) (longest_from (longer_of best (length before) (rested row)) n rows)) same
    (found-on whole (before ++ row ∷ []) rows (longer_of best (length before) (rested row)) (is ∙ sym (append_assoc before (row ∷ []) rows))
    (subst (λ (n : ℕ). Found whole n (longer_of best (length before) (rested row))) (sym same) next))

none-below : (rows : List GateRow) → Found rows 0 None
none-below rows other within = absurd (omega arith)

found-all : (rows : List GateRow) → Found rows (length rows) (longest_from None 0 rows)
found-all rows = found-on rows [] rows None refl (none-below rows)

-- where a lane has rested longest, it is that one
pub is-longest : (rows : List GateRow) (lane : ℕ) → HasRestedLongest rows lane → longest_of rows ≡ Some lane
is-longest rows lane longest = by (longest_from None 0 rows) (found-all rows)
  where
    by : (best : Option Resting) → Found rows (length rows) best → option_map (λ (r : Resting). r.lane) best ≡ Some lane
    by None found =
        let none = none-of-all rows (length rows) (omega arith) found lane in
        let both : None ≡ Some longest.since = sym none ∙ longest.rests in absurd (cc both)
    by (Some best) found = ap (λ (n : ℕ). let o : Option ℕ = Some n in o) (one-rested-longest rows best.lane lane (longest-of-all rows (length rows) best (omega arith) found) longest)

-- and where none rests, there is none
pub none-longest : (rows : List GateRow) → NoneRests rows → longest_of rows ≡ None
none-longest rows none = by (longest_from None 0 rows) (found-all rows)
  where
    by : (best : Option Resting) → Found rows (length rows) best → option_map (λ (r : Resting). r.lane) best ≡ None
    by None found = refl
    by (Some best) found = let both : None ≡ Some best.since = sym (none best.lane) ∙ found.rests in absurd (cc both)

-- so what finds it, or none, is the function
pub is-found : (rows : List GateRow) (found : Option ℕ) → IfSome found (HasRestedLongest rows) → (IsNone found → NoneRests rows) → found ≡ longest_of rows
is-found rows None some none = sym (none-longest rows (none refl))
is-found rows (Some lane) some none = sym (is-longest rows lane some)
