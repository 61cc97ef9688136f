use Rattle.std.proofs.Common.{◌≡◌, ℕ, zero, suc, ◌<◌, ◌≤◌, List, [], ◌∷◌, length, take, ap, refl, slice_set, arith}
use Rattle.std.specs.Prelude.{Some, slice_get}
use Rattle.many_tests.proofs.rounds.NumberingAnswering.outstanding.Goals as goal

none_below : (i : ℕ) → i < 0 → ⊥
none_below i lt = omega arith

front : (out : List ℕ) → 0 < length out → take 1 (slice_set out 0 7) ≡ 7 ∷ []
front [] lt = absurd (none_below 0 lt)
front (x ∷ out) lt = refl

one : (place : ℕ) (out : List ℕ) → place ≤ 0 → take 1 out ≡ 7 ∷ [] → Some (take 1 out) ≡ slice_get ((7 ∷ []) ∷ []) place
one zero out le is = ap Some is
one (suc place) out le is = absurd (omega (arith, le))

pub returns-clause-outstanding : goal.returns-clause-outstanding
returns-clause-outstanding c = one c.args.place _ (omega arith) (front c.args.out.now (omega arith))
