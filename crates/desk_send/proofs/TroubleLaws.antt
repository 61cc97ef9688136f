-- A trouble that is passed on is told as it is.
use Rattle.std.proofs.Common.{◌≡◌, Result, Ok, Err, IfErr, IfOk, IsErrAnd, subst, sym}
use Rattle.desk_around.specs.declared.trouble.Trouble.{Trouble}

pub passed_on : {T : Type 0} (r : Result T Trouble) (t : Trouble) (P : Trouble → Type 0)
    → IsErrAnd r (λ e. e ≡ t) → P t → IfErr r P
passed_on (Ok value) t P is told = tt
passed_on (Err e) t P is told = subst P (sym is) told

-- two facts of what came of a call
pub both_ok : {T E : Type 0} (r : Result T E) (P Q : T → Type 0) → IfOk r P → IfOk r Q
    → IfOk r (λ v. P v × Q v)
both_ok (Ok value) P Q one two = (one, two)
both_ok (Err e) P Q one two = tt
