-- The fold of one note more.
use Rattle.std.proofs.Common.{◌≡◌, List, [], ◌∷◌, ◌++◌, refl}
use Rattle.client_restart.specs.Notes.{Noted}
use Rattle.client_restart.specs.Steps.{CoreState, step_of, fold_from}

pub fold_push : (k : CoreState) (notes : List Noted) (n : Noted) → fold_from k (notes ++ n ∷ []) ≡ step_of (fold_from k notes) n
fold_push k [] n = refl
fold_push k (x ∷ notes) n = fold_push (step_of k x) notes n
