-- Notes of work, one behind another.
use Rattle.std.proofs.Common.{◌≡◌, ℕ, List, [], ◌∷◌, ◌++◌, map, sym, ap, ◌∙◌}
use Rattle.kept_ledger.specs.Ledgers.{LedgerState, fold_from, step_of}
use Rattle.kept_ledger.specs.Notes.{Noted, Heard}
use Rattle.kept_ledger.specs.Worked.{HearsOnly}
use Rattle.kept_ledger.proofs.TraceLaws.{fold_append}
use Rattle.owner_work.specs.Works.{AreOfWork, IsOfWork, OnlyWorks}

append_of_work : (xs ys : List Noted) → AreOfWork xs → AreOfWork ys → AreOfWork (xs ++ ys)
append_of_work [] ys first second = second
append_of_work (x ∷ xs) ys first second = (first.0, append_of_work xs ys first.1 second)

heard_of_work : (frames : List (List ℕ)) → AreOfWork (map Heard frames)
heard_of_work [] = tt
heard_of_work (f ∷ frames) = (tt, heard_of_work frames)

pub nothing_works : (s now : LedgerState) → now ≡ s → OnlyWorks s now
unfolding fold_from
nothing_works s now e = record { notes = []; are = tt; is = e }

pub one_works : (s now : LedgerState) (n : Noted) → IsOfWork n → now ≡ step_of s n → OnlyWorks s now
unfolding fold_from
one_works s now n is e = record { notes = n ∷ []; are = (is, tt); is = e }

pub heard_works : (s now : LedgerState) → HearsOnly s now → OnlyWorks s now
heard_works s now hears = record { notes = map Heard hears.0; are = heard_of_work hears.0; is = hears.1 }

pub works_both : (s mid now : LedgerState) → OnlyWorks s mid → OnlyWorks mid now → OnlyWorks s now
works_both s mid now first second = record {
  notes = first.notes ++ second.notes;
  are = append_of_work first.notes second.notes first.are second.are;
  is = second.is ∙ ap (λ (x : LedgerState). fold_from x second.notes) first.is
      ∙ sym (fold_append s first.notes second.notes);
}
