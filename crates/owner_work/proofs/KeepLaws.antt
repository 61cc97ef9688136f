-- Work keeps pair, seed, names, marks and readings.
use Rattle.std.proofs.Common.{◌≡◌, ◌∙◌, List, [], ◌∷◌, ◌++◌, ap, append_assoc, refl}
use Rattle.std.proofs.lemmas.List.{append-nil}
use Rattle.step_rules.specs.ClientReplies.{on_reply}
use Rattle.kept_ledger.specs.declared.entry.Reading.{Reading}
use Rattle.kept_ledger.specs.Ledgers.{LedgerState, fold_from, step_of, task_at}
use Rattle.kept_ledger.specs.Notes.{Noted, Named, Closed, Retiring, Marked, Asked, Time, Heard, GivenUp}
use Rattle.kept_ledger.specs.Notes.{Owned, Denied, Carried}
use Rattle.kept_ledger.proofs.ReadLaws.{going, step_grows}
use Rattle.kept_ledger.proofs.SerialLaws.{ended_keeps}
use Rattle.owner_work.specs.Laws.{KeepsDesk, WorkKeepsTheDesk}
use Rattle.owner_work.specs.Works.{AreOfWork, IsOfWork}

-- the four that a note of work leaves as they are
record Same (s now : LedgerState) : Type 0 where
  pair : now.pair ≡ s.pair
  seed : now.seed ≡ s.seed
  named : now.named ≡ s.named
  marks : now.marks ≡ s.marks

step_same : (s : LedgerState) (n : Noted) → IsOfWork n → Same s (step_of s n)
step_same s (Asked t) is = record { pair = refl; seed = refl; named = refl; marks = refl }
step_same s (Time seconds) is = record { pair = refl; seed = refl; named = refl; marks = refl }
step_same s (Heard frame) is =
    let k = ended_keeps (going s frame) s.client.serial (task_at s.client.current)
    (on_reply s.client frame).progress in
    record { pair = k.pair; seed = k.seed; named = k.named; marks = k.marks }
step_same s (Named w) is = absurd is
step_same s (Closed name day) is = absurd is
step_same s (Retiring name) is = absurd is
step_same s (Marked m) is = absurd is
step_same s GivenUp is = absurd is
step_same s (Owned b) is = absurd is
step_same s (Denied d) is = absurd is
step_same s (Carried r) is = absurd is

fold_keeps : (s : LedgerState) (notes : List Noted) → AreOfWork notes → KeepsDesk s (fold_from s notes)
unfolding fold_from
fold_keeps s [] are = record {
  pair = refl;
  seed = refl;
  named = refl;
  marks = refl;
  more = [];
  readings = sym_nil s.readings;
}
  where
    sym_nil : (l : List Reading) → l ≡ l ++ []
    sym_nil l = rw append-nil refl
fold_keeps s (n ∷ notes) are =
    let one = step_same s n are.0 in
    let grown = step_grows s n in
    let rest = fold_keeps (step_of s n) notes are.1 in
    record {
      pair = rest.pair ∙ one.pair;
      seed = rest.seed ∙ one.seed;
      named = rest.named ∙ one.named;
      marks = rest.marks ∙ one.marks;
      more = grown.more ++ rest.more;
      readings = rest.readings ∙ ap (λ (l : List Reading). l ++ rest.more) grown.is
          ∙ append_assoc s.readings grown.more rest.more;
    }

pub work_keeps_the_desk : WorkKeepsTheDesk
work_keeps_the_desk s now only = rw only.is (fold_keeps s only.notes only.are)
