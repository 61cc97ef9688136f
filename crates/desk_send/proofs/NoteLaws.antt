-- A letter's text, noted piece by piece.
use Rattle.std.proofs.Common.{◌≡◌, ◌∙◌, ℕ, ◌+◌, ◌≤◌, Bool, true, false, List, [], ◌∷◌, ◌++◌, length, ap}
use Rattle.std.proofs.Common.{sym, refl, arith}
use Rattle.std.specs.Prelude.{if◌then◌else◌, nat_le}
use Rattle.std.proofs.lemmas.Bool.{le-leb}
use Rattle.std.proofs.lemmas.List.{append-nil, append_assoc, length-append}
use Rattle.node_journal.specs.Journal.{JournalState, longer}
use Rattle.kept_letter.specs.declared.machine.KeptLetter.{KeptLetter}
use Rattle.kept_letter.specs.Letters.{LetterState, longer_text, step_of, with_text}
use Rattle.kept_letter.specs.Machines.{StepsLetter}
use Rattle.kept_letter.specs.Notes.{Text, note_record}
use Rattle.kept_letter.proofs.NoteLaws.{one_note}

-- the step is that of the note whose record was kept
pub noted : (piece : List ℕ) (before now : KeptLetter) → StepsLetter (note_record (Text piece)) before now
    → now.letter ≡ with_text before.letter piece
noted piece before now steps =
    let same = one_note (Text piece) steps.note tt steps.whole steps.is in
    steps.step ∙ ap (step_of before.letter) (sym same)

pub still_open : (n : ℕ) (before now : JournalState) → now ≡ longer n before → now.closed ≡ before.closed
still_open n before now is = ap (λ (j : JournalState). j.closed) is

-- ---- one piece more

fits_more : (front piece behind text : List ℕ) → front ++ (piece ++ behind) ≡ text
    → length front + length piece ≤ length text
fits_more front piece behind text is =
    let all = sym (length-append front (piece ++ behind)) ∙ ap length is in
    omega (arith, all, length-append piece behind)

by_test : (b : Bool) (x y : List ℕ) → b ≡ true → (if b then x else y) ≡ x
by_test true x y is = refl
by_test false x y is = absurd (cc is)

longer_fits : (count : ℕ) (front piece behind text : List ℕ) → front ++ (piece ++ behind) ≡ text
    → count ≡ length text → longer_text count front piece ≡ front ++ piece
longer_fits count front piece behind text is same =
    by_test (nat_le (length front + length piece) count) (front ++ piece) front
    (le-leb (length front + length piece) count (omega (arith, fits_more front piece behind text is, same)))

abbrev pub with_all : LetterState → List ℕ → LetterState
with_all s text = record s { text = text }

-- so much of the text is noted, and the rest isn't yet
pub record IsNotedTo (start now : LetterState) (rest text : List ℕ) : Type 0 where
  pub same : now ≡ with_all start now.text
  pub split : now.text ++ rest ≡ text

pub noted_more : (start s now : LetterState) (piece rest behind text : List ℕ) → IsNotedTo start s rest text
    → rest ≡ piece ++ behind → start.plan.count ≡ length text → now ≡ with_text s piece
    → IsNotedTo start now behind text
noted_more start s now piece rest behind text before cut count is =
    let split : s.text ++ (piece ++ behind) ≡ text =
    ap (λ (l : List ℕ). s.text ++ l) (sym cut) ∙ before.split in
    let planned : s.plan.count ≡ length text = ap (λ (x : LetterState). x.plan.count) before.same ∙ count in
    let joined : longer_text s.plan.count s.text piece ≡ s.text ++ piece =
    longer_fits s.plan.count s.text piece behind text split planned in
    let text_is : now.text ≡ s.text ++ piece = ap (λ (x : LetterState). x.text) is ∙ joined in
    record {
      same = is ∙ ap (λ (l : List ℕ). with_all s l) (joined ∙ sym text_is)
          ∙ ap (λ (x : LetterState). with_all x now.text) before.same;
      split = ap (λ (l : List ℕ). l ++ behind) text_is ∙ append_assoc s.text piece behind ∙ split;
    }

pub noted_none : (start : LetterState) (text : List ℕ) → start.text ≡ [] → IsNotedTo start start text text
noted_none start text empty = record { same = refl; split = ap (λ (l : List ℕ). l ++ text) empty }

pub noted_all : (start now : LetterState) (rest text : List ℕ) → IsNotedTo start now rest text
    → length rest ≡ 0 → now ≡ with_all start text
noted_all start now [] text noted_to none =
    noted_to.same ∙ ap (λ (l : List ℕ). with_all start l) (sym (append-nil now.text) ∙ noted_to.split)
noted_all start now (x ∷ rest) text noted_to none = absurd (omega (arith, none))
