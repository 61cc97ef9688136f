-- What holds of the tries of a letter's copies, whatever is answered to their requests.
use Rattle.std.specs.Prelude.{◌≡◌, ◌⊎◌, ℕ, ◌+◌, ◌*◌, ◌<◌, ◌≤◌, true, false, List, ◌∷◌, Contains, Some}
use Rattle.letter_copies.specs.declared.copies.LetterEnd.TheVariants as end
use Rattle.letter_copies.specs.declared.heard.Answer.{Answer}
use Rattle.letter_copies.specs.declared.heard.Answer.TheVariants.{Accepted, EndedWritten}
use Rattle.letter_copies.specs.Copies.{end_of, may_be_written}
use Rattle.letter_copies.specs.Runs.{CopyTry, CopyEvent, Run, accepted_at, run_of, tries, tries_at}

-- P of each run of a letter of so many parts, with so many copies of each
abbrev pub OfEachRun : ((parts each : ℕ) → Run → Type 0) → Type 0
OfEachRun P = (parts each : ℕ) (events : List CopyEvent) → 1 ≤ each → P parts each (run_of parts each events)

-- at most one try of each copy may have been accepted
abbrev pub WrittenOnce : Type 0
WrittenOnce = OfEachRun (λ parts each run. (copy : ℕ) → accepted_at copy (tries run) ≤ 1)

-- each copy is tried at most six times
abbrev pub TriesAreFew : Type 0
TriesAreFew = OfEachRun (λ parts each run. (copy : ℕ) → tries_at copy (tries run) ≤ 6)

-- the try's last proof had gone out, and then it was told that its write is accepted
pub record IsAccepted (t : CopyTry) : Type 0 where
  pub proof_out : t.proof_out ≡ true
  pub last : Answer
  pub earlier : List Answer
  pub heard : t.answers ≡ last ∷ earlier
  pub told : (last ≡ Accepted) ⊎ (last ≡ EndedWritten)

-- the copy is one of this part
abbrev pub IsCopyOf : (each part copy : ℕ) → Type 0
IsCopyOf each part copy = (k : ℕ) × (k < each) × (copy ≡ part * each + k)

-- of the part a try of one of its copies was accepted
pub record IsPartWritten (each part : ℕ) (run : Run) : Type 0 where
  pub accepted : CopyTry
  pub is_copy : IsCopyOf each part accepted.copy
  pub is_accepted : IsAccepted accepted
  pub tried : Contains run.before accepted

-- told as written, each of its parts was accepted at a try of one of its copies
abbrev pub WrittenIsTrue : Type 0
WrittenIsTrue = OfEachRun (λ parts each run. end_of run.state ≡ Some end.Written
    → (part : ℕ) → part < parts → IsPartWritten each part run)

-- a part of which no try of any copy may have been accepted
pub record IsPartNowhere (each : ℕ) (run : Run) (part : ℕ) : Type 0 where
  pub none : (copy : ℕ) → IsCopyOf each part copy → accepted_at copy (tries run) ≡ 0

-- told as not written, some part of it was accepted at no try
abbrev pub NotWrittenIsTrue : Type 0
NotWrittenIsTrue = OfEachRun (λ parts each run. end_of run.state ≡ Some end.NotWritten
    → (part : ℕ) × (part < parts) × IsPartNowhere each run part)

-- given up where no try can have written a copy, none was accepted
abbrev pub GivenUpIsNowhere : Type 0
GivenUpIsNowhere = OfEachRun (λ parts each run. may_be_written run.state ≡ false
    → (copy : ℕ) → copy < parts * each → accepted_at copy (tries run) ≡ 0)
