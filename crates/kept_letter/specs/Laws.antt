-- What holds of a letter, whatever is noted of it.
use Rattle.std.specs.Prelude.{◌≡◌, ℕ, ◌<◌, ◌≤◌, ◌/◌, true, List, length, Option, Some, None}
use Rattle.step_rules.specs.Client.{Client, Step, Deposits, Submits, ProvesToHelper, ProvesToLeader}
use Rattle.step_rules.specs.ClientAsks.{public_part, sends, words}
use Rattle.client_core.specs.Writes.{write_sent}
use Rattle.lane_gate.specs.declared.statement.StatementHash.{StatementHash}
use Rattle.lane_gate.specs.Statements.{statement_hash}
use Rattle.letter_copies.specs.declared.copies.Try.{Try}
use Rattle.letter_copies.specs.Runs.{CopyEvent, accepted_at, run_of, tries}
use Rattle.kept_letter.specs.Letters.{LetterState, is_text_whole, letter_after, piece_bytes, present_seed}
use Rattle.kept_letter.specs.Letters.{target_of}
use Rattle.kept_letter.specs.Nexts.{statement_of}
use Rattle.kept_letter.specs.Notes.{Opening, Noted}
use Rattle.kept_letter.specs.Plans.{each_of, parts_for, plan_of}

-- P of each letter that an opening and notes give
abbrev pub OfEachLetter : (LetterState → Type 0) → Type 0
OfEachLetter P = (o : Opening) (notes : List Noted) → P (letter_after o notes)

-- the hash of a client's own statement, once its challenges came
abbrev pub own_statement : Client → (target : ℕ) (message : List ℕ) → Step → Option StatementHash
own_statement c target message Deposits = None
own_statement c target message Submits = None
own_statement c target message (ProvesToHelper ckey) = Some (statement_hash ckey (public_part c target
    message))
own_statement c target message (ProvesToLeader ckey) = Some (statement_hash ckey (public_part c target
    message))

-- The text is whole, and the client of the present try sends the frames of one write, of words that are drawn
-- of the try's own seed: of the piece of its copy's part, at the address that is this copy's place.
pub record WritesItsPiece (s : LetterState) (t : Try) (c : Client) : Type 0 where
  pub whole : is_text_whole s ≡ true
  pub part : t.copy / each_of s.plan < parts_for s.plan (length s.text)
  pub target : ℕ
  pub place : target_of s t.copy ≡ Some target
  pub drawn : c.seed ≡ present_seed s
  pub step : Step
  pub sent : sends c ≡ Some (write_sent c.lane c.serial (words c) target (piece_bytes s t.copy) step)
  pub statement : statement_of s t.copy c.serial ≡ own_statement c target (piece_bytes s t.copy) step

abbrev pub WritesAt : LetterState → Option Try → Option Client → Type 0
WritesAt s tried None = Unit {0}
WritesAt s None (Some c) = ⊥
WritesAt s (Some t) (Some c) = WritesItsPiece s t c

-- nothing is sent but a letter's pieces to their places
abbrev pub PiecesGoToTheirPlaces : Type 0
PiecesGoToTheirPlaces = OfEachLetter (λ s. WritesAt s s.copies.present s.client)

-- Its copies stand as a run of tries leaves them, in which each copy may have been accepted once at most.
pub record IsRunOfTries (s : LetterState) : Type 0 where
  pub events : List CopyEvent
  pub run : (run_of (parts_for s.plan s.plan.count) (each_of s.plan) events).state ≡ s.copies
  pub once : (copy : ℕ)
      → accepted_at copy (tries (run_of (parts_for s.plan s.plan.count) (each_of s.plan) events)) ≤ 1

abbrev pub LettersAreRunsOfTries : Type 0
LettersAreRunsOfTries = OfEachLetter IsRunOfTries

-- seed, id and where it goes are those of its opening
pub record IsOfOpening (o : Opening) (s : LetterState) : Type 0 where
  pub seed : s.seed ≡ o.seed
  pub id : s.id ≡ o.id
  pub plan : s.plan ≡ plan_of o.card o.count

abbrev pub LettersKeepTheirOpening : Type 0
LettersKeepTheirOpening = (o : Opening) (notes : List Noted) → IsOfOpening o (letter_after o notes)
