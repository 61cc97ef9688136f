-- What holds of a letter's tries, whatever is answered to their frames.
use Rattle.std.specs.Prelude.{◌≡◌, ℕ, ◌<◌, ◌≤◌, true, false, List, ◌∷◌, All, Some, length}
use Rattle.desk_tries.specs.declared.heard.Answer.{Answer}
use Rattle.desk_tries.specs.declared.heard.Answer.TheVariants.{Accepted}
use Rattle.desk_tries.specs.declared.sending.LetterEnd.TheVariants as end
use Rattle.desk_tries.specs.Runs.{Try, TryEvent, Run, tries, accepted_at, run_of}
use Rattle.desk_tries.specs.Steps.{may_be_written}

-- at most one try to each address may have been accepted
abbrev pub WrittenOnce : Type 0
WrittenOnce = (addresses : ℕ) (events : List TryEvent) (address : ℕ) → 1 ≤ addresses
    → accepted_at address (tries (run_of addresses events)) ≤ 1

-- told as not written, the letter was accepted at no try to any address
abbrev pub NotWrittenIsTrue : Type 0
NotWrittenIsTrue = (addresses : ℕ) (events : List TryEvent) (address : ℕ) → 1 ≤ addresses
    → (run_of addresses events).end ≡ Some end.NotWritten
    → accepted_at address (tries (run_of addresses events)) ≡ 0

-- left where no try can have written it, the letter was accepted at no try to any address
abbrev pub GivenUpIsNowhere : Type 0
GivenUpIsNowhere = (addresses : ℕ) (events : List TryEvent) (address : ℕ) → 1 ≤ addresses
    → may_be_written (run_of addresses events).state ≡ false
    → accepted_at address (tries (run_of addresses events)) ≡ 0

-- the try's last proof has gone out, and then it was told that it is accepted
pub record IsAccepted (t : Try) : Type 0 where
  pub proof_out : t.proof_out ≡ true
  pub earlier : List Answer
  pub accepted : t.answers ≡ Accepted ∷ earlier

-- told as written, the letter was accepted at the last try
abbrev pub WrittenIsTrue : Type 0
WrittenIsTrue = (addresses : ℕ) (events : List TryEvent) → 1 ≤ addresses
    → (run_of addresses events).end ≡ Some end.Written
    → IsAccepted (run_of addresses events).now

-- there are at most six tries, each to an address of the card
pub record AreFew (addresses : ℕ) (run : Run) : Type 0 where
  pub few : length (tries run) ≤ 6
  pub there : All (λ t. t.address < addresses) (tries run)

abbrev pub TriesAreFew : Type 0
TriesAreFew = (addresses : ℕ) (events : List TryEvent) → 1 ≤ addresses
    → AreFew addresses (run_of addresses events)
