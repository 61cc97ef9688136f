-- A request of a client that remembers, worked off step by step.
use Rattle.std.specs.Prelude.{◌≡◌, ℕ, true, List, [], ◌∷◌, ◌++◌, Option, Some, None, Result, Ok, Err}
use Rattle.express_words.specs.Calls.{Call}
use Rattle.express_words.specs.Seen.{Seen}
use Rattle.step_rules.specs.Client.{Client, Current, Outcome}
use Rattle.client_core.specs.declared.progress.Progress.{Progress}
use Rattle.kept_machine.specs.declared.fault.KeepFault.{KeepFault}
use Rattle.client_restart.specs.Hears.{makes_step_at}
use Rattle.client_restart.specs.Keeps.{CallKeeps}
use Rattle.client_restart.specs.Kept.{ClientState}
use Rattle.client_restart.specs.Notes.{Heard}
use Rattle.client_restart.specs.Steps as kept
use Rattle.client_restart.specs.Steps.{CoreState, boxes_with, ended}
use Rattle.step_rules.specs.Client as steps
use Rattle.node_exchange.specs.declared.exchanging.Broken.{Broken}
use Rattle.node_journal.specs.Disk.{DiskSeen}
use Rattle.node_client.specs.declared.peers.Peers.{Peers}
use Rattle.node_client.specs.Steps.{Ending, Done, IsStep, said}
use Rattle.node_client.specs.Talks.{Talk, TalksOn}
use Rattle.kept_errands.specs.declared.halt.Halt.{Halt}
use Rattle.kept_errands.specs.declared.halt.Halt.TheVariants as halt

-- the client and what it remembers, once it has heard what came
abbrev pub heard : CoreState → Result (List ℕ) Broken → CoreState
heard k (Ok bytes) = kept.heard k bytes
heard k (Err why) = k

-- steps one after another, after each of which the request goes on
pub data GoesOn (start : CoreState) : CoreState → List Talk → Type 0 where
  none : GoesOn start start []
  then : (k : CoreState) (made : List Talk) (t : Talk) →
      GoesOn start k made → IsStep k.client t → said k.client t.exchange.answer ≡ Ok None →
      GoesOn start (heard k t.exchange.answer) (made ++ t ∷ [])

-- a reply came, and it makes a step
abbrev pub AnswersStep : CoreState → Result (List ℕ) Broken → Type 0
AnswersStep k (Ok bytes) = makes_step_at k bytes ≡ true
AnswersStep k (Err why) = ⊥

-- The last step ended the request, or had no answer that ends it. Or it was answered by a reply that makes a
-- step and isn't on the disk: then it wasn't heard.
abbrev pub EndsBy : (last new : CoreState) → Result (List ℕ) Broken → Result Unit Halt → Type 0
EndsBy last new answer (Ok done) =
    ((outcome : Outcome) × (said last.client answer ≡ Ok (Some (Done outcome)))) × (new ≡ heard last answer)
EndsBy last new answer (Err (halt.Stop why)) = (said last.client answer ≡ Err why) × (new ≡ last)
EndsBy last new answer (Err (halt.Keep fault)) = AnswersStep last answer × (new ≡ last)

-- A reply that makes a step was to be noted, and this is the fault of it.
pub record MissesReply {D : Type 0} (shows : D → DiskSeen) (counts : D → Seen) (new : ClientState D)
    (fault : KeepFault) : Type 0 where
  pub last : ClientState D
  pub bytes : List ℕ
  pub step : makes_step_at last.core bytes ≡ true
  pub keeps : CallKeeps {T = Progress} shows counts (Heard bytes) last new (Err fault)

-- so it is, where a note is what halts the work
abbrev pub HaltsAtReply : {D : Type 0} → (D → DiskSeen) → (D → Seen) → ClientState D → Halt → Type 0
HaltsAtReply shows counts new (halt.Keep fault) = MissesReply shows counts new fault
HaltsAtReply shows counts new (halt.Stop why) = Unit {0}

-- the steps of a request, up to the one that ended it or halted the work
pub record Works (start new : CoreState) (made : List Talk) (result : Result Unit Halt) : Type 0 where
  pub last : CoreState
  pub before : List Talk
  pub goes_on : GoesOn start last before
  pub talk : Talk
  pub is_step : IsStep last.client talk
  pub all : made ≡ before ++ talk ∷ []
  pub ends : EndsBy last new talk.exchange.answer result

-- the same on a net
pub record WorkedOff (peers : Peers) (start new : CoreState) (result : Result Unit Halt)
    (before now : Option (List Call)) : Type 0 where
  pub made : List Talk
  pub works : Works start new made result
  pub calls : TalksOn peers made before now

-- The request that was current has this outcome, which stands behind those that weren't told. A box that it
-- registered stands behind the others.
pub record IsEnded (old new : CoreState) : Type 0 where
  pub request : Current
  pub was : old.client.current ≡ Some request
  pub outcome : Outcome
  pub untold : new.untold ≡ old.untold ++ ended old.client.serial request outcome ∷ []
  pub boxes : new.boxes ≡ boxes_with old.boxes old.client.serial (steps.Finished outcome)
  pub idle : new.client.current ≡ None
