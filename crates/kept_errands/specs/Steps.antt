-- One step of a client that remembers.
use Rattle.std.specs.Prelude.{◌≡◌, ℕ, List, Option, Result, Ok, Err, IfOk, IsOk, true, false}
use Rattle.express_words.specs.Calls.{Call}
use Rattle.express_words.specs.Causes.{Rose}
use Rattle.express_words.specs.Seen.{Seen}
use Rattle.step_rules.specs.Client.{Client}
use Rattle.step_rules.specs.ClientReplies.{on_reply}
use Rattle.client_core.specs.Answers.{progress_in}
use Rattle.client_core.specs.declared.progress.Progress.{Progress}
use Rattle.kept_machine.specs.declared.fault.KeepFault.{KeepFault}
use Rattle.kept_machine.specs.Faults.{CountsFault}
use Rattle.client_restart.specs.Hears.{makes_step}
use Rattle.client_restart.specs.Keeps.{KeepsNote, sight}
use Rattle.client_restart.specs.Kept.{ClientState}
use Rattle.client_restart.specs.Notes.{Heard}
use Rattle.node_journal.specs.Disk.{DiskSeen}
use Rattle.node_exchange.specs.declared.exchanging.Broken.{Broken}
use Rattle.node_client.specs.declared.peers.Peers.{Peers}
use Rattle.node_client.specs.declared.stop.Stop.TheVariants as stop
use Rattle.node_client.specs.Steps.{IsStep, stop_at}
use Rattle.node_client.specs.Talks.{Talk, TalkOn}
use Rattle.kept_errands.specs.declared.halt.Halt.{Halt}
use Rattle.kept_errands.specs.declared.halt.Halt.TheVariants as halt

-- ---- the frame and its answer

-- The frame of the client's present step went to its server and nothing else did, and this came of it.
pub record Talked (peers : Peers) (c : Client) (answer : Result (List ℕ) Broken)
    (before now : Option (List Call)) : Type 0 where
  pub talk : Talk
  pub is_step : IsStep c talk
  pub answered : talk.exchange.answer ≡ answer
  pub calls : TalkOn peers talk before now

abbrev pub halt_at : Broken → Halt
halt_at why = halt.Stop (stop_at why)

-- ---- what the client hears

abbrev pub halted : {T : Type 0} → Result T KeepFault → Result T Halt
halted (Ok value) = Ok value
halted (Err fault) = Err (halt.Keep fault)

-- The client takes the bytes as a reply to its present step. One that makes a step is kept before it.
pub record Hears {D : Type 0} (shows : D → DiskSeen) (counts : D → Seen) (bytes : List ℕ)
    (old new : ClientState D) (result : Result Progress Halt) : Type 0 where
  pub kept : Result Progress KeepFault
  pub told : result ≡ halted kept
  pub progress : IfOk kept (λ p. p ≡ progress_in (on_reply old.core.client bytes).progress)
  pub no_step : makes_step (progress_in (on_reply old.core.client bytes).progress) ≡ false
      → IsOk kept × (new ≡ old)
  pub keeps : makes_step (progress_in (on_reply old.core.client bytes).progress) ≡ true
      → KeepsNote (Heard bytes) (sight shows counts old) (sight shows counts new) kept

-- a frame is heard, and where none came the client stays as it was
abbrev pub HearsBy : {D : Type 0} → (D → DiskSeen) → (D → Seen) → Result (List ℕ) Broken
    → (old new : ClientState D) → Result Progress Halt → Type 0
HearsBy shows counts (Ok bytes) old new result = Hears shows counts bytes old new result
HearsBy shows counts (Err why) old new result = (new ≡ old) × (result ≡ Err (halt_at why))

-- One step on a net: the client's frame, and its server's answer heard.
pub record Stepped {D : Type 0} (peers : Peers) (shows : D → DiskSeen) (counts : D → Seen)
    (old new : ClientState D) (result : Result Progress Halt) (before now : Option (List Call)) : Type 0 where
  pub answer : Result (List ℕ) Broken
  pub talked : Talked peers old.core.client answer before now
  pub hears : HearsBy shows counts answer old new result

-- ---- faults

-- the net's count: it rose where a fault of it is told, and only then
abbrev pub NetFaultBy : {T : Type 0} → Result T Halt → (before now : ℕ) → Type 0
NetFaultBy (Err (halt.Stop (stop.Fault count))) before now = Rose before now × (count ≡ now)
NetFaultBy other before now = now ≡ before

-- the disk's count, in the same way
abbrev pub DiskFaultBy : {T : Type 0} → Result T Halt → (before now : ℕ) → Type 0
DiskFaultBy (Err (halt.Keep fault)) before now = CountsFault before now fault
DiskFaultBy other before now = now ≡ before
