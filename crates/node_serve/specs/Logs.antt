-- A server with its log: where its frames go before its step.
use Rattle.std.specs.Prelude.{◌≡◌, ℕ, List, Result, Ok, Err}
use Rattle.node_exchange.specs.Exchanging.{ExchangesOn}
use Rattle.node_restart.specs.declared.server.Core.{Core}
use Rattle.node_restart.specs.Frames.{Handed}
use Rattle.node_serve.specs.Draining.{Course}
use Rattle.node_serve.specs.Moved.{Moved, Calls}

-- What is said of a server with its log: which server it is; that from one state to another it was handed
-- these frames, one after another, and took the step of each once the log had it; and that behind these it
-- was handed one more, which the log refused for this fault, and whose step it didn't take.
pub record Log (S F : Type 0) : Type 1 where
  pub core : S → Core
  pub takes : S → S → List Handed → Type 0
  pub stops : S → S → List Handed → Handed → F → Type 0

-- a server with its log came as far as this course, whose frames the log took, and its net made its exchanges
pub record Reaches {S F : Type 0} (log : Log S F) (peer : List ℕ) (server : Moved S) (calls : Calls)
    (end : Course) : Type 0 where
  pub core : log.core server.new ≡ end.core
  pub takes : log.takes server.old server.new end.frames
  pub made : ExchangesOn peer end.made calls.old calls.new

-- likewise, and behind these frames the log refused one
pub record ReachesShort {S F : Type 0} (log : Log S F) (peer : List ℕ) (server : Moved S) (calls : Calls)
    (end : Course) (refused : Handed) (fault : F) : Type 0 where
  pub core : log.core server.new ≡ end.core
  pub stops : log.stops server.old server.new end.frames refused fault
  pub made : ExchangesOn peer end.made calls.old calls.new

-- How often a log has failed, before a call and after it: the same where it took what it was given, and else
-- what its fault says.
abbrev pub CountsLog : {T F : Type 0} → (F → ℕ → ℕ → Type 0) → (before now : ℕ) → Result T F → Type 0
CountsLog rises before now (Ok value) = now ≡ before
CountsLog rises before now (Err fault) = rises fault before now
