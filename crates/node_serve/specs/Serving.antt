-- One connection of a server.
use Rattle.std.specs.Prelude.{◌≡◌, ◌≢◌, ◌⊎◌, ℕ, List, [], Option, Err}
use Rattle.express_words.specs.Causes.{Rose}
use Rattle.express_words.specs.Seen.{Seen}
use Rattle.express_words.specs.Streams.{Stream, Gave, IsAtEnd, Took, TookPrefix}
use Rattle.frame_rules.specs.Gathering.{gathered}
use Rattle.frame_rules.specs.Reading.{decoded}
use Rattle.frame_rules.specs.declared.fault.FrameFault.TheVariants.{Short}
use Rattle.node_exchange.specs.Taking.{IsWanted}
use Rattle.node_restart.specs.Frames.{Handed}
use Rattle.node_serve.specs.Draining.{Course}
use Rattle.node_serve.specs.Handing.{IsHelp}
use Rattle.node_serve.specs.Logs.{Log, Reaches, ReachesShort}
use Rattle.node_serve.specs.Moved.{Moved, Calls, moved, calls_of}
use Rattle.node_serve.specs.NoLog.{core_of, peer_of, node_log}
use Rattle.node_serve.specs.Responding.{Responds, Stops}
use Rattle.node_serve.specs.declared.node.Node.{Node}
use Rattle.node_serve.specs.declared.node.Node.TheVariants as node
use Rattle.node_serve.specs.declared.node.Served.{Served}
use Rattle.node_serve.specs.declared.node.Served.TheVariants as served

-- held is what a connection gave, up to the end of a frame or to the byte at which it is known to be none;
-- never more was taken than was wanted
abbrev pub Brings : Option Stream → Option Stream → List ℕ → Type 0
Brings old new held = (given : List ℕ) × Gave old new given × IsWanted given × (held ≡ gathered [] given)

-- where the connection ended or failed before that
abbrev pub IsCut : Served → Option Stream → (before now : ℕ) → Type 0
IsCut served.Ended content before now = IsAtEnd content × (now ≡ before)
IsCut (served.ConnFault count) content before now = Rose before now × (count ≡ now)
IsCut other content before now = ⊥

-- all of the bytes were written, or the connection failed after a front of them
abbrev pub IsPut : Option (List ℕ) → Option (List ℕ) → (before now : ℕ) → List ℕ → Type 0
IsPut old new before now bytes =
    (Took old new bytes × (now ≡ before)) ⊎ (TookPrefix old new bytes × Rose before now)

-- what was written of a reply, by the answer
abbrev pub WritesTold : Served → Option (List ℕ) → Option (List ℕ) → (before now : ℕ) → List ℕ → Type 0
WritesTold served.Answered old new before now reply = Took old new reply × (now ≡ before)
WritesTold (served.ConnFault count) old new before now reply =
    TookPrefix old new reply × Rose before now × (count ≡ now)
WritesTold served.Ended old new before now reply = ⊥
WritesTold (served.LinkFault count) old new before now reply = IsPut old new before now reply
WritesTold served.LinkBad old new before now reply = IsPut old new before now reply

-- likewise to a connection that showed this before and shows that now
abbrev pub WritesReply : Served → (old new : Seen) → List ℕ → Type 0
WritesReply why old new reply = WritesTold why old.written new.written old.faults new.faults reply

-- ---- a server with a log

-- A server with a log answered what a connection brought: the log took each frame that it was handed on the
-- way before its step, and its reply was written. The count is the net's count of faults then.
pub record Answers {S F : Type 0} (log : Log S F) (peer bytes : List ℕ) (server : Moved S) (calls : Calls)
    (count : ℕ) (why : Served) (Writes : List ℕ → Type 0) : Type 0 where
  pub end : Course
  pub reaches : Reaches log peer server calls end
  pub reply : List ℕ
  pub responds : Responds (log.core server.old) bytes end count why reply
  pub writes : Writes reply

-- Or the log refused one of these frames, and the server took no step from then on.
pub record StopsShort {S F : Type 0} (log : Log S F) (peer bytes : List ℕ) (server : Moved S) (calls : Calls)
    (fault : F) : Type 0 where
  pub end : Course
  pub refused : Handed
  pub reaches : ReachesShort log peer server calls end refused fault
  pub stops : Stops (log.core server.old) bytes end refused

-- the first of both over a net and a connection
abbrev pub AnswersOn : {S F : Type 0} → Log S F → (peer bytes : List ℕ) → Moved S → (net conn : Moved Seen)
    → Served → Type 0
AnswersOn log peer bytes server net conn why =
    Answers log peer bytes server (calls_of net) net.new.faults why (WritesReply why conn.old conn.new)

-- ---- a server whose frames go nowhere

abbrev pub IsHelper : Node → Type 0
IsHelper n = IsHelp (core_of n)

-- no call failed: the count of faults didn't rise
abbrev pub NoneFailed : (before now : ℕ) → Type 0
NoneFailed before now = Rose before now → ⊥

-- what is said of a frame where no call failed: it was answered, or a leader's helper gave what is no reply
-- that fits
abbrev pub IsComplete : Node → Served → Type 0
IsComplete (node.Help h) why = why ≡ served.Answered
IsComplete (node.Lead a peer) why = (why ≡ served.Answered) ⊎ (why ≡ served.LinkBad)

-- what a node did once a connection gave a frame, or bytes known to be none, and what was written
abbrev pub NodeServes : List ℕ → Served → (old new : Node) → (net conn : Moved Seen) → Type 0
NodeServes held why old new net conn =
    decoded held ≢ Err Short → AnswersOn node_log (peer_of old) held (moved old new) net conn why

-- and what became of that where no call of the connection or of the net failed
abbrev pub Completes : List ℕ → Served → Node → (net conn : Moved Seen) → Type 0
Completes held why old net conn = decoded held ≢ Err Short → NoneFailed conn.old.faults conn.new.faults
    → NoneFailed net.old.faults net.new.faults → IsComplete old why
