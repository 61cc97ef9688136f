-- A leader's exchanges with its helper, each with the oldest outstanding command.
use Rattle.std.specs.Prelude.{◌≡◌, ℕ, true, false, List, [], ◌∷◌, ◌++◌, sum_by}
use Rattle.std.specs.Prelude.{Some, None, option_map, Result, Ok, Err}
use Rattle.express_words.specs.Causes.{Rose}
use Rattle.frame_rules.specs.Frames as frame
use Rattle.frame_rules.specs.Frames.{PlainFrame, PlainBody}
use Rattle.frame_rules.specs.Spelling.{spelling}
use Rattle.node_exchange.specs.Exchanging.{Exchange}
use Rattle.node_exchange.specs.declared.exchanging.Broken.{Broken}
use Rattle.node_exchange.specs.declared.exchanging.Broken.TheVariants as broken
use Rattle.node_restart.specs.declared.frames.Sender.{Sender}
use Rattle.node_restart.specs.declared.frames.Sender.TheVariants.{Peer}
use Rattle.node_restart.specs.declared.server.Core.{Core}
use Rattle.node_restart.specs.declared.server.Core.TheVariants.{Lead, Help}
use Rattle.node_restart.specs.Frames.{Handed, handed}
use Rattle.node_restart.specs.Steps.{step_of, resent_by}
use Rattle.node_serve.specs.Handing.{answer_of, is_ignored}
use Rattle.node_serve.specs.declared.node.Served.{Served}
use Rattle.node_serve.specs.declared.node.Served.TheVariants as served

-- How far a server came with what one connection brought: it, the reply for the one that waits, its
-- exchanges, and the frames that it was handed.
pub record Course : Type 0 where
  pub core : Core
  pub reply : List ℕ
  pub made : List Exchange
  pub frames : List Handed

abbrev pub begun : Core → Course
begun core = record { core = core; reply = []; made = []; frames = [] }

-- it took its step at this frame
abbrev pub took : Course → Sender → List ℕ → Course
took p sender bytes = record {
  core = (step_of p.core sender bytes).core;
  reply = answer_of (step_of p.core sender bytes);
  made = p.made;
  frames = p.frames ++ handed sender bytes ∷ [];
}

-- these bytes were sent to the helper, and this came of it
abbrev pub exchanged : Course → List ℕ → Result (List ℕ) Broken → Course
exchanged p sent answer = record {
  core = p.core;
  reply = p.reply;
  made = p.made ++ record { sent = sent; answer = answer } ∷ [];
  frames = p.frames;
}

-- the bytes are those of the oldest outstanding command
abbrev pub IsOldest : Core → List ℕ → Type 0
IsOldest core sent = option_map spelling (resent_by core) ≡ Some sent

-- the leader doesn't ignore these bytes of the helper
abbrev pub IsHeeded : Core → List ℕ → Type 0
IsHeeded core bytes = is_ignored (step_of core Peer bytes).did ≡ false

-- exchanges of the oldest outstanding command, each answered by a reply that fits
pub data DrainsOn (start : Course) : Course → Type 0 where
  none : DrainsOn start start
  then : (p : Course) (sent bytes : List ℕ) →
      DrainsOn start p → IsOldest p.core sent → IsHeeded p.core bytes →
      DrainsOn start (took (exchanged p sent (Ok bytes)) Peer bytes)

-- until no command is outstanding
pub record Drained (start end : Course) : Type 0 where
  pub drains : DrainsOn start end
  pub empty : resent_by end.core ≡ None

-- ---- an exchange that ends a drain

-- an answer that is no reply that fits, and what is said of it
abbrev pub Breaks : Core → Result (List ℕ) Broken → Served → Type 0
Breaks core (Ok bytes) why = (is_ignored (step_of core Peer bytes).did ≡ true) × (why ≡ served.LinkBad)
Breaks core (Err (broken.Fault count)) why = why ≡ served.LinkFault count
Breaks core (Err other) why = why ≡ served.LinkBad

-- the frame that it hands to the leader, which stays as it is
abbrev pub unfitting : Result (List ℕ) Broken → List Handed
unfitting (Ok bytes) = handed Peer bytes ∷ []
unfitting (Err why) = []

abbrev pub behind : Course → Result (List ℕ) Broken → Course
behind p answer =
    record { core = p.core; reply = p.reply; made = p.made; frames = p.frames ++ unfitting answer }

-- In such a drain one exchange broke: its command is still the oldest outstanding one.
pub record BreaksIn (Drain : Course → Type 0) (end : Course) (why : Served) : Type 0 where
  pub last : Course
  pub drains : Drain last
  pub sent : List ℕ
  pub oldest : IsOldest last.core sent
  pub answer : Result (List ℕ) Broken
  pub broken : Breaks last.core answer why
  pub end_is : end ≡ behind (exchanged last sent answer) answer

-- In such a drain the helper's answer was refused by the log.
pub record RefusesIn (Drain : Course → Type 0) (end : Course) (refused : Handed) : Type 0 where
  pub last : Course
  pub drains : Drain last
  pub sent : List ℕ
  pub oldest : IsOldest last.core sent
  pub bytes : List ℕ
  pub is : refused ≡ handed Peer bytes
  pub end_is : end ≡ exchanged last sent (Ok bytes)

-- ---- a bound on its rounds

-- an audit is followed by a settle
abbrev pub rounds : PlainBody → ℕ
rounds (frame.LinkAudit sigma opened) = 2
rounds body = 1

abbrev pub rounds_left : List PlainFrame → ℕ
rounds_left commands = sum_by (λ c. rounds c.body) commands

abbrev pub rounds_of : Core → ℕ
rounds_of (Lead a) = rounds_left a.outstanding
rounds_of (Help h) = 0

-- ---- the net's count

-- the net's count by what is said of the exchanges: it rose where one failed, and only then
abbrev pub FaultIn : Served → (before now : ℕ) → Type 0
FaultIn (served.LinkFault count) before now = Rose before now × (count ≡ now)
FaultIn other before now = now ≡ before
