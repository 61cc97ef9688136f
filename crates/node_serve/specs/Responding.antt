-- What a server did with what one connection brought.
use Rattle.std.specs.Prelude.{◌≡◌, ◌⊎◌, ℕ, List, Option, Some, None}
use Rattle.express_words.specs.declared.refusal.Refusal.TheVariants as refusal
use Rattle.frame_rules.specs.Frames as frame
use Rattle.frame_rules.specs.Frames.{PlainFrame}
use Rattle.frame_rules.specs.Spelling.{spelling}
use Rattle.frame_rules.specs.Whole.{answer}
use Rattle.node_restart.specs.declared.frames.Sender.TheVariants.{Client}
use Rattle.node_restart.specs.declared.server.Core.{Core}
use Rattle.node_restart.specs.Frames.{Handed, handed}
use Rattle.node_restart.specs.Steps.{role_of}
use Rattle.node_serve.specs.Draining.{Course, begun, took, DrainsOn, Drained, BreaksIn, RefusesIn}
use Rattle.node_serve.specs.Handing.{drained_for, sender_at}
use Rattle.node_serve.specs.declared.node.Served.{Served}
use Rattle.node_serve.specs.declared.node.Served.TheVariants as served

-- a leader drained its link, took its step at the client's frame, and drained it again
pub record Handled (bytes : List ℕ) (start end : Course) : Type 0 where
  pub before : Course
  pub first : Drained start before
  pub second : Drained (took before Client bytes) end

-- in the first of these drains, or in the second
abbrev pub InDrain : List ℕ → (start p : Course) → Type 0
InDrain bytes start p =
    DrainsOn start p
    ⊎ ((before : Course) × Drained start before × DrainsOn (took before Client bytes) p)

-- in one of them, or at the client's frame
abbrev pub HandleStops : List ℕ → (start end : Course) → Handed → Type 0
HandleStops bytes start end refused =
    RefusesIn (InDrain bytes start) end refused
    ⊎ (Drained start end × (refused ≡ handed Client bytes))

-- what was only to be sent to the client, with no exchange broken
abbrev pub IsSent : Served → Type 0
IsSent served.Answered = Unit {0}
IsSent (served.ConnFault count) = Unit {0}
IsSent other = ⊥

-- the client is told that the link failed, with the net's count of faults
abbrev pub link_down : PlainFrame → ℕ → PlainFrame
link_down f count = answer f (frame.Refused (refusal.LinkDown count))

-- a server took its step with these bytes, between two drains if it drains for them
abbrev pub Goes : Option PlainFrame → Core → List ℕ → Course → Type 0
Goes None core bytes end = end ≡ took (begun core) (sender_at (role_of core) bytes) bytes
Goes (Some f) core bytes end = Handled bytes (begun core) end

-- one of these drains broke; where it was the first, the leader took no step
abbrev pub Fails : Option PlainFrame → Core → List ℕ → Course → ℕ → Served → List ℕ → Type 0
Fails None core bytes end count why reply = ⊥
Fails (Some f) core bytes end count why reply =
    BreaksIn (InDrain bytes (begun core)) end why × (reply ≡ spelling (link_down f count))

-- What a server did with these bytes, as far as this course: count is the net's count of faults, reply what
-- the one that waits is to get.
abbrev pub Responds : Core → List ℕ → Course → ℕ → Served → List ℕ → Type 0
Responds core bytes end count why reply =
    let drained = drained_for (role_of core) bytes in
    (IsSent why × Goes drained core bytes end × (reply ≡ end.reply))
    ⊎ Fails drained core bytes end count why reply

-- what it did with them up to a frame that its log refused
abbrev pub StopsAt : Option PlainFrame → Core → List ℕ → Course → Handed → Type 0
StopsAt None core bytes end refused =
    (end ≡ begun core) × (refused ≡ handed (sender_at (role_of core) bytes) bytes)
StopsAt (Some f) core bytes end refused = HandleStops bytes (begun core) end refused

abbrev pub Stops : Core → List ℕ → Course → Handed → Type 0
Stops core bytes end refused = StopsAt (drained_for (role_of core) bytes) core bytes end refused
