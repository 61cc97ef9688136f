-- What one step tells, and where it stands.
use Rattle.std.proofs.Common.{◌≡◌, ◌≢◌, ℕ, ◌<◌, ◌≤◌, true, false, List, length, take, sym, ap, ◌∙◌, subst, arith}
use Rattle.std.proofs.lemmas.List.{length-take, take-take}
use Rattle.leader_core.specs.Told.{acked}
use Rattle.step_rules.specs.Leader as leader
use Rattle.step_rules.specs.LeaderReplies.{on_reply_bytes}
use Rattle.step_rules.specs.Refusals.{AckLeaves}
use Rattle.step_rules.proofs.LeaderRefusals.{requests}
use Rattle.node_restart.specs.declared.server.Core.{Core}
use Rattle.node_restart.specs.declared.server.Core.TheVariants.{Lead, Help}
use Rattle.node_restart.specs.declared.did.Did.{Did}
use Rattle.node_restart.specs.declared.did.Did.TheVariants as did
use Rattle.node_restart.specs.declared.frames.Sender.{Sender}
use Rattle.node_restart.specs.declared.frames.Sender.TheVariants.{Peer}
use Rattle.node_restart.specs.Steps.{step_of, lead_client, lead_peer, help_client, help_peer, Takes}
use Rattle.node_serve.specs.Draining.{IsOldest, IsHeeded, rounds_of}
use Rattle.node_serve.specs.Handing.{told, is_ignored, Tells}
use Rattle.node_serve.specs.declared.handing.Stepped.{Stepped}
use Rattle.node_serve.proofs.DrainLaws.{nearer}

step_room : (core : Core) (sender : Sender) (bytes : List ℕ) → told (step_of core sender bytes).did ≤ length (step_of core sender bytes).written
unfolding lead_client lead_peer help_client help_peer
step_room core sender bytes = grind arith

pub tells : (core : Core) (sender : Sender) (bytes : List ℕ) (new : Core) (d : Did) (t : Stepped) (old out : List ℕ) → t.told ≡ told d → t.ignored ≡ is_ignored d
    → Takes (step_of core sender bytes) new d old out → Tells (step_of core sender bytes) new t out
tells core sender bytes new d t old out count ignored s =
    let n : t.told ≡ told (step_of core sender bytes).did = count ∙ ap told s.did in
    let room = step_room core sender bytes in
    record {
      core_is = s.core;
      answer = rw n (sym (take-take _ _ out room) ∙ ap (take (told (step_of core sender bytes).did)) s.written);
      within = omega (arith, n, room, ap length s.written, length-take (length (step_of core sender bytes).written) out);
      ignored = ignored ∙ ap is_ignored s.did;
    }

-- ---- a leader at bytes of its helper

ignored_ack : (ack : leader.Ack) → is_ignored (did.Acked (acked ack)) ≡ true → ack ≡ leader.Ignored
ignored_ack ack e = grind arith

fitting_ack : (ack : leader.Ack) → is_ignored (did.Acked (acked ack)) ≡ false → ack ≢ leader.Ignored
fitting_ack ack e is = grind arith

-- where it ignores them it stays
pub ignored_stays : (core : Core) (sent bytes : List ℕ) → IsOldest core sent → is_ignored (step_of core Peer bytes).did ≡ true → (step_of core Peer bytes).core ≡ core
unfolding lead_peer
ignored_stays (Lead a) sent bytes oldest ignored =
    ap Lead (subst (λ (x : leader.Ack). AckLeaves x a (on_reply_bytes a bytes).leader) (ignored_ack _ ignored) (requests a bytes))
ignored_stays (Help h) sent bytes oldest ignored = absurd (cc oldest)

-- else its drain comes nearer to its end
pub heeded_nearer : (core : Core) (sent bytes : List ℕ) → IsOldest core sent → IsHeeded core bytes → rounds_of (step_of core Peer bytes).core < rounds_of core
unfolding lead_peer
heeded_nearer (Lead a) sent bytes oldest heeded = nearer a bytes (fitting_ack _ heeded)
heeded_nearer (Help h) sent bytes oldest heeded = absurd (cc oldest)
