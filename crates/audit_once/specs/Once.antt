-- A server audits a write once, whatever comes and in whatever order. Of two audits at two points the other
-- server would learn where the write goes.
use Rattle.std.specs.Prelude.{◌≡◌, ◌⊎◌, ◌≤◌, ℕ, ◌==◌, ◌&&◌, Bool, true, false, List, [], All, Contains, map}
use Rattle.std.specs.Prelude.{count_by}
use Rattle.express_words.specs.declared.settings.Settings.{Settings}
use Rattle.frame_rules.specs.Frames as frame
use Rattle.frame_rules.specs.Frames.{PlainFrame, PlainBody}
use Rattle.frame_rules.specs.Spelling.{spelling}
use Rattle.step_rules.specs.Helper.{opened_helper}
use Rattle.step_rules.specs.Leader.{opened_leader}
use Rattle.audit_once.specs.Runs.{Event, helper_sent, helper_written, leader_sent, leader_resent}

-- an opening d and e: the leader's is in the audit's command, the helper's in the reply
abbrev pub opens : PlainBody → Bool
opens (frame.LinkAudit sigma opened) = true
opens (frame.LinkReply (frame.ReplyAudited opened closing)) = true
opens body = false

-- a closing o and tau: the leader's is in the settle's command, the helper's in the reply to the audit
abbrev pub closes : PlainBody → Bool
closes (frame.LinkSettle closing) = true
closes (frame.LinkReply (frame.ReplyAudited opened closing)) = true
closes body = false

-- how many frames of a kind there are for a lane's request of this serial
abbrev pub count_for : (PlainBody → Bool) → (lane serial : ℕ) → List PlainFrame → ℕ
count_for kind lane serial sent =
    count_by (λ f. (f.lane == lane) && ((f.serial == serial) && kind f.body)) sent

-- The helper opens and closes at most once for each lane and serial, and all else that it writes on the link
-- is a reply of these again.
pub record HelperAuditsOnce (settings : Settings) (seed : List ℕ) (events : List Event) : Type 0 where
  pub opens : (lane serial : ℕ) →
      count_for opens lane serial (helper_sent (opened_helper settings seed) events) ≤ 1
  pub again :
      let sent = map spelling (helper_sent (opened_helper settings seed) events) in
      All (λ bytes. (bytes ≡ []) ⊎ Contains sent bytes) (helper_written (opened_helper settings seed) events)

-- The leader opens at most once and closes at most once for each lane and serial, and what it sends again is
-- a command of these.
pub record LeaderAuditsOnce (settings : Settings) (seed : List ℕ) (events : List Event) : Type 0 where
  pub opens : (lane serial : ℕ) →
      count_for opens lane serial (leader_sent (opened_leader settings seed) events) ≤ 1
  pub closes : (lane serial : ℕ) →
      count_for closes lane serial (leader_sent (opened_leader settings seed) events) ≤ 1
  pub again :
      All (Contains (leader_sent (opened_leader settings seed) events))
      (leader_resent (opened_leader settings seed) events)

-- whatever the settings and the seed, and whatever comes
abbrev pub HelpersAuditOnce : Type 0
HelpersAuditOnce =
    (settings : Settings) (seed : List ℕ) (events : List Event) → HelperAuditsOnce settings seed events

abbrev pub LeadersAuditOnce : Type 0
LeadersAuditOnce =
    (settings : Settings) (seed : List ℕ) (events : List Event) → LeaderAuditsOnce settings seed events
