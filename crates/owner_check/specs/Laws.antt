-- A server that is asked stays as it was.
use Rattle.std.specs.Prelude.{◌≡◌, ℕ, ◌^◌, ◌<◌, ◌≤◌, length}
use Rattle.express_words.specs.Limits.{IsWidth}
use Rattle.frame_rules.specs.Spelling.{spelling}
use Rattle.step_rules.specs.Helper as helper
use Rattle.step_rules.specs.Helper.{Helper}
use Rattle.step_rules.specs.HelperClients as at_helper
use Rattle.step_rules.specs.Leader as leader
use Rattle.step_rules.specs.Leader.{Leader}
use Rattle.step_rules.specs.LeaderClients as at_leader
use Rattle.owner_check.specs.Questions.{no_box, leader_question, width_question, helper_question}

-- a leader, whatever its rows are, that has at most 2^32 - 1 boxes
abbrev pub KeepsLeader : Type 0
KeepsLeader =
    (a : Leader) (lane : ℕ) → lane < 2 ^ 16 → length a.boxes ≤ no_box
    → (at_leader.on_client a (spelling (leader_question lane))).leader ≡ a

-- a helper that is asked the leader's question
abbrev pub KeepsOtherServer : Type 0
KeepsOtherServer =
    (h : Helper) (lane : ℕ) → lane < 2 ^ 16
    → (at_helper.on_client h (spelling (leader_question lane))).helper ≡ h

-- a leader where the lane has had a request
abbrev pub KeepsWhenAskedItsWidth : Type 0
KeepsWhenAskedItsWidth =
    (a : Leader) (lane width : ℕ) → lane < 2 ^ 16 → IsWidth width → 1 ≤ (leader.row_at a lane).serial
    → (at_leader.on_client a (spelling (width_question lane width))).leader ≡ a

-- and so a helper
abbrev pub KeepsHelper : Type 0
KeepsHelper =
    (h : Helper) (lane : ℕ) → lane < 2 ^ 16 → 1 ≤ (helper.row_at h.server lane).serial
    → (at_helper.on_client h (spelling (helper_question lane))).helper ≡ h
