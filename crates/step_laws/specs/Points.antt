-- The point of an audit is told to nobody: until its row is done, what a server says to a client is the same
-- for any two points.
use Rattle.std.specs.Prelude.{◌≡◌, ℕ, List, length, Option, Some, None}
use Rattle.frame_rules.specs.Frames.{PlainFrame}
use Rattle.step_rules.specs.Helper as helper
use Rattle.step_rules.specs.Helper.{Server}
use Rattle.step_rules.specs.HelperClients.{client_turn}
use Rattle.step_rules.specs.Leader as leader
use Rattle.step_rules.specs.Leader.{Leader, Auditing, Settling, Reply}
use Rattle.step_rules.specs.LeaderClients.{on_client}

-- ---- the leader

-- alike but for the point of an audit, and what was made of it: openings and closings
abbrev pub AlikeButPoint : leader.Stage → leader.Stage → Type 0
AlikeButPoint (Auditing n write share point opened) (Auditing m w s other again) =
    (n ≡ m) × (write ≡ w) × (share ≡ s)
AlikeButPoint (Settling n write own other) (Settling m w closing closed) = (n ≡ m) × (write ≡ w)
AlikeButPoint one other = one ≡ other

-- what a client is told
abbrev pub said : leader.Answer → Option PlainFrame
said (Reply reply) = Some reply
said answer = None

-- with that row of a lane, and those commands outstanding
abbrev pub standing : Leader → ℕ → leader.Row → List PlainFrame → Leader
standing a c r commands = record (leader.with_row a c r) { outstanding = commands }

-- Whatever lane's frame comes: a leader says the same where a row holds another point, and where the commands
-- to the helper have other content.
abbrev pub LeaderTellsNoPoint : Type 0
LeaderTellsNoPoint =
    (a : Leader) (c serial : ℕ) (one other : leader.Stage) (commands others : List PlainFrame)
    (bytes : List ℕ) → AlikeButPoint one other → length commands ≡ length others
    → said (on_client (standing a c (leader.row serial one) commands) bytes).answer
    ≡ said (on_client (standing a c (leader.row serial other) others) bytes).answer

-- ---- the helper

abbrev pub AlikeButClosing : helper.Stage → helper.Stage → Type 0
AlikeButClosing (helper.Audited write closing) (helper.Audited w other) = write ≡ w
AlikeButClosing one other = one ≡ other

-- so the helper, where a row holds another closing
abbrev pub HelperTellsNoPoint : Type 0
HelperTellsNoPoint =
    (h : Server) (c serial : ℕ) (one other : helper.Stage) (bytes : List ℕ) → AlikeButClosing one other
    → (client_turn (helper.with_row h c (helper.row serial one)) bytes).reply
    ≡ (client_turn (helper.with_row h c (helper.row serial other)) bytes).reply
