-- A leader's row and its answers without what they hold.
use Rattle.std.specs.Prelude.{◌≡◌, ◌<◌, ◌≤◌, ◌-◌, ◌^◌, ℕ, Bool, true, false, nat_le, List, length, Option}
use Rattle.std.specs.Prelude.{Some, None, slice_get}
use Rattle.express_words.specs.declared.audit.ProofShare.{ProofShare}
use Rattle.express_words.specs.declared.refusal.Refusal.{Refusal}
use Rattle.express_words.specs.declared.refusal.Refusal.TheVariants as refusal
use Rattle.frame_rules.specs.Frames as frame
use Rattle.frame_rules.specs.Frames.{PlainFrame, PlainBody}
use Rattle.dpf_rules.specs.Expansion as expansion
use Rattle.mailbox_rules.specs.Requests.{Command, Registers, Begins, Reads, Retires}
use Rattle.token_rules.specs.Tokens as token
use Rattle.token_rules.specs.Tokens.{Phase}
use Rattle.token_rules.specs.Rows.{LeaderSays, LeaderNothing, LeaderLater, LeaderKept, LeaderIssues}
use Rattle.token_rules.specs.Rows.{LeaderStep, leader_step, submission_step, leader_proof_step, reply_step}
use Rattle.lane_table.specs.Gates.{same_want}
use Rattle.lane_table.specs.declared.row.Want.{Want}
use Rattle.lane_table.specs.declared.row.Want.TheVariants.{Write}
use Rattle.step_rules.specs.Boxes.{Box}
use Rattle.step_rules.specs.Leader.{Leader, Row, Asked, Registering, Writing, Reading, Retiring, Stage, Idle}
use Rattle.step_rules.specs.Leader.{Waiting, Challenged, Auditing, Settling, Done, row_at, want_in, want_of}
use Rattle.step_rules.specs.Leader.{Answer, Reply, Link, StillWaiting, Turn, Ack, ToLane}
use Rattle.step_rules.specs.Leader.{Settles as SettleIssued, Ignored, AckTurn}
use Rattle.step_tokens.specs.Commands.{command_of}
use Rattle.step_rules.specs.LeaderClients.{Named, on_submission, on_proof}
use Rattle.step_rules.specs.LeaderReplies.{by_command, fits}

abbrev pub bare_phase : Stage → Phase
bare_phase Idle = token.Idle
bare_phase (Waiting number asked) = token.Waiting
bare_phase (Challenged write kept) = token.Challenged
bare_phase (Auditing number write share sigma opened) = token.Auditing
bare_phase (Settling number write own other) = token.Auditing
bare_phase (Done want kept) = token.Done

abbrev pub bare : Row → token.Row
bare r = token.row r.serial (bare_phase r.stage)

-- refusals 4, 5 and 13 stand for later
abbrev pub bare_refusal : Refusal → LeaderSays
bare_refusal (refusal.Stale serial) = LeaderLater
bare_refusal (refusal.Phase phase) = LeaderLater
bare_refusal (refusal.Again number) = LeaderLater
bare_refusal r = LeaderKept

-- what else a leader says to a client is what its row keeps
abbrev pub bare_body : PlainBody → LeaderSays
bare_body (frame.Refused r) = bare_refusal r
bare_body body = LeaderKept

abbrev pub bare_answer : Answer → LeaderSays
bare_answer (Reply reply) = bare_body reply.body
bare_answer (Link number command) = LeaderIssues (command_of command.body)
bare_answer (StillWaiting number) = LeaderNothing

abbrev pub bare_turn : ℕ → Turn → LeaderStep
bare_turn lane t = leader_step (bare (row_at t.leader lane)) (bare_answer t.answer)

abbrev pub bare_asked : Asked → Command
bare_asked (Registering address key) = Registers
bare_asked (Writing root part draw) = Begins
bare_asked (Reading number) = Reads
bare_asked (Retiring number) = Retires

-- as many commands are outstanding as the window
abbrev pub is_full : Leader → Bool
is_full a = nat_le a.settings.window (length a.outstanding)

-- ---- what honest clients send

-- what a row keeps isn't an answer after which the client comes again
abbrev pub KeepsAnswer : Stage → Type 0
KeepsAnswer (Challenged write kept) = bare_body kept ≡ LeaderKept
KeepsAnswer (Done want kept) = bare_body kept ≡ LeaderKept
KeepsAnswer stage = Unit {0}

-- the row's request isn't on its way
abbrev pub IsOver : Stage → Type 0
IsOver (Waiting number asked) = ⊥
IsOver (Auditing number write share sigma opened) = ⊥
IsOver (Settling number write own other) = ⊥
IsOver stage = Unit {0}

-- a read or retire names a box that is there, by its token
abbrev pub IsTaken : Leader → PlainFrame → Option Named → Type 0
IsTaken a f None = Unit {0}
IsTaken a f (Some n) =
    (box : Box) × (slice_get a.boxes n.number ≡ Some box) × (n.held ≡ expansion.token box.key f.lane f.serial)

-- the lane is there, and the link's numbers aren't used up
pub record HasRoom (a : Leader) (f : PlainFrame) : Type 0 where
  pub lane : f.lane < a.settings.lanes
  pub row : f.lane < length a.rows
  pub numbers : a.next ≤ 2 ^ 64 - 65
  pub keeps : KeepsAnswer (row_at a f.lane).stage

pub record IsSubmission (a : Leader) (f : PlainFrame) (asked : Asked) (named : Option Named) : Type 0 where
  pub room : HasRoom a f
  pub one : f.serial ≡ (row_at a f.lane).serial →
      same_want (want_in asked) (want_of (row_at a f.lane).stage) ≡ true
  pub over : (row_at a f.lane).serial < f.serial → IsOver (row_at a f.lane).stage
  pub taken : IsTaken a f named

-- a proof of the row's serial comes after the challenge
abbrev pub TakesProof : Stage → Type 0
TakesProof (Challenged write kept) = Unit {0}
TakesProof (Auditing number write share sigma opened) = Unit {0}
TakesProof (Settling number write own other) = Unit {0}
TakesProof (Done want kept) = same_want Write want ≡ true
TakesProof stage = ⊥

-- ---- the steps

abbrev pub SubmissionsStrip : Type 0
SubmissionsStrip =
    (a : Leader) (f : PlainFrame) (asked : Asked) (named : Option Named) → IsSubmission a f asked named →
    bare_turn f.lane (on_submission a f asked named) ≡
    submission_step (is_full a) f.serial (bare_asked asked) (bare (row_at a f.lane))

abbrev pub ProofsStrip : Type 0
ProofsStrip =
    (a : Leader) (f : PlainFrame) (share : ProofShare) → HasRoom a f →
    (f.serial ≡ (row_at a f.lane).serial → TakesProof (row_at a f.lane).stage) →
    bare_turn f.lane (on_proof a f share) ≡ leader_proof_step (is_full a) f.serial (bare (row_at a f.lane))

-- what the leader says of a reply that it applies
abbrev pub bare_ack : Ack → LeaderSays
bare_ack (ToLane lane reply) = bare_body reply.body
bare_ack (SettleIssued number command) = LeaderIssues (command_of command.body)
bare_ack Ignored = LeaderNothing

abbrev pub bare_ack_turn : ℕ → AckTurn → LeaderStep
bare_ack_turn lane t = leader_step (bare (row_at t.leader lane)) (bare_ack t.ack)

-- a reply that fits its command and is no refusal
abbrev pub RepliesStrip : Type 0
RepliesStrip =
    (a : Leader) (c : PlainFrame) (command : PlainBody) (stage : Stage) (body : PlainBody)
    (turn : AckTurn) → c.lane < length a.rows → by_command a c command stage body ≡ Some turn →
    bare_ack_turn c.lane turn ≡ reply_step c.serial (command_of command)

-- a refusal of a command that ends its request
abbrev pub EndsRequest : PlainBody → Type 0
EndsRequest (frame.LinkBegin draw part) = ⊥
EndsRequest (frame.LinkAudit sigma opened) = ⊥
EndsRequest body = Unit {0}

abbrev pub RefusalsStrip : Type 0
RefusalsStrip =
    (a : Leader) (c : PlainFrame) (body : PlainBody) (r : Refusal) (turn : AckTurn) →
    c.lane < length a.rows → EndsRequest c.body → bare_refusal r ≡ LeaderKept →
    fits a c body (Some r) ≡ Some turn → bare_ack_turn c.lane turn ≡ reply_step c.serial (command_of c.body)
