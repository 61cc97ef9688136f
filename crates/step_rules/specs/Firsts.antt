-- What a request's first frames leave stands, at any state and any bytes: how a row goes on at a step.
use Rattle.std.specs.Prelude.{◌≡◌, ℕ, ◌<◌, ◌+◌, ◌⊎◌, List, Some, Ok, slice_get}
use Rattle.express_words.specs.declared.audit.ProofShare.{ProofShare}
use Rattle.express_words.specs.declared.audit.Openings.{Openings}
use Rattle.frame_rules.specs.declared.frame.DepositBody.{DepositBody}
use Rattle.frame_rules.specs.declared.frame.DepositBody.TheVariants as deposit
use Rattle.frame_rules.specs.Frames as frame
use Rattle.frame_rules.specs.Frames.{PlainFrame, PlainBody}
use Rattle.frame_rules.specs.Whole.{whole, linked, is_command}
use Rattle.audit_rules.specs.Values.{Write}
use Rattle.step_rules.specs.Helper as helper
use Rattle.step_rules.specs.Helper.{Helper, Server, Deposited, Begun, Proved, Audited}
use Rattle.step_rules.specs.HelperClients.{client_turn}
use Rattle.step_rules.specs.HelperCommands.{audit_values, on_link_bytes}
use Rattle.step_rules.specs.Leader as leader
use Rattle.step_rules.specs.Leader.{Leader}
use Rattle.step_rules.specs.LeaderReplies.{on_reply_bytes, own_closing}

-- ---- the helper's rows at frames of clients

-- a later request's deposit comes
pub record TakesDeposit (g : PlainFrame) (before after : helper.Row) : Type 0 where
  pub held : DepositBody
  pub body : g.body ≡ frame.Deposit held
  pub later : before.serial < g.serial
  pub is : after ≡ helper.row g.serial (Deposited held)

-- the proof of a write that has begun comes, and none came before
pub record TakesProof (g : PlainFrame) (before after : helper.Row) : Type 0 where
  pub write : Write
  pub share : ProofShare
  pub body : g.body ≡ frame.Proof share
  pub same : g.serial ≡ before.serial
  pub begun : before.stage ≡ Begun write
  pub is : after ≡ helper.row before.serial (Proved write share)

-- bytes that are exactly one frame of the lane
pub record HelperTook (bytes : List ℕ) (lanes c : ℕ) (before after : helper.Row) : Type 0 where
  pub frame : PlainFrame
  pub read : whole bytes ≡ Ok frame
  pub lane : frame.lane ≡ c
  pub there : c < lanes
  pub takes : TakesDeposit frame before after ⊎ TakesProof frame before after

-- Each lane's row stays, or takes a later request's deposit or its write's first proof.
abbrev pub HelperTakesFirst : Type 0
HelperTakesFirst = (h : Server) (bytes : List ℕ) (c : ℕ) →
    let after = (client_turn h bytes).server in
    (helper.row_at after c ≡ helper.row_at h c)
    ⊎ HelperTook bytes h.settings.lanes c (helper.row_at h c) (helper.row_at after c)

-- ---- the helper's rows at commands

-- a write goes on with its root, the command's public part and its proof share, or the request is done with
abbrev pub HelperGoesTo : Server → PlainBody → helper.Stage → helper.Stage → Type 0
HelperGoesTo h body before (helper.Done want) = Unit {0}
HelperGoesTo h (frame.LinkBegin drawn part) (Deposited (deposit.Write root)) (Begun write) =
    (write.root ≡ root) × (write.part ≡ part)
HelperGoesTo h (frame.LinkAudit point other) (Proved write share) (Audited same closing) =
    (same ≡ write) × (closing ≡ (audit_values h write share point other).closing)
HelperGoesTo h body before after = ⊥

-- at the next command, which has the row's serial
pub record HelperWentOn (h : Helper) (bytes : List ℕ) (c : ℕ) (before after : helper.Row) : Type 0 where
  pub command : PlainFrame
  pub read : linked is_command h.server.settings.width bytes ≡ Some command
  pub next : command.link ≡ h.carried + 1
  pub lane : command.lane ≡ c
  pub serial : command.serial ≡ before.serial
  pub stage : helper.Stage
  pub is : after ≡ helper.row before.serial stage
  pub goes : HelperGoesTo h.server command.body before.stage stage

abbrev pub HelperGoesOn : Type 0
HelperGoesOn = (h : Helper) (bytes : List ℕ) (c : ℕ) →
    let after = (on_link_bytes h bytes).helper in
    (helper.row_at after.server c ≡ helper.row_at h.server c)
    ⊎ HelperWentOn h bytes c (helper.row_at h.server c) (helper.row_at after.server c)

-- ---- the leader's rows at replies

-- a write goes on with its root and public part, and then with its proof share at its point; or the request
-- is done with
abbrev pub LeaderGoesTo : leader.Stage → leader.Stage → Type 0
LeaderGoesTo before (leader.Done want kept) = Unit {0}
LeaderGoesTo (leader.Waiting n (leader.Writing root part drawn)) (leader.Challenged write kept) =
    (write.root ≡ root) × (write.part ≡ part)
LeaderGoesTo (leader.Auditing n write share point opened) (leader.Settling m same own other) =
    (same ≡ write) × ((helpers : Openings) × (own ≡ own_closing share point opened helpers))
LeaderGoesTo before after = ⊥

-- at the reply to the oldest outstanding command
pub record LeaderWentOn (a : Leader) (c : ℕ) (before after : leader.Row) : Type 0 where
  pub command : PlainFrame
  pub oldest : slice_get a.outstanding 0 ≡ Some command
  pub lane : command.lane ≡ c
  pub stage : leader.Stage
  pub is : after ≡ leader.row command.serial stage
  pub goes : LeaderGoesTo before.stage stage

-- a reply takes no draw
abbrev pub LeaderGoesOn : Type 0
LeaderGoesOn = (a : Leader) (bytes : List ℕ) (c : ℕ) →
    let after = (on_reply_bytes a bytes).leader in
    (after.draws ≡ a.draws)
    × ((leader.row_at after c ≡ leader.row_at a c)
    ⊎ LeaderWentOn a c (leader.row_at a c) (leader.row_at after c))
