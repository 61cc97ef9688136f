-- A helper's row and its answers without what they hold.
use Rattle.std.specs.Prelude.{◌≡◌, ◌<◌, ℕ, true, false, length}
use Rattle.express_words.specs.declared.audit.ProofShare.{ProofShare}
use Rattle.express_words.specs.declared.refusal.Refusal.{Refusal}
use Rattle.express_words.specs.declared.refusal.Refusal.TheVariants as refusal
use Rattle.frame_rules.specs.declared.frame.DepositBody.{DepositBody}
use Rattle.frame_rules.specs.declared.frame.DepositBody.TheVariants as deposit
use Rattle.frame_rules.specs.Frames as frame
use Rattle.frame_rules.specs.Frames.{PlainFrame, PlainBody}
use Rattle.mailbox_rules.specs.Requests.{Line}
use Rattle.token_rules.specs.Tokens as token
use Rattle.token_rules.specs.Tokens.{Phase}
use Rattle.token_rules.specs.Rows.{HelperSays, HelperNothing, HelperLater, HelperHeldDeposit, HelperHeldProof}
use Rattle.token_rules.specs.Rows.{HelperStep, helper_step, deposit_step, helper_proof_step, carried_phase}
use Rattle.lane_table.specs.Gates.{same_want}
use Rattle.lane_table.specs.declared.row.Want.{Want}
use Rattle.lane_table.specs.declared.row.Want.TheVariants.{Write}
use Rattle.step_rules.specs.Helper.{Server, Row, Stage, Idle, Deposited, Begun, Proved, Audited, Done, row_at}
use Rattle.step_rules.specs.Helper.{want_in, want_of}
use Rattle.step_rules.specs.HelperClients.{RowTurn, deposit_row, proof_row}
use Rattle.step_rules.specs.HelperCommands.{Effect, command}
use Rattle.step_tokens.specs.Commands.{command_of}

abbrev pub bare_phase : Stage → Phase
bare_phase Idle = token.Idle
bare_phase (Deposited held) = token.Deposited
bare_phase (Begun write) = token.Begun
bare_phase (Proved write share) = token.Proved
bare_phase (Audited write closing) = token.Audited
bare_phase (Done want) = token.Done

abbrev pub bare : Row → token.Row
bare r = token.row r.serial (bare_phase r.stage)

-- refusals 4 and 5 stand for later
abbrev pub bare_refusal : Refusal → HelperSays
bare_refusal (refusal.Stale serial) = HelperLater
bare_refusal (refusal.Phase phase) = HelperLater
bare_refusal r = HelperNothing

abbrev pub bare_says : PlainBody → HelperSays
bare_says (frame.Held false) = HelperHeldDeposit
bare_says (frame.Held true) = HelperHeldProof
bare_says (frame.Refused r) = bare_refusal r
bare_says body = HelperNothing

abbrev pub bare_turn : RowTurn → HelperStep
bare_turn t = helper_step (bare t.row) (bare_says t.body)

-- ---- what honest clients and leaders send

-- a deposit of the row's serial asks for what the row asks for
abbrev pub IsOneRequest : Row → ℕ → Want → Type 0
IsOneRequest r serial want = serial ≡ r.serial → same_want want (want_of r.stage) ≡ true

-- a proof of the row's serial comes to a write that has begun
abbrev pub TakesProof : Stage → Type 0
TakesProof (Begun write) = Unit {0}
TakesProof (Proved write share) = Unit {0}
TakesProof (Audited write closing) = Unit {0}
TakesProof (Done want) = same_want Write want ≡ true
TakesProof stage = ⊥

-- a command finds what it needs in its row
abbrev pub IsReady : PlainBody → Stage → Type 0
IsReady (frame.LinkRegister address) (Deposited (deposit.Register key)) = Unit {0}
IsReady (frame.LinkBegin draw part) (Deposited (deposit.Write root)) = Unit {0}
IsReady (frame.LinkAudit sigma opened) (Proved write share) = Unit {0}
IsReady (frame.LinkSettle closing) (Audited write own) = Unit {0}
IsReady (frame.LinkRead number) (Deposited (deposit.Read held)) = Unit {0}
IsReady (frame.LinkRetire number) (Deposited (deposit.Read held)) = Unit {0}
IsReady body stage = ⊥

-- ---- the steps

abbrev pub DepositsStrip : Type 0
DepositsStrip =
    (r : Row) (serial : ℕ) (held : DepositBody) → IsOneRequest r serial (want_in held) →
    bare_turn (deposit_row r serial held) ≡ deposit_step serial (bare r)

abbrev pub ProofsStrip : Type 0
ProofsStrip =
    (r : Row) (serial : ℕ) (share : ProofShare) → (serial ≡ r.serial → TakesProof r.stage) →
    bare_turn (proof_row r serial share) ≡ helper_proof_step serial (bare r)

abbrev pub row_after : Effect → ℕ → token.Row
row_after e lane = bare (row_at e.server lane)

abbrev pub CommandsStrip : Type 0
CommandsStrip =
    (h : Server) (f : PlainFrame) (body : PlainBody) (stage : Stage) → f.lane < length h.rows →
    IsReady body stage →
    row_after (command h f body stage) f.lane ≡ token.row f.serial (carried_phase (command_of body))
