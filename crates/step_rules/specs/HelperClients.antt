-- The helper's steps at frames of clients. In each function the first line that applies is taken.
use Rattle.std.specs.Prelude.{ℕ, true, false, nat_le, if◌then◌else◌, List, Result, Ok, Err}
use Rattle.express_words.specs.declared.audit.ProofShare.{ProofShare}
use Rattle.express_words.specs.declared.refusal.Refusal.{Refusal}
use Rattle.express_words.specs.declared.refusal.Refusal.TheVariants as refusal
use Rattle.frame_rules.specs.declared.frame.DepositBody.{DepositBody}
use Rattle.frame_rules.specs.Frames as frame
use Rattle.frame_rules.specs.Frames.{PlainFrame, PlainBody}
use Rattle.lane_table.specs.Gates.{opening_gate, closing_gate}
use Rattle.lane_table.specs.declared.gate.Gate.{Gate}
use Rattle.lane_table.specs.declared.gate.Gate.TheVariants.{New, Same, Stale, Phase}
use Rattle.frame_rules.specs.Whole.{whole}
use Rattle.step_rules.specs.Helper.{Server, Helper, Row, Stage, Idle, Deposited, Begun, Proved, Audited, Done}
use Rattle.step_rules.specs.Helper.{row, row_at, with_row, door, want_in, Turn, ClientTurn, says, refuses}
use Rattle.step_rules.specs.Helper.{refuses_bytes}

abbrev pub held_deposit : PlainBody
held_deposit = frame.Held false

abbrev pub held_proof : PlainBody
held_proof = frame.Held true

-- what a frame does to its lane's row, and what is answered
pub record RowTurn : Type 0 where
  pub row : Row
  pub body : PlainBody

abbrev pub row_turn : Row → PlainBody → RowTurn
row_turn r body = record { row = r; body = body }

abbrev pub row_refuses : Row → Refusal → RowTurn
row_refuses r why = row_turn r (frame.Refused why)

-- ---- Deposit

unfoldable pub deposit_at : Row → ℕ → DepositBody → Gate → RowTurn
deposit_at r serial held (Stale n) = row_refuses r (refusal.Stale n)
deposit_at r serial held (Phase p) = row_refuses r (refusal.Phase p)
deposit_at r serial held Same = row_turn r held_deposit
deposit_at r serial held New = row_turn (row serial (Deposited held)) held_deposit

unfoldable pub deposit_row : Row → ℕ → DepositBody → RowTurn
deposit_row r serial held = deposit_at r serial held (opening_gate (door r) serial (want_in held))

-- ---- Proof

unfoldable pub proof_in : Row → ProofShare → Stage → RowTurn
proof_in r share Idle = row_refuses r (refusal.Phase 0)
proof_in r share (Deposited held) = row_refuses r (refusal.Phase 1)
proof_in r share (Begun write) = row_turn (row r.serial (Proved write share)) held_proof
proof_in r share (Proved write before) = row_turn r held_proof
proof_in r share (Audited write own) = row_turn r held_proof
proof_in r share (Done want) = row_turn r held_proof

unfoldable pub proof_at : Row → ProofShare → Gate → RowTurn
proof_at r share (Stale n) = row_refuses r (refusal.Stale n)
proof_at r share (Phase p) = row_refuses r (refusal.Phase p)
proof_at r share Same = proof_in r share r.stage
proof_at r share New = proof_in r share r.stage

unfoldable pub proof_row : Row → ℕ → ProofShare → RowTurn
proof_row r serial share = proof_at r share (closing_gate (door r) serial)

-- ---- a frame of a lane that is there

abbrev pub at_row : Server → PlainFrame → RowTurn → Turn
at_row h f t = says (with_row h f.lane t.row) f t.body

unfoldable pub if_lane : Server → PlainFrame → RowTurn → Turn
if_lane h f t =
    if nat_le h.settings.lanes f.lane then refuses h f (refusal.Lane h.settings.lanes) else at_row h f t

-- ---- any frame

-- a kind that the helper doesn't take from clients is the field at place 5; the two that it takes have no
-- width
unfoldable pub by_kind : Server → PlainFrame → PlainBody → Turn
by_kind h f (frame.Deposit held) = if_lane h f (deposit_row (row_at h f.lane) f.serial held)
by_kind h f (frame.Proof share) = if_lane h f (proof_row (row_at h f.lane) f.serial share)
by_kind h f body = refuses_bytes h (refusal.Malformed 5)

unfoldable pub on_whole : Server → Result PlainFrame Refusal → Turn
on_whole h (Err r) = refuses_bytes h r
on_whole h (Ok f) = by_kind h f f.body

abbrev pub client_turn : Server → List ℕ → Turn
client_turn h bytes = on_whole h (whole bytes)

abbrev pub on_client : Helper → List ℕ → ClientTurn
on_client h bytes =
    let turn = client_turn h.server bytes in
    record { helper = record h { server = turn.server }; reply = turn.reply }
