-- What the helper is between two frames, and what it answers.
use Rattle.std.specs.Prelude.{ℕ, List, [], replicate, slice_index_or, slice_set}
use Rattle.express_words.specs.declared.settings.Settings.{Settings}
use Rattle.express_words.specs.declared.refusal.Refusal.{Refusal}
use Rattle.express_words.specs.declared.audit.ProofShare.{ProofShare}
use Rattle.express_words.specs.declared.audit.Closing.{Closing}
use Rattle.frame_rules.specs.declared.frame.DepositBody.{DepositBody}
use Rattle.frame_rules.specs.declared.frame.DepositBody.TheVariants as deposit
use Rattle.frame_rules.specs.Frames as frame
use Rattle.frame_rules.specs.Frames.{PlainFrame, PlainBody}
use Rattle.frame_rules.specs.Spelling.{spelling}
use Rattle.lane_table.specs.declared.row.Row.{Row as Door}
use Rattle.lane_table.specs.declared.row.Want.{Want}
use Rattle.lane_table.specs.declared.row.Want.TheVariants.{Nothing, Register, Write as Writes, Read}
use Rattle.step_rules.specs.Boxes.{Box}
use Rattle.audit_rules.specs.Values.{Write}
use Rattle.frame_rules.specs.Whole.{answer, refused_bytes}

-- how far a lane's request has come, with what its row holds
pub data Stage : Type 0 where
  Idle : Stage
  Deposited : (held : DepositBody) → Stage
  Begun : (write : Write) → Stage
  Proved : (write : Write) (share : ProofShare) → Stage
  Audited : (write : Write) (closing : Closing) → Stage
  Done : (want : Want) → Stage

pub record Row : Type 0 where
  pub serial : ℕ
  pub stage : Stage

abbrev pub row : ℕ → Stage → Row
row serial stage = record { serial = serial; stage = stage }

abbrev pub idle : Row
idle = row 0 Idle

-- What the helper holds but for the link: the rows stand by lane, and draws says how many draws of the
-- seed were taken.
pub record Server : Type 0 where
  pub settings : Settings
  pub boxes : List Box
  pub rows : List Row
  pub draws : ℕ
  pub seed : List ℕ

-- Carried says how many commands were carried out; the replies to the last ones are kept, oldest first.
pub record Helper : Type 0 where
  pub server : Server
  pub carried : ℕ
  pub replies : List (List ℕ)

unfoldable pub opened_server : Settings → List ℕ → Server
opened_server settings seed =
    record { settings = settings; boxes = []; rows = replicate settings.lanes idle; draws = 0; seed = seed }

abbrev pub opened_helper : Settings → List ℕ → Helper
opened_helper settings seed = record { server = opened_server settings seed; carried = 0; replies = [] }

abbrev pub row_at : Server → ℕ → Row
row_at h lane = slice_index_or h.rows lane idle

abbrev pub with_row : Server → ℕ → Row → Server
with_row h lane r = record h { rows = slice_set h.rows lane r }

abbrev pub phase_of : Stage → ℕ
phase_of Idle = 0
phase_of (Deposited held) = 1
phase_of (Begun write) = 2
phase_of (Proved write share) = 3
phase_of (Audited write closing) = 4
phase_of (Done want) = 5

abbrev pub want_in : DepositBody → Want
want_in (deposit.Register key) = Register
want_in (deposit.Write root) = Writes
want_in (deposit.Read token) = Read

abbrev pub want_of : Stage → Want
want_of Idle = Nothing
want_of (Deposited held) = want_in held
want_of (Begun write) = Writes
want_of (Proved write share) = Writes
want_of (Audited write closing) = Writes
want_of (Done want) = want

abbrev pub door : Row → Door
door r = record { serial = r.serial; phase = phase_of r.stage; want = want_of r.stage }

-- ---- what it answers

-- to a client: always one frame, whose spelling is written
pub record Turn : Type 0 where
  pub server : Server
  pub reply : PlainFrame

abbrev pub says : Server → PlainFrame → PlainBody → Turn
says h f body = record { server = h; reply = answer f body }

abbrev pub refuses : Server → PlainFrame → Refusal → Turn
refuses h f r = says h f (frame.Refused r)

abbrev pub refuses_bytes : Server → Refusal → Turn
refuses_bytes h r = record { server = h; reply = refused_bytes r }

pub record ClientTurn : Type 0 where
  pub helper : Helper
  pub reply : PlainFrame

-- to the leader
pub data Answer : Type 0 where
  Carried : (reply : PlainFrame) → Answer
  Repeated : (bytes : List ℕ) → Answer
  Ignored : Answer

abbrev pub written : Answer → List ℕ
written (Carried reply) = spelling reply
written (Repeated bytes) = bytes
written Ignored = []

pub record LinkTurn : Type 0 where
  pub helper : Helper
  pub answer : Answer
