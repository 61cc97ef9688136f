-- What the leader is between two frames, and what it answers.
use Rattle.std.specs.Prelude.{ℕ, List, [], replicate, slice_index_or, slice_set}
use Rattle.express_words.specs.declared.settings.Settings.{Settings}
use Rattle.express_words.specs.declared.refusal.Refusal.{Refusal}
use Rattle.express_words.specs.declared.audit.ProofShare.{ProofShare}
use Rattle.express_words.specs.declared.audit.Openings.{Openings}
use Rattle.express_words.specs.declared.audit.Closing.{Closing}
use Rattle.frame_rules.specs.Frames as frame
use Rattle.frame_rules.specs.Frames.{PlainFrame, PlainBody}
use Rattle.frame_rules.specs.Spelling.{spelling}
use Rattle.lane_table.specs.declared.row.Row.{Row as Door}
use Rattle.lane_table.specs.declared.row.Want.{Want}
use Rattle.lane_table.specs.declared.row.Want.TheVariants.{Nothing, Register, Write as Writes, Read}
use Rattle.step_rules.specs.Boxes.{Box}
use Rattle.audit_rules.specs.Values.{Write}
use Rattle.frame_rules.specs.Whole.{answer, refused_bytes}

-- what a request's first command is issued for, with what the leader holds of the request
pub data Asked : Type 0 where
  Registering : (address : ℕ) (key : List ℕ) → Asked
  Writing : (root : ℕ) (part : List ℕ) (draw : List ℕ) → Asked
  Reading : (number : ℕ) → Asked
  Retiring : (number : ℕ) → Asked

-- How far a lane's request has come, with what its row holds. Number is that of the lane's outstanding
-- command, kept is the answer that is given again.
pub data Stage : Type 0 where
  Idle : Stage
  Waiting : (number : ℕ) (asked : Asked) → Stage
  Challenged : (write : Write) (kept : PlainBody) → Stage
  Auditing : (number : ℕ) (write : Write) (share : ProofShare) (sigma : ℕ) (opened : Openings) → Stage
  Settling : (number : ℕ) (write : Write) (own other : Closing) → Stage
  Done : (want : Want) (kept : PlainBody) → Stage

pub record Row : Type 0 where
  pub serial : ℕ
  pub stage : Stage

abbrev pub row : ℕ → Stage → Row
row serial stage = record { serial = serial; stage = stage }

abbrev pub idle : Row
idle = row 0 Idle

-- The rows stand by lane. Outstanding are the commands that wait for their replies, oldest first; next is
-- the number that the next command gets.
pub record Leader : Type 0 where
  pub settings : Settings
  pub boxes : List Box
  pub rows : List Row
  pub outstanding : List PlainFrame
  pub next : ℕ
  pub draws : ℕ
  pub seed : List ℕ

unfoldable pub opened_leader : Settings → List ℕ → Leader
opened_leader settings seed =
    record {
      settings = settings;
      boxes = [];
      rows = replicate settings.lanes idle;
      outstanding = [];
      next = 1;
      draws = 0;
      seed = seed;
    }

abbrev pub row_at : Leader → ℕ → Row
row_at a lane = slice_index_or a.rows lane idle

abbrev pub with_row : Leader → ℕ → Row → Leader
with_row a lane r = record a { rows = slice_set a.rows lane r }

abbrev pub phase_of : Stage → ℕ
phase_of Idle = 0
phase_of (Waiting number asked) = 6
phase_of (Challenged write kept) = 7
phase_of (Auditing number write share sigma opened) = 8
phase_of (Settling number write own other) = 8
phase_of (Done want kept) = 5

abbrev pub want_in : Asked → Want
want_in (Registering address key) = Register
want_in (Writing root part draw) = Writes
want_in (Reading number) = Read
want_in (Retiring number) = Read

abbrev pub want_of : Stage → Want
want_of Idle = Nothing
want_of (Waiting number asked) = want_in asked
want_of (Challenged write kept) = Writes
want_of (Auditing number write share sigma opened) = Writes
want_of (Settling number write own other) = Writes
want_of (Done want kept) = want

abbrev pub door : Row → Door
door r = record { serial = r.serial; phase = phase_of r.stage; want = want_of r.stage }

-- ---- what it answers

-- to a client: a reply, a new command, or that the lane's command of a number is outstanding
pub data Answer : Type 0 where
  Reply : (reply : PlainFrame) → Answer
  Link : (number : ℕ) (command : PlainFrame) → Answer
  StillWaiting : (number : ℕ) → Answer

abbrev pub written : Answer → List ℕ
written (Reply reply) = spelling reply
written (Link number command) = spelling command
written (StillWaiting number) = []

pub record Turn : Type 0 where
  pub leader : Leader
  pub answer : Answer

abbrev pub turn : Leader → Answer → Turn
turn a answer = record { leader = a; answer = answer }

abbrev pub says : Leader → PlainFrame → PlainBody → Turn
says a f body = turn a (Reply (answer f body))

abbrev pub refuses : Leader → PlainFrame → Refusal → Turn
refuses a f r = says a f (frame.Refused r)

abbrev pub refuses_bytes : Leader → Refusal → Turn
refuses_bytes a r = turn a (Reply (refused_bytes r))

-- to the helper's reply: a reply for a lane, the settle, or nothing
pub data Ack : Type 0 where
  ToLane : (lane : ℕ) (reply : PlainFrame) → Ack
  Settles : (number : ℕ) (command : PlainFrame) → Ack
  Ignored : Ack

pub record AckTurn : Type 0 where
  pub leader : Leader
  pub ack : Ack
