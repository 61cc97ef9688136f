-- The commands that wait for replies are those that busy rows wait for.
use Rattle.std.specs.Prelude.{◌≡◌, ℕ, ◌==◌, ◌+◌, List, [], ◌∷◌, length, filter, slice_get, slice_index_or}
use Rattle.std.specs.Prelude.{Some, Ok}
use Rattle.express_words.specs.declared.settings.Settings.{Settings}
use Rattle.frame_rules.specs.Frames as frame
use Rattle.frame_rules.specs.Frames.{PlainFrame, PlainBody}
use Rattle.frame_rules.specs.Whole.{whole}
use Rattle.step_rules.specs.Leader.{Leader, Asked, Registering, Writing, Reading, Retiring, Stage}
use Rattle.step_rules.specs.Leader.{Waiting, Auditing, Settling, Row, idle, opened_leader}
use Rattle.step_rules.specs.LeaderClients.{on_client}
use Rattle.step_rules.specs.LeaderReplies.{on_reply_bytes}
use Rattle.leader_core.specs.declared.stores.LeaderStores.{LeaderStores}
use Rattle.leader_core.specs.declared.turn.Turn.{Turn}
use Rattle.leader_core.specs.declared.turn.Turn.TheVariants as turn
use Rattle.leader_core.specs.State.{leader_in, AreStores}
use Rattle.leader_core.specs.Told.{turned}

-- the outstanding commands of a lane
abbrev pub commands_of : ℕ → List PlainFrame → List PlainFrame
commands_of lane outstanding = filter (λ c. c.lane == lane) outstanding

abbrev pub command : ℕ → ℕ → ℕ → PlainBody → PlainFrame
command lane serial number body = record { lane = lane; serial = serial; link = number; body = body }

-- what a request's first command asks for
abbrev pub asks_for : Asked → PlainBody
asks_for (Registering address key) = frame.LinkRegister address
asks_for (Writing root part draw) = frame.LinkBegin draw part
asks_for (Reading number) = frame.LinkRead number
asks_for (Retiring number) = frame.LinkRetire number

-- what a lane waits for at a serial: a busy stage for one command, of the stage's number
abbrev pub awaited_at : ℕ → ℕ → Stage → List PlainFrame
awaited_at lane serial (Waiting number asked) = command lane serial number (asks_for asked) ∷ []
awaited_at lane serial (Auditing number write share sigma opened) =
    command lane serial number (frame.LinkAudit sigma opened) ∷ []
awaited_at lane serial (Settling number write own other) =
    command lane serial number (frame.LinkSettle own) ∷ []
awaited_at lane serial stage = []

abbrev pub awaited : ℕ → Row → List PlainFrame
awaited lane r = awaited_at lane r.serial r.stage

-- of each lane the command that its row waits for is outstanding, and nothing else; their numbers are the
-- last before the next one, in order
pub record AreThoseAwaited (lanes : ℕ) (rows : List Row) (outstanding : List PlainFrame) (next : ℕ)
    : Type 0 where
  pub count : length rows ≡ lanes
  pub commands : (lane : ℕ) → commands_of lane outstanding ≡ awaited lane (slice_index_or rows lane idle)
  pub numbers : (place : ℕ) (c : PlainFrame) → slice_get outstanding place ≡ Some c
      → c.link + length outstanding ≡ next + place

abbrev pub RowsAwait : Leader → Type 0
RowsAwait a = AreThoseAwaited a.settings.lanes a.rows a.outstanding a.next

-- what holds of the stores between two calls
pub record IsLeader (c : LeaderStores) : Type 0 where
  pub core : AreStores c
  pub rows : RowsAwait (leader_in c)

-- The frame's lane has one command outstanding, which is of the frame's serial and of this number.
pub record IsAwaited (a : Leader) (bytes : List ℕ) (number : ℕ) : Type 0 where
  pub frame : PlainFrame
  pub read : whole bytes ≡ Ok frame
  pub body : PlainBody
  pub only : commands_of frame.lane a.outstanding ≡ command frame.lane frame.serial number body ∷ []

-- where a client is told to wait for a command, that is outstanding
abbrev pub TellsAwaited : Leader → List ℕ → Turn → Type 0
TellsAwaited a bytes (turn.Waiting number) = IsAwaited a bytes number
TellsAwaited a bytes other = Unit {0}

-- ---- the steps of a leader

abbrev pub OpenedAwaits : Type 0
OpenedAwaits = (settings : Settings) (seed : List ℕ) → RowsAwait (opened_leader settings seed)

abbrev pub ClientsAwait : Type 0
ClientsAwait = (a : Leader) (bytes : List ℕ) → RowsAwait a → RowsAwait (on_client a bytes).leader

abbrev pub RepliesAwait : Type 0
RepliesAwait = (a : Leader) (bytes : List ℕ) → RowsAwait a → RowsAwait (on_reply_bytes a bytes).leader

abbrev pub ClientsAreTold : Type 0
ClientsAreTold =
    (a : Leader) (bytes : List ℕ) → RowsAwait a → TellsAwaited a bytes (turned (on_client a bytes).answer)
