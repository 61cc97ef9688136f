-- What the leader answers a client, and what the helper refuses a command for: each refusal with its cause.
use Rattle.std.specs.Prelude.{◌≡◌, ◌≢◌, ◌⊎◌, ℕ, ◌+◌, ◌-◌, ◌^◌, ◌<◌, ◌≤◌, Bool, true, false, List, length}
use Rattle.std.specs.Prelude.{Option, Some, None, Result, Ok, Err, slice_get}
use Rattle.express_words.specs.declared.refusal.Refusal.{Refusal}
use Rattle.express_words.specs.declared.refusal.Refusal.TheVariants as refusal
use Rattle.frame_rules.specs.declared.frame.DepositBody.TheVariants as deposit
use Rattle.frame_rules.specs.Frames as frame
use Rattle.frame_rules.specs.Frames.{PlainFrame, PlainBody}
use Rattle.frame_rules.specs.Whole.{answer, has_width, is_command, linked, refused_bytes, whole}
use Rattle.dpf_rules.specs.Expansion.{token}
use Rattle.lane_table.specs.Gates.{same_want}
use Rattle.lane_table.specs.declared.row.Want.{Want}
use Rattle.lane_table.specs.declared.row.Want.TheVariants as want
use Rattle.step_rules.specs.Boxes.{Box, place_of}
use Rattle.step_rules.specs.Helper as helper
use Rattle.step_rules.specs.Helper.{Helper, Server}
use Rattle.step_rules.specs.HelperCommands.{on_link_bytes, stage_for}
use Rattle.step_rules.specs.Leader as leader
use Rattle.step_rules.specs.Leader.{Leader}
use Rattle.step_rules.specs.LeaderClients.{oldest, on_client}

-- ---- the leader, at a frame of a client

-- the frames that it takes: the submissions, a write's with a public part of the width, and proofs
abbrev pub is_taken : ℕ → PlainBody → Bool
is_taken width (frame.Register address key) = true
is_taken width (frame.Write root part) = has_width width (frame.Write root part)
is_taken width (frame.Read number held) = true
is_taken width (frame.Retire number held) = true
is_taken width (frame.Proof share) = true
is_taken width body = false

-- the field at which any other is wrong: a public part that is too long or short, or the kind
abbrev pub wrong_at : PlainBody → ℕ
wrong_at (frame.Write root part) = 0
wrong_at body = 5

-- what a frame is for
abbrev pub want_of : PlainBody → Want
want_of (frame.Register address key) = want.Register
want_of (frame.Read number held) = want.Read
want_of (frame.Retire number held) = want.Read
want_of body = want.Write

-- a command of the row's lane is outstanding
abbrev pub is_busy : leader.Stage → Bool
is_busy (leader.Waiting number asked) = true
is_busy (leader.Auditing number write share sigma opened) = true
is_busy (leader.Settling number write own other) = true
is_busy stage = false

-- a proof goes with its row's request alone; a submission may open a later one
abbrev pub IsStale : PlainBody → (serial row : ℕ) → Type 0
IsStale (frame.Proof share) serial row = serial ≢ row
IsStale body serial row = serial < row

-- the row has taken no request, or, of a proof, hasn't challenged its write yet
abbrev pub IsEarly : leader.Stage → PlainBody → Type 0
IsEarly leader.Idle body = Unit {0}
IsEarly (leader.Waiting number asked) (frame.Proof share) = Unit {0}
IsEarly stage body = ⊥

-- A frame of the row's own request is out of phase where it is for another kind of request than the row's, or
-- early; a later request's submission where the row is busy.
abbrev pub IsOutOfPhase : leader.Row → PlainFrame → Type 0
IsOutOfPhase r f =
    ((f.serial ≡ r.serial)
    × ((same_want (want_of f.body) (leader.want_of r.stage) ≡ false) ⊎ IsEarly r.stage f.body))
    ⊎ ((r.serial < f.serial) × (is_busy r.stage ≡ true))

-- the link's numbers are used up, or as many commands are outstanding as the window
abbrev pub HasNoRoom : Leader → ℕ → Type 0
HasNoRoom a number =
    ((2 ^ 64 - 65 < a.next) × (number ≡ 0))
    ⊎ ((a.settings.window ≤ length a.outstanding) × (number ≡ oldest a))

-- the box and the token that a read or retire names
abbrev pub Names : PlainBody → (number held : ℕ) → Type 0
Names (frame.Read number held) n token = (number ≡ n) × (held ≡ token)
Names (frame.Retire number held) n token = (number ≡ n) × (held ≡ token)
Names body n token = ⊥

pub record HasOtherToken (a : Leader) (f : PlainFrame) (number : ℕ) : Type 0 where
  pub held : ℕ
  pub named : Names f.body number held
  pub box : Box
  pub is : slice_get a.boxes number ≡ Some box
  pub other : held ≢ token box.key f.lane f.serial

-- Why the leader refuses a frame that it takes. It has no other refusal: none that a link is down, and none
-- that is the helper's to give.
abbrev pub IsCause : Leader → PlainFrame → Refusal → Type 0
IsCause a f (refusal.Lane limit) = (limit ≡ a.settings.lanes) × (a.settings.lanes ≤ f.lane)
IsCause a f (refusal.Stale serial) =
    (serial ≡ (leader.row_at a f.lane).serial) × IsStale f.body f.serial serial
IsCause a f (refusal.Phase phase) =
    (phase ≡ leader.phase_of (leader.row_at a f.lane).stage) × IsOutOfPhase (leader.row_at a f.lane) f
IsCause a f (refusal.Again number) = HasNoRoom a number
IsCause a f (refusal.NoBox number) =
    (held : ℕ) × Names f.body number held × (slice_get a.boxes number ≡ None)
IsCause a f (refusal.BadToken number) = HasOtherToken a f number
IsCause a f why = ⊥

-- the row's kept answer: the challenge, or what its request came to
abbrev pub Keeps : leader.Stage → PlainBody → Type 0
Keeps (leader.Challenged write kept) body = body ≡ kept
Keeps (leader.Done want kept) body = body ≡ kept
Keeps stage body = ⊥

-- the command that the row waits for
abbrev pub WaitsFor : leader.Stage → ℕ → Type 0
WaitsFor (leader.Waiting number asked) n = n ≡ number
WaitsFor (leader.Auditing number write share sigma opened) n = n ≡ number
WaitsFor (leader.Settling number write own other) n = n ≡ number
WaitsFor stage n = ⊥

-- By what it answers: a kept answer of the frame's own request, or a refusal that has its cause; a command
-- where there is room; or that the frame's own request has a command outstanding.
abbrev pub AnswersTaken : Leader → PlainFrame → leader.Answer → Type 0
AnswersTaken a f (leader.Reply reply) =
    let r = leader.row_at a f.lane in
    (reply ≡ answer f reply.body)
    × (((f.serial ≡ r.serial) × Keeps r.stage reply.body)
    ⊎ ((why : Refusal) × (reply.body ≡ frame.Refused why) × IsCause a f why))
AnswersTaken a f (leader.Link number command) =
    (number ≡ a.next) × (a.next ≤ 2 ^ 64 - 65) × (length a.outstanding < a.settings.window)
AnswersTaken a f (leader.StillWaiting number) =
    let r = leader.row_at a f.lane in (f.serial ≡ r.serial) × WaitsFor r.stage number

-- all other bytes get the refusal of bytes that are no frame, which names no lane
abbrev pub AnswersIf : (taken : Bool) → (place : ℕ) → Leader → PlainFrame → leader.Answer → Type 0
AnswersIf true place a f said = AnswersTaken a f said
AnswersIf false place a f said = said ≡ leader.Reply (refused_bytes (refusal.Malformed place))

abbrev pub AnswersBytes : Leader → Result PlainFrame Refusal → leader.Answer → Type 0
AnswersBytes a (Ok f) said = AnswersIf (is_taken a.settings.width f.body) (wrong_at f.body) a f said
AnswersBytes a (Err why) said = said ≡ leader.Reply (refused_bytes why)

-- what the leader answers a client, at any state and any bytes
abbrev pub LeaderAnswers : Type 0
LeaderAnswers = (a : Leader) (bytes : List ℕ) → AnswersBytes a (whole bytes) (on_client a bytes).answer

-- ---- the helper, at a command

-- the box that a read or retire names
abbrev pub IsOfBox : PlainBody → ℕ → Type 0
IsOfBox (frame.LinkRead number) n = number ≡ n
IsOfBox (frame.LinkRetire number) n = number ≡ n
IsOfBox body n = ⊥

abbrev pub IsOfAddress : PlainBody → ℕ → Type 0
IsOfAddress (frame.LinkRegister address) n = address ≡ n
IsOfAddress body n = ⊥

-- the command finds nothing at its row that was deposited, begun or audited for it
abbrev pub HoldsNothing : PlainBody → helper.Stage → Type 0
HoldsNothing (frame.LinkRegister address) (helper.Deposited (deposit.Register key)) = ⊥
HoldsNothing (frame.LinkBegin drawn part) (helper.Deposited (deposit.Write root)) = ⊥
HoldsNothing (frame.LinkAudit sigma opened) (helper.Begun write) = ⊥
HoldsNothing (frame.LinkAudit sigma opened) (helper.Proved write share) = ⊥
HoldsNothing (frame.LinkSettle closing) (helper.Audited write own) = ⊥
HoldsNothing (frame.LinkRead number) (helper.Deposited (deposit.Read held)) = ⊥
HoldsNothing (frame.LinkRetire number) (helper.Deposited (deposit.Read held)) = ⊥
HoldsNothing body stage = Unit {0}

abbrev pub LacksProof : PlainBody → helper.Stage → Type 0
LacksProof (frame.LinkAudit sigma opened) (helper.Begun write) = Unit {0}
LacksProof body stage = ⊥

-- there is no box of that number, or it is retired
abbrev pub IsGone : Option Box → Type 0
IsGone None = Unit {0}
IsGone (Some box) = box.live ≡ false

-- a live box, whose key at the helper has another token than was deposited
pub record HasOtherDeposit (h : Server) (c : PlainFrame) (stage : helper.Stage) (number : ℕ) : Type 0 where
  pub named : IsOfBox c.body number
  pub held : ℕ
  pub deposited : stage ≡ helper.Deposited (deposit.Read held)
  pub box : Box
  pub is : slice_get h.boxes number ≡ Some box
  pub live : box.live ≡ true
  pub other : held ≢ token box.key c.lane c.serial

-- Why the helper refuses a command, where its lane's row stands so for the command's serial.
abbrev pub IsCommandCause : Server → PlainFrame → helper.Stage → Refusal → Type 0
IsCommandCause h c stage (refusal.Lane limit) = (limit ≡ h.settings.lanes) × (h.settings.lanes ≤ c.lane)
IsCommandCause h c stage refusal.NoDeposit = HoldsNothing c.body stage
IsCommandCause h c stage refusal.NotProved = LacksProof c.body stage
IsCommandCause h c stage (refusal.Taken n) =
    (address : ℕ) × IsOfAddress c.body address × (place_of address h.boxes ≡ Some n)
IsCommandCause h c stage (refusal.Full limit) =
    (limit ≡ h.settings.boxes) × (h.settings.boxes ≤ length h.boxes)
    × ((address : ℕ) × IsOfAddress c.body address × (place_of address h.boxes ≡ None))
IsCommandCause h c stage (refusal.NoBox n) = IsOfBox c.body n × IsGone (slice_get h.boxes n)
IsCommandCause h c stage (refusal.BadToken n) = HasOtherDeposit h c stage n
IsCommandCause h c stage why = ⊥

pub record IsRefusedFor (h : Server) (c : PlainFrame) (body : PlainBody) : Type 0 where
  pub caused : (why : Refusal) → body ≡ frame.LinkReply (frame.ReplyRefused why)
      → IsCommandCause h c (stage_for (helper.row_at h c.lane) c.serial) why

-- the next command, which it carries out
pub record CarriesOut (h : Helper) (bytes : List ℕ) (reply : PlainFrame) : Type 0 where
  pub command : PlainFrame
  pub read : linked is_command h.server.settings.width bytes ≡ Some command
  pub next : command.link ≡ h.carried + 1
  pub lane : reply.lane ≡ command.lane
  pub serial : reply.serial ≡ command.serial
  pub number : reply.link ≡ command.link
  pub refused : IsRefusedFor h.server command reply.body

abbrev pub AnswersCommand : Helper → List ℕ → helper.Answer → Type 0
AnswersCommand h bytes (helper.Carried reply) = CarriesOut h bytes reply
AnswersCommand h bytes said = Unit {0}

-- what the helper refuses a command for, at any state and any bytes
abbrev pub HelperAnswers : Type 0
HelperAnswers = (h : Helper) (bytes : List ℕ) → AnswersCommand h bytes (on_link_bytes h bytes).answer
