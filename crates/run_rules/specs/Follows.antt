-- How a run over bytes follows the token run: each frame is that of its token, and each actor holds what the
-- history gives. The history is that of the whole run, so what was said of a frame stays true of it.
use Rattle.std.specs.Prelude.{◌≡◌, ◌<◌, ◌≤◌, ◌+◌, ◌-◌, ◌^◌, ◌⊎◌, ℕ, zero, suc, Bool, true, false, List, []}
use Rattle.std.specs.Prelude.{◌∷◌, length, take, drop, Option, Some, None, slice_get, slice_index_or}
use Rattle.express_words.specs.Limits.{KeepsLimits}
use Rattle.express_words.specs.Ranges.{IsWord, IsProofShare}
use Rattle.dpf_rules.specs.Bytes.{AreBytes}
use Rattle.express_words.specs.declared.refusal.Refusal.{Refusal}
use Rattle.frame_rules.specs.declared.frame.DepositBody.TheVariants as deposit
use Rattle.frame_rules.specs.Frames as frame
use Rattle.frame_rules.specs.Frames.{PlainFrame, PlainBody}
use Rattle.express_words.specs.Limits.{levels_len}
use Rattle.frame_rules.specs.Spelling.{spelling, IsFrame, IsKey}
use Rattle.frame_rules.specs.Whole.{is_from_client}
use Rattle.mailbox_rules.specs.Requests.{Request, Register, Write, Command, Registers, Begins, Audits}
use Rattle.mailbox_rules.specs.Requests.{Settles, Reads, Retires, opening_of, Line, Entry, entry, lines_of}
use Rattle.mailbox_rules.specs.Requests.{Operation, AddBox, BeginWrite, AuditWrite, SettleWrite, ReadBox}
use Rattle.mailbox_rules.specs.Requests.{RetireBox, Refuse}
use Rattle.mailbox_rules.specs.Tables.{Result, Gave, result_sum, result_of}
use Rattle.token_rules.specs.Tokens as token
use Rattle.token_rules.specs.Tokens.{Token, Lane, World, Requests}
use Rattle.token_rules.specs.Run.{sent_of, line_of}
use Rattle.token_rules.specs.Clients.{answered_below}
use Rattle.step_rules.specs.Helper as helper
use Rattle.step_rules.specs.Helper.{Helper}
use Rattle.step_rules.specs.HelperCommands.{carries_out}
use Rattle.step_rules.specs.Leader as leader
use Rattle.step_rules.specs.Leader.{Leader}
use Rattle.step_rules.specs.Client as client
use Rattle.step_rules.specs.Client.{Client, Current, Step, Deposits, Submits, ProvesToHelper, ProvesToLeader}
use Rattle.step_rules.specs.ClientReplies.{of_no_frame}
use Rattle.step_tokens.specs.HelperRows as helper_rows
use Rattle.step_tokens.specs.LeaderRows as leader_rows
use Rattle.step_tokens.specs.ClientSteps.{IsLater}
use Rattle.run_rules.specs.Letters.{Addressee, ToClient, ToLeader, ToHelper, ToLeaderLink, ToHelperLink}
use Rattle.run_rules.specs.Letters.{Letter, letter, JournalLine, Told, Ended, NoOwnBox, Outcome, FrameWorld}
use Rattle.run_rules.specs.Letters.{leader_seed, client_seed, helper_seed, capacity}
use Rattle.run_rules.specs.Run.{value_of}
use Rattle.run_rules.specs.Book.{Book, Brought, place, table_at, request_of, wants, own_boxes, leaders_draw}
use Rattle.run_rules.specs.Book.{drawn_in, begun_in}
use Rattle.run_rules.specs.Values.{key_at, counted_at, part_at, root_at, ckey_at, write_at, share_at}
use Rattle.run_rules.specs.Values.{sigma_at, opened_at, closing_at, writes_at, shares_at, boxes_at}
use Rattle.run_rules.specs.Frames.{frame_with, deposit_at, submission_at, reply_with, result_at, last_line}
use Rattle.run_rules.specs.Frames.{answer_at, frame_of, line_value}

-- ---- the pool

-- the frame is spelled for that addressee
pub record Spelled (l : Letter) (to : Addressee) (f : PlainFrame) : Type 0 where
  pub at : l.to ≡ to
  pub bytes : l.bytes ≡ spelling f
  pub is_frame : IsFrame f

-- a frame of a client's lane is the one of its token
pub record IsFrameOf (b : Book) (l : Letter) (to : Addressee) (c : ℕ) (t : Token) : Type 0 where
  pub lane : c < b.settings.lanes
  pub frame : PlainFrame
  pub is : frame_of b t ≡ Some frame
  pub spelled : Spelled l to frame

-- an answer after which the client comes again
pub record IsLaterFrame (l : Letter) (c serial : ℕ) : Type 0 where
  pub refusal : Refusal
  pub later : IsLater refusal
  pub spelled : Spelled l (ToClient c) (frame_with c serial 0 (frame.Refused refusal))

-- a refusal of bytes that are no frame
abbrev pub OfNoFrame : PlainBody → Type 0
OfNoFrame (frame.Refused r) = of_no_frame r ≡ true
OfNoFrame body = ⊥

-- of what a server answers to a foreign lane only the addressee is told
pub record IsForeignAnswer (b : Book) (l : Letter) (c : ℕ) : Type 0 where
  pub frame : PlainFrame
  pub why : (b.foreign c ≡ true) ⊎ OfNoFrame frame.body
  pub lane : frame.lane ≡ c
  pub spelled : Spelled l (ToClient c) frame

-- The frames that servers send each other are made of what they hold, so those of foreign lanes too are told.

abbrev pub ForeignOrder : Book → ℕ → Line → PlainBody → Type 0
ForeignOrder b i x (frame.LinkRegister address) =
    (x.command ≡ Registers) × (address ≡ b.brought.address x.lane x.serial)
ForeignOrder b i x (frame.LinkBegin draw part) =
    (x.command ≡ Begins) × (draw ≡ leaders_draw b i) × (part ≡ part_at b x.lane x.serial)
ForeignOrder b i x (frame.LinkAudit sigma opened) =
    (x.command ≡ Audits) × (sigma ≡ sigma_at b x.lane x.serial) × (opened ≡ opened_at b 0 x.lane x.serial)
ForeignOrder b i x (frame.LinkSettle closing) =
    (x.command ≡ Settles) × (closing ≡ closing_at b 0 x.lane x.serial)
ForeignOrder b i x (frame.LinkRead n) = (x.command ≡ Reads) × (n ≡ b.brought.number x.lane x.serial)
ForeignOrder b i x (frame.LinkRetire n) = (x.command ≡ Retires) × (n ≡ b.brought.number x.lane x.serial)
ForeignOrder b i x body = ⊥

-- what a command does, by what its lane brought
abbrev pub does_by : Brought → ℕ → ℕ → Command → Operation
does_by b c s Registers = AddBox (b.address c s)
does_by b c s Begins = BeginWrite
does_by b c s Audits = AuditWrite
does_by b c s Settles = SettleWrite
does_by b c s Reads = ReadBox (b.number c s)
does_by b c s Retires = RetireBox (b.number c s)

abbrev pub brought_does : Book → Line → Operation
brought_does b x = does_by b.brought x.lane x.serial x.command

-- the entry does nothing, and the command is refused; or it does this, with its result at the helper's shares
pub record ForeignReply (b : Book) (i : ℕ) (x : Line) (body : PlainBody) : Type 0 where
  pub does : Operation
  pub entered : slice_get b.entries i ≡ Some (entry x does)
  pub answers : ((does ≡ Refuse) × ((r : Refusal) × (body ≡ frame.LinkReply (frame.ReplyRefused r))))
      ⊎ ((does ≡ brought_does b x)
      × (body ≡ reply_with b i x (result_of b.settings.boxes (writes_at b 1) (shares_at b 1 i) x does)))

abbrev pub ForeignBody : Book → Token → PlainBody → Type 0
ForeignBody b (token.Ordered n x) body = ForeignOrder b (n - 1) x body
ForeignBody b (token.Replied n x) body = ForeignReply b (n - 1) x body
ForeignBody b t body = ⊥

pub record IsForeignLink (b : Book) (l : Letter) (to : Addressee) (n : ℕ) (x : Line) (t : Token)
    : Type 0 where
  pub frame : PlainFrame
  pub link : frame.link ≡ n
  pub lane : frame.lane ≡ x.lane
  pub serial : frame.serial ≡ x.serial
  pub body : ForeignBody b t frame.body
  pub spelled : Spelled l to frame

abbrev pub IsLinked : Book → Letter → Addressee → ℕ → Line → Token → Bool → Type 0
IsLinked b l to n x t true = IsForeignLink b l to n x t
IsLinked b l to n x t false = IsFrameOf b l to x.lane t

-- bytes from outside, with the lane that they make foreign
abbrev pub IsInjected : List ℕ → Option ℕ → Type 0
IsInjected bytes (Some c) =
    (f : PlainFrame) × (IsFrame f × ((bytes ≡ spelling f) × ((f.lane ≡ c) × (is_from_client f.body ≡ true))))
IsInjected bytes None = (f : PlainFrame) → IsFrame f → bytes ≡ spelling f → is_from_client f.body ≡ true → ⊥

abbrev pub injected_to : Bool → Addressee
injected_to true = ToLeader
injected_to false = ToHelper

-- the command that opens a request
abbrev pub opening_in : Option Request → Command
opening_in (Some r) = opening_of r
opening_in None = Registers

-- a token and its letter
abbrev pub Carries : Book → Token → Letter → Type 0
Carries b (token.Deposit c s) l = IsFrameOf b l ToHelper c (token.Deposit c s)
Carries b (token.Submission c s command) l =
    (command ≡ opening_in (request_of b c s)) × IsFrameOf b l ToLeader c (token.Submission c s command)
Carries b (token.ProofToHelper c s) l = IsFrameOf b l ToHelper c (token.ProofToHelper c s)
Carries b (token.ProofToLeader c s) l = IsFrameOf b l ToLeader c (token.ProofToLeader c s)
Carries b (token.Ordered n x) l = IsLinked b l ToHelperLink n x (token.Ordered n x) (b.foreign x.lane)
Carries b (token.Replied n x) l = IsLinked b l ToLeaderLink n x (token.Replied n x) (b.foreign x.lane)
Carries b (token.HeldDeposit c s) l = IsFrameOf b l (ToClient c) c (token.HeldDeposit c s)
Carries b (token.HeldProof c s) l = IsFrameOf b l (ToClient c) c (token.HeldProof c s)
Carries b (token.Challenge c s) l = IsFrameOf b l (ToClient c) c (token.Challenge c s)
Carries b (token.Answer c s) l = IsFrameOf b l (ToClient c) c (token.Answer c s)
Carries b (token.Later c s) l = IsLaterFrame l c s
Carries b (token.Injected to_leader lane) l = (l.to ≡ injected_to to_leader) × IsInjected l.bytes lane
Carries b (token.Foreign c) l = IsForeignAnswer b l c

abbrev pub Pools : Book → List Token → List Letter → Type 0
Pools b [] [] = Unit {0}
Pools b (t ∷ ts) (l ∷ ls) = Carries b t l × Pools b ts ls
Pools b ts ls = ⊥

-- ---- the helper's rows

abbrev pub HelperHolds : Book → ℕ → ℕ → helper.Stage → Type 0
HelperHolds b c s helper.Idle = s ≡ 0
HelperHolds b c s (helper.Deposited held) = deposit_at b c s ≡ Some (frame.Deposit held)
HelperHolds b c s (helper.Begun write) = write ≡ write_at b 1 c s
HelperHolds b c s (helper.Proved write share) = (write ≡ write_at b 1 c s) × (share ≡ share_at b 1 c s)
HelperHolds b c s (helper.Audited write closing) = (write ≡ write_at b 1 c s) × (closing ≡ closing_at b 1 c s)
HelperHolds b c s (helper.Done want) = Unit {0}

-- what the row asks for is what its request does
pub record HelperRow (b : Book) (c : ℕ) (r : helper.Row) (x : token.Row) : Type 0 where
  pub bare : helper_rows.bare r ≡ x
  pub small : r.serial < 2 ^ 32
  pub want : 0 < r.serial → helper.want_of r.stage ≡ wants (request_of b c r.serial)
  pub holds : HelperHolds b c r.serial r.stage

-- a foreign lane's row holds what its frames brought
abbrev pub ForeignHolds : Book → ℕ → ℕ → helper.Stage → Type 0
ForeignHolds b c s (helper.Deposited (deposit.Register key)) = key ≡ key_at b 1 c s
ForeignHolds b c s (helper.Deposited (deposit.Write root)) = root ≡ root_at b 1 c s
ForeignHolds b c s (helper.Deposited (deposit.Read held)) = Unit {0}
ForeignHolds b c s stage = HelperHolds b c s stage

pub record ForeignHelperRow (b : Book) (c : ℕ) (r : helper.Row) (x : token.Row) : Type 0 where
  pub bare : helper_rows.bare r ≡ x
  pub small : r.serial < 2 ^ 32
  pub holds : ForeignHolds b c r.serial r.stage

abbrev pub HelperRowAt : Book → ℕ → Bool → helper.Row → token.Row → Type 0
HelperRowAt b c false r x = HelperRow b c r x
HelperRowAt b c true r x = ForeignHelperRow b c r x

abbrev pub HelperRows : Book → List helper.Row → (ℕ → Lane) → Type 0
HelperRows b rows lanes =
    (c : ℕ) → c < b.settings.lanes
    → HelperRowAt b c (b.foreign c) (slice_index_or rows c helper.idle) (lanes c).helper

-- ---- the leader's rows

abbrev pub AskedIs : Book → ℕ → ℕ → leader.Asked → Type 0
AskedIs b c s (leader.Registering address key) = submission_at b c s ≡ Some (frame.Register address key)
AskedIs b c s (leader.Writing root part draw) =
    (submission_at b c s ≡ Some (frame.Write root part)) × (draw ≡ leaders_draw b (place b c s Begins))
AskedIs b c s (leader.Reading n) = (held : ℕ) × (submission_at b c s ≡ Some (frame.Read n held))
AskedIs b c s (leader.Retiring n) = (held : ℕ) × (submission_at b c s ≡ Some (frame.Retire n held))

abbrev pub LeaderHolds : Book → ℕ → ℕ → leader.Stage → Type 0
LeaderHolds b c s leader.Idle = s ≡ 0
LeaderHolds b c s (leader.Waiting number asked) = AskedIs b c s asked
LeaderHolds b c s (leader.Challenged write kept) =
    (write ≡ write_at b 0 c s) × (kept ≡ frame.Challenge (ckey_at b c s)) × IsFrame (frame_with c s 0 kept)
LeaderHolds b c s (leader.Auditing number write share sigma opened) =
    (write ≡ write_at b 0 c s) × (share ≡ share_at b 0 c s) × (sigma ≡ sigma_at b c s)
    × (opened ≡ opened_at b 0 c s)
LeaderHolds b c s (leader.Settling number write own other) =
    (write ≡ write_at b 0 c s) × (own ≡ closing_at b 0 c s) × (other ≡ closing_at b 1 c s)
LeaderHolds b c s (leader.Done want kept) = (kept ≡ answer_at b c s) × IsFrame (frame_with c s 0 kept)

pub record LeaderRow (b : Book) (c : ℕ) (r : leader.Row) (x : token.Row) : Type 0 where
  pub bare : leader_rows.bare r ≡ x
  pub small : r.serial < 2 ^ 32
  pub want : 0 < r.serial → leader.want_of r.stage ≡ wants (request_of b c r.serial)
  pub holds : LeaderHolds b c r.serial r.stage

abbrev pub ForeignAsked : Book → ℕ → ℕ → leader.Asked → Type 0
ForeignAsked b c s (leader.Registering address key) =
    (address ≡ b.brought.address c s) × (key ≡ key_at b 0 c s)
ForeignAsked b c s (leader.Writing root part draw) =
    (root ≡ root_at b 0 c s) × (part ≡ part_at b c s) × (draw ≡ leaders_draw b (place b c s Begins))
ForeignAsked b c s (leader.Reading n) = n ≡ b.brought.number c s
ForeignAsked b c s (leader.Retiring n) = n ≡ b.brought.number c s

abbrev pub ForeignLeaderHolds : Book → ℕ → ℕ → leader.Stage → Type 0
ForeignLeaderHolds b c s (leader.Waiting number asked) = ForeignAsked b c s asked
ForeignLeaderHolds b c s (leader.Done want kept) = IsFrame (frame_with c s 0 kept)
ForeignLeaderHolds b c s stage = LeaderHolds b c s stage

pub record ForeignLeaderRow (b : Book) (c : ℕ) (r : leader.Row) (x : token.Row) : Type 0 where
  pub bare : leader_rows.bare r ≡ x
  pub small : r.serial < 2 ^ 32
  pub holds : ForeignLeaderHolds b c r.serial r.stage

abbrev pub LeaderRowAt : Book → ℕ → Bool → leader.Row → token.Row → Type 0
LeaderRowAt b c false r x = LeaderRow b c r x
LeaderRowAt b c true r x = ForeignLeaderRow b c r x

abbrev pub LeaderRows : Book → List leader.Row → (ℕ → Lane) → Type 0
LeaderRows b rows lanes =
    (c : ℕ) → c < b.settings.lanes
    → LeaderRowAt b c (b.foreign c) (slice_index_or rows c leader.idle) (lanes c).leader

-- ---- the link

-- an outstanding command is the frame of its token
abbrev pub IsCommand : Book → Bool → ℕ → Line → PlainFrame → Type 0
IsCommand b false n x f = frame_of b (token.Ordered n x) ≡ Some f
IsCommand b true n x f =
    (f.link ≡ n) × (f.lane ≡ x.lane) × (f.serial ≡ x.serial) × ForeignOrder b (n - 1) x f.body

-- those from a number on
abbrev pub AreCommands : Book → ℕ → List Line → List PlainFrame → Type 0
AreCommands b n [] [] = Unit {0}
AreCommands b n (x ∷ xs) (f ∷ fs) =
    (IsCommand b (b.foreign x.lane) n x f × IsFrame f × (x.lane < b.settings.lanes))
    × AreCommands b (suc n) xs fs
AreCommands b n xs fs = ⊥

-- the kept replies are those to the last numbers carried
abbrev pub AreReplies : Book → ℕ → List Line → List (List ℕ) → Type 0
AreReplies b n [] [] = Unit {0}
AreReplies b n (x ∷ xs) (bytes ∷ more) =
    IsLinked b (letter ToLeaderLink bytes) ToLeaderLink n x (token.Replied n x) (b.foreign x.lane)
    × AreReplies b (suc n) xs more
AreReplies b n xs more = ⊥

-- a client's row settles where the settle was issued
abbrev pub IsIssued : List Line → ℕ → ℕ → leader.Stage → Type 0
IsIssued commands c s (leader.Auditing number write share sigma opened) =
    (k : ℕ) → slice_get commands k ≡ Some (line_of c s Settles) → ⊥
IsIssued commands c s (leader.Settling number write own other) =
    (k : ℕ) × (slice_get commands k ≡ Some (line_of c s Settles))
IsIssued commands c s stage = Unit {0}

abbrev pub AreIssued : Book → List leader.Row → List Line → Type 0
AreIssued b rows commands =
    (c : ℕ) → c < b.settings.lanes → b.foreign c ≡ false
    → IsIssued commands c (slice_index_or rows c leader.idle).serial (slice_index_or rows c leader.idle).stage

-- a command of a foreign lane isn't issued yet
abbrev pub IsUnissued : List Line → ℕ → ℕ → Command → Type 0
IsUnissued commands c s y = (k : ℕ) → slice_get commands k ≡ Some (line_of c s y) → ⊥

-- by its row's stage
abbrev pub StillToIssue : List Line → ℕ → ℕ → leader.Stage → Type 0
StillToIssue commands c s (leader.Auditing number write share sigma opened) = IsUnissued commands c s Settles
StillToIssue commands c s (leader.Settling number write own other) = Unit {0}
StillToIssue commands c s (leader.Done want kept) = Unit {0}
StillToIssue commands c s stage = IsUnissued commands c s Audits × IsUnissued commands c s Settles

-- The commands of foreign lanes stand once, each for a request no later than its lane's row.
pub record ForeignCommands (b : Book) (rows : List leader.Row) (commands : List Line) : Type 0 where
  pub once : (i k : ℕ) (x : Line) → slice_get commands i ≡ Some x → slice_get commands k ≡ Some x
      → b.foreign x.lane ≡ true → i ≡ k
  pub there : (k : ℕ) (x : Line) → slice_get commands k ≡ Some x → b.foreign x.lane ≡ true
      → (x.lane < b.settings.lanes) × (x.serial ≤ (slice_index_or rows x.lane leader.idle).serial)
  pub still : (c : ℕ) → c < b.settings.lanes → b.foreign c ≡ true
      → StillToIssue commands c (slice_index_or rows c leader.idle).serial
      (slice_index_or rows c leader.idle).stage

-- an outstanding command of a foreign lane finds its row waiting for it
abbrev pub Awaits : Command → leader.Stage → Type 0
Awaits y (leader.Waiting number asked) = leader_rows.bare_asked asked ≡ y
Awaits y (leader.Auditing number write share sigma opened) = y ≡ Audits
Awaits y (leader.Settling number write own other) = y ≡ Settles
Awaits y stage = ⊥

abbrev pub AreAwaited : Book → List leader.Row → ℕ → List Line → Type 0
AreAwaited b rows acknowledged commands =
    (k : ℕ) (x : Line) → acknowledged ≤ k → slice_get commands k ≡ Some x → b.foreign x.lane ≡ true
    → ((slice_index_or rows x.lane leader.idle).serial ≡ x.serial)
    × Awaits x.command (slice_index_or rows x.lane leader.idle).stage

-- A foreign lane's write that has begun at the helper: its begin was carried out, and was its lane's last.
pub record BegunAt (b : Book) (carried c s : ℕ) : Type 0 where
  pub before : place b c s Begins < carried
  pub count : (table_at b carried).count c ≡ length (counted_at b c s)

abbrev pub HasBegun : Book → ℕ → ℕ → ℕ → helper.Stage → Type 0
HasBegun b carried c s (helper.Begun write) = BegunAt b carried c s
HasBegun b carried c s (helper.Proved write share) = BegunAt b carried c s
HasBegun b carried c s (helper.Audited write closing) = BegunAt b carried c s
HasBegun b carried c s stage = Unit {0}

abbrev pub HaveBegun : Book → List helper.Row → ℕ → Type 0
HaveBegun b rows carried =
    (c : ℕ) → c < b.settings.lanes → b.foreign c ≡ true
    → HasBegun b carried c (slice_index_or rows c helper.idle).serial
    (slice_index_or rows c helper.idle).stage

-- and at the leader
abbrev pub WasBegun : Book → ℕ → ℕ → ℕ → leader.Stage → Type 0
WasBegun b acknowledged c s (leader.Challenged write kept) = BegunAt b acknowledged c s
WasBegun b acknowledged c s (leader.Auditing number write share sigma opened) = BegunAt b acknowledged c s
WasBegun b acknowledged c s (leader.Settling number write own other) = BegunAt b acknowledged c s
WasBegun b acknowledged c s stage = Unit {0}

abbrev pub WereBegun : Book → List leader.Row → ℕ → Type 0
WereBegun b rows acknowledged =
    (c : ℕ) → c < b.settings.lanes → b.foreign c ≡ true
    → WasBegun b acknowledged c (slice_index_or rows c leader.idle).serial
    (slice_index_or rows c leader.idle).stage

-- ---- the two servers

pub record HelperFollows (b : Book) (h : Helper) (lanes : ℕ → Lane) (carried : ℕ) (journal : List Entry)
    : Type 0 where
  pub settings : h.server.settings ≡ b.settings
  pub seed : h.server.seed ≡ helper_seed b.seed
  pub count : length h.server.rows ≡ b.settings.lanes
  pub rows : HelperRows b h.server.rows lanes
  pub boxes : h.server.boxes ≡ boxes_at b 1 carried
  pub draws : h.server.draws ≡ begun_in journal
  pub number : h.carried ≡ carried
  pub kept : AreReplies b (suc (carried - length h.replies))
      (drop (carried - length h.replies) (lines_of journal)) h.replies
  pub window : (length h.replies ≡ b.settings.window) ⊎ (length h.replies ≡ carried)
  pub most : length h.replies ≤ b.settings.window
  pub begun : HaveBegun b h.server.rows carried

pub record LeaderFollows (b : Book) (a : Leader) (lanes : ℕ → Lane) (acknowledged : ℕ) (commands : List Line)
    : Type 0 where
  pub settings : a.settings ≡ b.settings
  pub seed : a.seed ≡ leader_seed b.seed
  pub count : length a.rows ≡ b.settings.lanes
  pub rows : LeaderRows b a.rows lanes
  pub boxes : a.boxes ≡ boxes_at b 0 acknowledged
  pub draws : a.draws ≡ drawn_in commands
  pub next : a.next ≡ length commands + 1
  pub outstanding : AreCommands b (suc acknowledged) (drop acknowledged commands) a.outstanding
  pub issued : AreIssued b a.rows commands
  pub foreign : ForeignCommands b a.rows commands
  pub begun : WereBegun b a.rows acknowledged
  pub awaited : AreAwaited b a.rows acknowledged commands

-- ---- the clients

abbrev pub CurrentIs : Book → ℕ → ℕ → ℕ → Option Current → Type 0
CurrentIs b c zero s current = current ≡ None
CurrentIs b c (suc zero) s current =
    (r : Request) × (request_of b c s ≡ Some r) × (current ≡ Some (record { request = r; step = Deposits }))
CurrentIs b c (suc (suc zero)) s current =
    (r : Request) × (request_of b c s ≡ Some r) × (current ≡ Some (record { request = r; step = Submits }))
CurrentIs b c (suc (suc (suc zero))) s current =
    (r : Request) × (request_of b c s ≡ Some r)
    × (current ≡ Some (record { request = r; step = ProvesToHelper (ckey_at b c s) }))
CurrentIs b c (suc (suc (suc (suc n)))) s current =
    (r : Request) × (request_of b c s ≡ Some r)
    × (current ≡ Some (record { request = r; step = ProvesToLeader (ckey_at b c s) }))

-- a client's serial is that of its current request, or else the next
abbrev pub serial_at : ℕ → ℕ → ℕ
serial_at zero s = suc s
serial_at (suc step) s = s

-- The client's boxes are those that it registered with the serials that it has the answers to.
pub record ClientFollows (b : Book) (c : ℕ) (client : Client) (step serial : ℕ) : Type 0 where
  pub mine : client.lane ≡ c
  pub seed : client.seed ≡ client_seed b.seed c
  pub width : client.width ≡ b.settings.width
  pub capacity : client.capacity ≡ capacity b.settings
  pub there : 0 < step → c < b.settings.lanes
  pub number : client.serial ≡ serial_at step serial
  pub current : CurrentIs b c step serial client.current
  pub owned : client.owned ≡ own_boxes b c (answered_below step serial)

-- a foreign lane's client is never asked
abbrev pub ClientAt : Book → ℕ → Bool → Client → ℕ → ℕ → Type 0
ClientAt b c false client step serial = ClientFollows b c client step serial
ClientAt b c true client step serial = (client.current ≡ None) × (step ≡ 0)

abbrev pub ClientsFollow : Book → (ℕ → Client) → (ℕ → Lane) → Type 0
ClientsFollow b clients lanes =
    (c : ℕ) → ClientAt b c (b.foreign c) (clients c) (lanes c).step (lanes c).serial

-- ---- what is printed

-- a write that settles had begun
abbrev pub SettlesBegun : Book → ℕ → Line → Operation → Type 0
SettlesBegun b i x SettleWrite = BegunAt b i x.lane x.serial
SettlesBegun b i x does = Unit {0}

-- Some helper that has the history's boxes, draws and kept replies after the first i entries carries the
-- command out with this reply. Its rows may be at any serials and stages, with what the history has for them:
-- which row of the lane the command met isn't said.
pub record HelperAnswers (b : Book) (i : ℕ) (x : Line) (command reply : PlainBody) : Type 0 where
  pub helper : Helper
  pub lanes : ℕ → Lane
  pub stands : HelperFollows b helper lanes i (take i b.entries)
  pub answers : reply ≡ (carries_out helper.server (frame_with x.lane x.serial (i + 1) command)).body

-- a foreign entry's line tells of its command and the helper's reply
pub record IsForeignLine (b : Book) (i : ℕ) (e : Entry) (line : JournalLine) : Type 0 where
  pub lane : line.lane ≡ e.line.lane
  pub serial : line.serial ≡ e.line.serial
  pub command : PlainBody
  pub reply : PlainBody
  pub ordered : ForeignOrder b i e.line command
  pub replied : ForeignReply b i e.line reply
  pub answers : HelperAnswers b i e.line command reply
  pub value : line.value ≡ value_of command reply
  pub begun : SettlesBegun b i e.line e.does

abbrev pub IsLineOf : Book → Bool → ℕ → Entry → JournalLine → Type 0
IsLineOf b false i e line = line ≡ line_value b i e.line
IsLineOf b true i e line = IsForeignLine b i e line

abbrev pub Journals : Book → ℕ → List Entry → List JournalLine → Type 0
Journals b i [] [] = Unit {0}
Journals b i (e ∷ es) (line ∷ lines) =
    IsLineOf b (b.foreign e.line.lane) i e line × Journals b (suc i) es lines
Journals b i es lines = ⊥

-- an outcome tells what its answer says
abbrev pub says : PlainBody → List ℕ → Option client.Outcome
says (frame.Registered n) message = Some (client.Registered n)
says frame.Accepted message = Some client.Accepted
says (frame.Message part more) message = Some (client.Message message)
says (frame.Refused r) message = Some (client.Refused r)
says body message = None

-- the message is the sum of both servers' shares
abbrev pub given_in : Result → List ℕ
given_in (Gave n bytes) = bytes
given_in result = []

abbrev pub message_told : Book → ℕ → ℕ → List ℕ
message_told b c s =
    let x = last_line b c s in
    let i = place b c s x.command in
    given_in (result_sum (result_at b 0 i x) (result_at b 1 i x))

abbrev pub TellsSame : Book → ℕ → token.Told → Told → Type 0
TellsSame b c (token.Answered s opening) (Ended outcome) =
    says (answer_at b c s) (message_told b c s) ≡ Some outcome
TellsSame b c (token.NoOwnBox own) told = told ≡ NoOwnBox own
TellsSame b c told other = ⊥

pub record IsOutcome (b : Book) (x : token.Outcome) (y : Outcome) : Type 0 where
  pub client : y.client ≡ x.client
  pub request : y.request ≡ x.request
  pub told : TellsSame b x.client x.told y.told

abbrev pub AreOutcomes : Book → List token.Outcome → List Outcome → Type 0
AreOutcomes b [] [] = Unit {0}
AreOutcomes b (x ∷ xs) (y ∷ ys) = IsOutcome b x y × AreOutcomes b xs ys
AreOutcomes b xs ys = ⊥

-- ---- what is known of a history

abbrev pub IsGood : Book → Request → Type 0
IsGood b (Register address) = address < 2 ^ 128
IsGood b (Write target message) = (target < 2 ^ 128) × (length message ≡ b.settings.width)
IsGood b request = Unit {0}

-- what foreign lanes brought came in frames, so it has the sizes of their fields
pub record IsOfFrames (b : Brought) : Type 0 where
  pub keys : (server c s : ℕ) → IsKey (b.key server c s)
  pub roots : (server c s : ℕ) → IsWord (b.root server c s)
  pub shares : (server c s : ℕ) → IsProofShare (b.share server c s)
  pub bytes : (c s : ℕ) → AreBytes (b.part c s)
  pub addresses : (c s : ℕ) → IsWord (b.address c s)
  pub numbers : (c s : ℕ) → b.number c s < 2 ^ 32

-- The settings keep their limits, requests and public parts fit them, and neither serials nor link numbers
-- run out.
pub record Sound (b : Book) : Type 0 where
  pub limits : KeepsLimits b.settings.width b.settings.boxes b.settings.lanes b.settings.window
  pub requests : (c s : ℕ) (r : Request) → request_of b c s ≡ Some r → IsGood b r
  pub parts : (c s : ℕ) → length (b.brought.part c s) ≡ levels_len + b.settings.width
  pub brought : IsOfFrames b.brought
  pub serials : (c : ℕ) → length (b.sent c) + 1 < 2 ^ 32
  pub numbers : length b.commands + 1 < 2 ^ 63

-- ---- all of it

-- the token run has come to a part of the history
pub record Within (b : Book) (w : World) : Type 0 where
  pub sent : (c : ℕ) → sent_of w c ≡ take (length (sent_of w c)) (b.sent c)
  pub commands : w.commands ≡ take (length w.commands) b.commands
  pub journal : w.journal ≡ take (length w.journal) b.entries

pub record Follows (b : Book) (f : FrameWorld) (w : World) : Type 0 where
  pub limit : w.limit ≡ b.settings.boxes
  pub width : w.width ≡ b.settings.width
  pub window : w.window ≡ b.settings.window
  pub foreign : w.foreign ≡ b.foreign
  pub helper : HelperFollows b f.helper w.lanes w.carried w.journal
  pub leader : LeaderFollows b f.leader w.lanes w.acknowledged w.commands
  pub clients : ClientsFollow b f.clients w.lanes
  pub waiting : (c : ℕ) → f.waiting c ≡ (w.requests c).waiting
  pub told : (c : ℕ) → f.told c ≡ (w.requests c).told
  pub pool : Pools b w.pool f.pool
  pub journal : Journals b 0 w.journal f.journal
  pub outcomes : AreOutcomes b w.outcomes f.outcomes
