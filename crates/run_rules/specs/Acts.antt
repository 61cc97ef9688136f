-- Runs with foreign lanes. What servers do at foreign frames, and what these brought, is read off the run
-- over bytes; the token run is told of it by its oracle, and the history keeps what was brought.
use Rattle.std.specs.List.{list_all}
use Rattle.std.specs.Prelude.{◌≡◌, ◌<◌, ◌≤◌, ◌^◌, ◌+◌, ℕ, ◌==◌, ◌&&◌, ◌||◌, nat_le, nat_lt, Bool, true, false}
use Rattle.std.specs.Prelude.{All, List, [], ◌∷◌, ◌++◌, drop, length, Option, Some, None, Result, Ok, Err}
use Rattle.std.specs.Prelude.{slice_get, if◌then◌else◌}
use Rattle.express_words.specs.declared.settings.Settings.{Settings}
use Rattle.express_words.specs.declared.refusal.Refusal.{Refusal}
use Rattle.express_words.specs.declared.audit.ProofShare.{ProofShare}
use Rattle.express_words.specs.Limits.{KeepsLimits, levels_len}
use Rattle.frame_rules.specs.declared.frame.DepositBody.TheVariants as deposit
use Rattle.frame_rules.specs.Frames as frame
use Rattle.frame_rules.specs.Frames.{PlainFrame, PlainBody}
use Rattle.frame_rules.specs.Whole.{whole, linked, is_command}
use Rattle.mailbox_rules.specs.Requests.{Command, Request, AddBox, AuditWrite, BeginWrite, Operation, ReadBox}
use Rattle.mailbox_rules.specs.Requests.{Refuse, RetireBox, SettleWrite}
use Rattle.token_rules.specs.Tokens as token
use Rattle.token_rules.specs.Tokens.{Act, Oracle, Token, World, no_act, oracle_of, start}
use Rattle.token_rules.specs.Run as tokens
use Rattle.token_rules.specs.Run.{sent_of}
use Rattle.token_rules.specs.Driven.{Driven, finished_by, token_moves}
use Rattle.step_rules.specs.Helper as helper
use Rattle.step_rules.specs.HelperClients.{client_turn}
use Rattle.step_rules.specs.HelperCommands.{on_link_bytes}
use Rattle.step_rules.specs.Leader as leader
use Rattle.step_rules.specs.LeaderClients.{on_client}
use Rattle.step_rules.specs.LeaderReplies.{on_reply_bytes}
use Rattle.step_tokens.specs.HelperRows as helper_rows
use Rattle.step_tokens.specs.LeaderRows as leader_rows
use Rattle.run_rules.specs.Letters.{Letter, FrameWorld, opened}
use Rattle.run_rules.specs.Run as frames
use Rattle.run_rules.specs.Run.{Event, Ask, Send, Tick, Deliver, Show, Finish, Inject}
use Rattle.step_tokens.specs.Commands.{command_of}
use Rattle.run_rules.specs.Book.{Book, Brought}
use Rattle.run_rules.specs.Follows.{Carries, Follows}
use Rattle.run_rules.specs.Known.{Known}
use Rattle.run_rules.specs.History.{Fits, frame_run, lane_from_client, no_brought, token_run}

-- ---- acts

-- at the helper: the row that is left, and the lane that is answered
abbrev pub helper_act : FrameWorld → ℕ → List ℕ → Act
helper_act f c bytes =
    let t = client_turn f.helper.server bytes in
    record no_act { row = helper_rows.bare (helper.row_at t.server c); says = Some t.reply.lane }

-- at the leader: a lane is answered, or a command is issued
abbrev pub says_of : leader.Answer → Option ℕ
says_of (leader.Reply reply) = Some reply.lane
says_of answer = None

abbrev pub issues_of : leader.Answer → Option Command
issues_of (leader.Link number command) = Some (command_of command.body)
issues_of answer = None

abbrev pub leader_act : FrameWorld → ℕ → List ℕ → Act
leader_act f c bytes =
    let t = on_client f.leader bytes in
    record no_act {
      row = leader_rows.bare (leader.row_at t.leader c);
      says = says_of t.answer;
      issues = issues_of t.answer;
    }

-- what a command did at the boxes, by the command and its reply
abbrev pub does_after : PlainBody → PlainBody → Operation
does_after order (frame.LinkReply (frame.ReplyRefused r)) = Refuse
does_after (frame.LinkRegister address) reply = AddBox address
does_after (frame.LinkBegin draw part) reply = BeginWrite
does_after (frame.LinkAudit sigma opened) reply = AuditWrite
does_after (frame.LinkSettle closing) reply = SettleWrite
does_after (frame.LinkRead number) reply = ReadBox number
does_after (frame.LinkRetire number) reply = RetireBox number
does_after order reply = Refuse

abbrev pub carried_act : token.Row → Option PlainFrame → helper.Answer → Act
carried_act r (Some order) (helper.Carried reply) =
    record no_act { row = r; does = does_after order.body reply.body }
carried_act r order answer = no_act

-- a command is carried out, else no act is taken
abbrev pub order_act : FrameWorld → ℕ → List ℕ → Act
order_act f c bytes =
    let t = on_link_bytes f.helper bytes in
    carried_act (helper_rows.bare (helper.row_at t.helper.server c))
    (linked is_command f.helper.server.settings.width bytes) t.answer

-- a reply fits, and its lane is answered or the settle is issued, or it doesn't fit
abbrev pub fits_of : leader.Ack → Bool
fits_of leader.Ignored = false
fits_of ack = true

abbrev pub settles_of : leader.Ack → Bool
settles_of (leader.Settles number command) = true
settles_of ack = false

abbrev pub reply_act : FrameWorld → ℕ → List ℕ → Act
reply_act f c bytes =
    let t = on_reply_bytes f.leader bytes in
    record no_act {
      row = leader_rows.bare (leader.row_at t.leader c);
      fits = fits_of t.ack;
      settles = settles_of t.ack;
    }

-- the act that is taken when a token comes with its letter
abbrev pub act_of : FrameWorld → Token → Letter → Act
act_of f (token.Injected false (Some c)) l = helper_act f c l.bytes
act_of f (token.Injected true (Some c)) l = leader_act f c l.bytes
act_of f (token.Ordered n x) l = order_act f x.lane l.bytes
act_of f (token.Replied n x) l = reply_act f x.lane l.bytes
act_of f t l = no_act

-- ---- what foreign frames brought

-- a client's frame of a foreign lane that a server took, where the leader is server 0 and the helper 1
pub record Taken : Type 0 where
  pub server : ℕ
  pub frame : PlainFrame

abbrev pub taken : ℕ → PlainFrame → List Taken
taken server f = record { server = server; frame = f } ∷ []

abbrev pub is_begun : helper.Stage → Bool
is_begun (helper.Begun write) = true
is_begun stage = false

-- the helper takes a new request's deposit, and the first proof of a write that has begun,
-- of the lanes it has
abbrev pub helper_takes : helper.Row → PlainFrame → PlainBody → List Taken
helper_takes r f (frame.Deposit held) = if nat_lt r.serial f.serial then taken 1 f else []
helper_takes r f (frame.Proof share) = if (f.serial == r.serial) && is_begun r.stage then taken 1 f else []
helper_takes r f body = []

-- the leader takes what it issues a command for
abbrev pub leader_takes : PlainFrame → leader.Answer → List Taken
leader_takes f (leader.Link number command) = taken 0 f
leader_takes f answer = []

abbrev pub taken_in : Bool → FrameWorld → List ℕ → Result PlainFrame Refusal → List Taken
taken_in false f bytes (Ok g) =
    if nat_le f.helper.server.settings.lanes g.lane then []
    else helper_takes (helper.row_at f.helper.server g.lane) g g.body
taken_in true f bytes (Ok g) = leader_takes g (on_client f.leader bytes).answer
taken_in to_leader f bytes (Err r) = []

-- what a server takes when a token comes with its letter
abbrev pub taken_of : FrameWorld → Token → Letter → List Taken
taken_of f (token.Injected to_leader (Some c)) l = taken_in to_leader f l.bytes (whole l.bytes)
taken_of f t l = []

abbrev pub or_else : {X : Type 0} → Option X → X → X
or_else (Some x) y = x
or_else None y = y

-- what the first of these that brings it brought
unfoldable pub first_in : {X : Type 0} → (Taken → Option X) → X → List Taken → X
first_in of default [] = default
first_in of default (t ∷ ts) = or_else (of t) (first_in of default ts)

abbrev pub if_here : {X : Type 0} → (PlainBody → Option X) → ℕ → ℕ → ℕ → Taken → Option X
if_here of server c serial t =
    if (t.server == server) && ((t.frame.lane == c) && (t.frame.serial == serial)) then of t.frame.body
    else None

-- Only what a frame can spell is brought.
abbrev pub if_fits : {X : Type 0} → Bool → X → Option X
if_fits true x = Some x
if_fits false x = None

abbrev pub is_word : ℕ → Bool
is_word n = nat_lt n (2 ^ 128)

abbrev pub is_share : ProofShare → Bool
is_share p =
    is_word p.u && (is_word p.v && (list_all is_word p.h && ((length p.h == 5)
    && (is_word p.a && (is_word p.b && is_word p.c)))))

abbrev pub is_part : ℕ → List ℕ → Bool
is_part width part = (length part == levels_len + width) && list_all (λ n. nat_lt n 256) part

abbrev pub key_in : PlainBody → Option (List ℕ)
key_in (frame.Deposit (deposit.Register key)) = if_fits (length key == 32) key
key_in (frame.Register address key) = if_fits (length key == 32) key
key_in body = None

abbrev pub root_in : PlainBody → Option ℕ
root_in (frame.Deposit (deposit.Write root)) = if_fits (is_word root) root
root_in (frame.Write root part) = if_fits (is_word root) root
root_in body = None

abbrev pub share_in : PlainBody → Option ProofShare
share_in (frame.Proof share) = if_fits (is_share share) share
share_in body = None

abbrev pub part_in : ℕ → PlainBody → Option (List ℕ)
part_in width (frame.Write root part) = if_fits (is_part width part) part
part_in width body = None

abbrev pub address_in : PlainBody → Option ℕ
address_in (frame.Register address key) = if_fits (is_word address) address
address_in body = None

abbrev pub number_in : PlainBody → Option ℕ
number_in (frame.Read number held) = if_fits (nat_lt number (2 ^ 32)) number
number_in (frame.Retire number held) = if_fits (nat_lt number (2 ^ 32)) number
number_in body = None

-- what is brought of a kind, where the others are as in a run of clients
abbrev pub brought_by : ℕ → List Taken → Brought
brought_by width all = let none = no_brought width in record {
  key = λ server c serial. first_in (if_here key_in server c serial) (none.key server c serial) all;
  root = λ server c serial. first_in (if_here root_in server c serial) (none.root server c serial) all;
  share = λ server c serial. first_in (if_here share_in server c serial) (none.share server c serial) all;
  part = λ c serial. first_in (if_here (part_in width) 0 c serial) (none.part c serial) all;
  address = λ c serial. first_in (if_here address_in 0 c serial) (none.address c serial) all;
  number = λ c serial. first_in (if_here number_in 0 c serial) (none.number c serial) all;
}

-- ---- both runs side by side, with the acts that were taken and what was taken of foreign frames

pub record Both : Type 0 where
  pub frames : FrameWorld
  pub world : World
  pub acts : List Act
  pub taken : List Taken

abbrev pub act_at : FrameWorld → Option Token → Option Letter → Act
act_at f (Some t) (Some l) = act_of f t l
act_at f t l = no_act

abbrev pub taken_at : FrameWorld → Option Token → Option Letter → List Taken
taken_at f (Some t) (Some l) = taken_of f t l
taken_at f t l = []

-- the act, where one was taken
abbrev pub acts_taken : World → World → Act → List Act
acts_taken w v act = if nat_lt w.moment v.moment then act ∷ [] else []

-- a token comes and its letter, with the act that the server takes
unfoldable pub both_come : Both → Option Token → Option Letter → Both
both_come s t l =
    let act = act_at s.frames t l in
    let w = tokens.delivers (λ n. act) s.world t in
    record {
      frames = frames.delivers s.frames l;
      world = w;
      acts = s.acts ++ acts_taken s.world w act;
      taken = s.taken ++ taken_at s.frames t l;
    }

abbrev pub both_deliver : Both → ℕ → Both
both_deliver s n = both_come s (slice_get s.world.pool n) (slice_get s.frames.pool n)

abbrev pub both_send : Both → ℕ → Both
both_send s c =
    record s { frames = frames.client_sends s.frames c; world = tokens.client_sends s.world c }

abbrev pub both_tick : Both → Both
both_tick s = record s { frames = frames.ticks s.frames; world = tokens.ticks s.world }

abbrev pub both_hand : Both → ℕ → ℕ → Both
both_hand s c before =
    both_come s (tokens.last_for c None (drop before s.world.pool))
    (frames.last_for c None (drop before s.frames.pool))

abbrev pub both_moves : Driven Both
both_moves = let moves = token_moves (λ n. no_act) in record {
  size = λ s. moves.size s.world;
  is_busy = λ s. moves.is_busy s.world;
  outstanding = λ s. moves.outstanding s.world;
  is_idle = λ s c. moves.is_idle s.world c;
  waiting = λ s c. moves.waiting s.world c;
  delivers = λ s n. both_deliver s n;
  sends = λ s c. both_send s c;
  ticks = λ s. both_tick s;
  hands_last = λ s c before. both_hand s c before;
}

abbrev pub both_ask : Both → ℕ → Request → Both
both_ask s c request =
    record s { frames = frames.asks s.frames c request; world = tokens.asks s.world c request }

abbrev pub both_inject : Both → Bool → List ℕ → Both
both_inject s to_leader bytes = record s {
  frames = frames.happens s.frames (Inject to_leader bytes);
  world = tokens.sends s.world (token.Injected to_leader (lane_from_client (whole bytes)));
}

unfoldable pub both_happen : Both → Event → Both
both_happen s (Ask c request) = both_ask s c request
both_happen s (Send c) = both_send s c
both_happen s Tick = both_tick s
both_happen s (Deliver number) = both_deliver s number
both_happen s (Show number) = record s { frames = frames.happens s.frames (Show number) }
both_happen s (Finish c) = finished_by both_moves s c
both_happen s (Inject to_leader bytes) = both_inject s to_leader bytes

unfoldable pub run_both : Both → List Event → Both
run_both s [] = s
run_both s (event ∷ events) = run_both (both_happen s event) events

-- ---- a schedule with foreign lanes: those that a frame from outside names

abbrev pub is_lane : ℕ → Option ℕ → Bool
is_lane c (Some d) = c == d
is_lane c None = false

abbrev pub names_lane : ℕ → Event → Bool
names_lane c (Inject to_leader bytes) = is_lane c (lane_from_client (whole bytes))
names_lane c event = false

unfoldable pub foreign_in : List Event → ℕ → Bool
foreign_in [] c = false
foreign_in (event ∷ events) c = names_lane c event || foreign_in events c

abbrev pub both_opened : Settings → List ℕ → (ℕ → Bool) → Both
both_opened settings seed foreign = record {
  frames = opened settings seed;
  world = start settings.width settings.boxes settings.window foreign;
  acts = [];
  taken = [];
}

-- the history of a run
abbrev pub history_of : Settings → List ℕ → (ℕ → Bool) → Both → Book
history_of settings seed foreign s = record {
  settings = settings;
  seed = seed;
  foreign = foreign;
  sent = λ c. sent_of s.world c;
  commands = s.world.commands;
  entries = s.world.journal;
  brought = brought_by settings.width s.taken;
}

-- ---- what is known of what comes

-- tokens of foreign lanes, and bytes from outside
abbrev pub IsForeign : Book → Token → Type 0
IsForeign b (token.Injected to_leader lane) = Unit {0}
IsForeign b (token.Ordered n x) = b.foreign x.lane ≡ true
IsForeign b (token.Replied n x) = b.foreign x.lane ≡ true
IsForeign b t = ⊥

abbrev pub NamesForeign : (ℕ → Bool) → Option ℕ → Type 0
NamesForeign foreign (Some c) = foreign c ≡ true
NamesForeign foreign None = Unit {0}

-- bytes from outside are bytes, not too many, and of a foreign lane where they are a client's frame
pub record IsOutside (foreign : ℕ → Bool) (bytes : List ℕ) (lane : Option ℕ) : Type 0 where
  pub names : NamesForeign foreign lane
  pub bytes_are : All (λ n. n < 256) bytes
  pub few : length bytes < 2 ^ 32

abbrev pub OutsideAt : (ℕ → Bool) → Token → Letter → Type 0
OutsideAt foreign (token.Injected to_leader lane) l = IsOutside foreign l.bytes lane
OutsideAt foreign t l = Unit {0}

-- what a frame brings is the history's
abbrev pub IsTaken : Book → ℕ → ℕ → ℕ → PlainBody → Type 0
IsTaken b server c s (frame.Deposit (deposit.Register key)) = key ≡ b.brought.key server c s
IsTaken b server c s (frame.Deposit (deposit.Write root)) = root ≡ b.brought.root server c s
IsTaken b server c s (frame.Register address key) =
    (address ≡ b.brought.address c s) × (key ≡ b.brought.key server c s)
IsTaken b server c s (frame.Write root part) =
    (root ≡ b.brought.root server c s) × (part ≡ b.brought.part c s)
IsTaken b server c s (frame.Read number held) = number ≡ b.brought.number c s
IsTaken b server c s (frame.Retire number held) = number ≡ b.brought.number c s
IsTaken b server c s (frame.Proof share) = share ≡ b.brought.share server c s
IsTaken b server c s body = Unit {0}

abbrev pub AreTaken : Book → List Taken → Type 0
AreTaken b [] = Unit {0}
AreTaken b (t ∷ ts) = IsTaken b t.server t.frame.lane t.frame.serial t.frame.body × AreTaken b ts

-- a foreign token comes, with the act that the server takes: the relation is kept
abbrev pub ForeignComesFollow : Book → World → Type 0
ForeignComesFollow b v = (f : FrameWorld) (w : World) (t : Token) (i : ℕ) (l : Letter) → IsForeign b t
    → Known b v w → Known b v (tokens.comes (λ n. act_of f t l) w t) → slice_get w.pool i ≡ Some t
    → Follows b f w → Carries b t l → OutsideAt b.foreign t l → AreTaken b (taken_of f t l)
    → Follows b (frames.comes f l.to l.bytes) (tokens.comes (λ n. act_of f t l) w t)

-- ---- schedules

-- a client of no foreign lane is asked within the settings, bytes come from outside, or something moves
abbrev pub IsFitting : Settings → (ℕ → Bool) → Event → Type 0
IsFitting settings foreign (Ask c request) =
    (c < settings.lanes) × (foreign c ≡ false) × Fits settings.width request
IsFitting settings foreign (Inject to_leader bytes) = IsOutside foreign bytes (lane_from_client (whole bytes))
IsFitting settings foreign event = Unit {0}

abbrev pub AreFitting : Settings → (ℕ → Bool) → List Event → Type 0
AreFitting settings foreign [] = Unit {0}
AreFitting settings foreign (event ∷ events) =
    IsFitting settings foreign event × AreFitting settings foreign events

abbrev pub ended_of : Settings → List ℕ → (ℕ → Bool) → List Event → Both
ended_of settings seed foreign events = run_both (both_opened settings seed foreign) events

-- At the end of every schedule whose clients' lanes aren't foreign and whose bytes from outside name foreign
-- lanes, the run over bytes is the token run with content;
-- the token run's oracle and the history are read off both runs.
abbrev pub StrangersFollow : Type 0
StrangersFollow = (settings : Settings) (seed : List ℕ) (foreign : ℕ → Bool) (events : List Event)
    → KeepsLimits settings.width settings.boxes settings.lanes settings.window
    → AreFitting settings foreign events → length events ≤ 20000
    → let s = ended_of settings seed foreign events in
    Follows (history_of settings seed foreign s) (frame_run settings seed events)
    (token_run (oracle_of s.acts) settings foreign events)
