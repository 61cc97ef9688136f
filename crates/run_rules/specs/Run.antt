-- What a schedule does to bytes: each actor moves by its step, and what it writes goes into the pool.
use Rattle.std.specs.Prelude.{ℕ, ◌+◌, nat_lt, nat_eq, if◌then◌else◌, Bool, true, false, List, [], ◌∷◌, ◌++◌}
use Rattle.std.specs.Prelude.{length, drop, Option, Some, None, slice_get, Result, Ok, Err, is_none}
use Rattle.frame_rules.specs.Frames as frame
use Rattle.frame_rules.specs.Frames.{PlainFrame, PlainBody}
use Rattle.frame_rules.specs.Spelling.{spelling}
use Rattle.mailbox_rules.specs.Requests.{Request}
use Rattle.token_rules.specs.Tokens.{put}
use Rattle.token_rules.specs.Run.{own_of}
use Rattle.token_rules.specs.Driven.{Driven, finished_by}
use Rattle.frame_rules.specs.Whole.{linked, is_command}
use Rattle.step_rules.specs.Helper as helper
use Rattle.step_rules.specs.Helper.{ClientTurn, LinkTurn}
use Rattle.step_rules.specs.HelperClients.{on_client}
use Rattle.step_rules.specs.HelperCommands.{on_link_bytes}
use Rattle.step_rules.specs.Leader as leader
use Rattle.step_rules.specs.LeaderClients as submits
use Rattle.step_rules.specs.LeaderReplies as replies
use Rattle.step_rules.specs.Client as client
use Rattle.step_rules.specs.Client.{Client, Fault, Progress, Finished, Turn}
use Rattle.step_rules.specs.ClientAsks.{asked, sends, Sent}
use Rattle.step_rules.specs.ClientReplies.{on_reply}
use Rattle.step_tokens.specs.Commands.{command_of}
use Rattle.run_rules.specs.Letters.{Addressee, ToClient, ToLeader, ToHelper, ToLeaderLink, ToHelperLink}
use Rattle.run_rules.specs.Letters.{Letter, letter, Value, Registered, Began, Audited, Settled, WasRead}
use Rattle.run_rules.specs.Letters.{Retired, Refused, JournalLine, Told, Ended, NoOwnBox, FrameWorld}

abbrev pub posts : FrameWorld → List Letter → FrameWorld
posts w letters = record w { pool = w.pool ++ letters }

-- The helper

-- what a command came to, by the command and its reply
unfoldable pub value_of : PlainBody → PlainBody → Value
value_of command (frame.LinkReply (frame.ReplyRegistered n)) = Registered n
value_of command (frame.LinkBegun count draw) = Began count
value_of (frame.LinkAudit sigma leaders) (frame.LinkReply (frame.ReplyAudited helpers closing)) =
    Audited leaders helpers closing
value_of (frame.LinkSettle leaders) (frame.LinkReply frame.ReplyAccepted) = Settled true leaders
value_of (frame.LinkSettle leaders) (frame.LinkReply frame.ReplyRejected) = Settled false leaders
value_of (frame.LinkRead box) (frame.LinkReply (frame.ReplyMasked share)) = WasRead box
value_of (frame.LinkRetire box) (frame.LinkReply (frame.ReplyMasked share)) = Retired box
value_of command (frame.LinkReply (frame.ReplyRefused refusal)) = Refused (command_of command) refusal
value_of command reply = Began 0

abbrev pub journal_line : PlainFrame → PlainFrame → JournalLine
journal_line command reply =
    record { lane = command.lane; serial = command.serial; value = value_of command.body reply.body }

abbrev pub journal_lines : Option PlainFrame → PlainFrame → List JournalLine
journal_lines (Some command) reply = journal_line command reply ∷ []
journal_lines None reply = []

abbrev pub to_helper : FrameWorld → ClientTurn → FrameWorld
to_helper w turn =
    posts (record w { helper = turn.helper }) (letter (ToClient turn.reply.lane) (spelling turn.reply) ∷ [])

-- only a command that was carried out has its line in the journal
unfoldable pub helper_answers : FrameWorld → Option PlainFrame → helper.Answer → FrameWorld
helper_answers w command (helper.Carried reply) =
    posts (record w { journal = w.journal ++ journal_lines command reply })
    (letter ToLeaderLink (spelling reply) ∷ [])
helper_answers w command (helper.Repeated bytes) = posts w (letter ToLeaderLink bytes ∷ [])
helper_answers w command helper.Ignored = w

abbrev pub to_helper_link : FrameWorld → Option PlainFrame → LinkTurn → FrameWorld
to_helper_link w command turn = helper_answers (record w { helper = turn.helper }) command turn.answer

-- The leader

abbrev pub answer_letters : leader.Answer → List Letter
answer_letters (leader.Reply reply) = letter (ToClient reply.lane) (spelling reply) ∷ []
answer_letters (leader.Link number command) = letter ToHelperLink (spelling command) ∷ []
answer_letters (leader.StillWaiting number) = []

abbrev pub ack_letters : leader.Ack → List Letter
ack_letters (leader.ToLane lane reply) = letter (ToClient lane) (spelling reply) ∷ []
ack_letters (leader.Settles number command) = letter ToHelperLink (spelling command) ∷ []
ack_letters leader.Ignored = []

abbrev pub to_leader : FrameWorld → leader.Turn → FrameWorld
to_leader w turn = posts (record w { leader = turn.leader }) (answer_letters turn.answer)

abbrev pub to_leader_link : FrameWorld → leader.AckTurn → FrameWorld
to_leader_link w turn = posts (record w { leader = turn.leader }) (ack_letters turn.ack)

-- A client

abbrev pub with_client : FrameWorld → ℕ → Client → FrameWorld
with_client w c client = record w { clients = put w.clients c client }

abbrev pub waits : FrameWorld → ℕ → List Request → FrameWorld
waits w c requests = record w { waiting = put w.waiting c requests }

abbrev pub notes : FrameWorld → ℕ → Told → FrameWorld
notes w c told = record w {
  told = put w.told c (w.told c + 1);
  outcomes = w.outcomes ++ record { client = c; request = w.told c; told = told } ∷ [];
}

-- a client was asked: it takes the request, or refuses a read of a box that it never got and goes on
unfoldable pub was_asked : FrameWorld → ℕ → List Request → FrameWorld → Result Client Fault → FrameWorld
was_asked w c rest next (Ok client) = waits (with_client w c client) c rest
was_asked w c rest next (Err (client.NoBox own)) = next
was_asked w c rest next (Err fault) = waits w c rest

-- a client with no current request takes the first that it need not refuse
unfoldable pub goes_on : FrameWorld → ℕ → List Request → FrameWorld
goes_on w c [] = waits w c []
goes_on w c (request ∷ rest) =
    was_asked w c rest (goes_on (notes w c (NoOwnBox (own_of request))) c rest) (asked (w.clients c) request)

unfoldable pub goes_on_after : FrameWorld → ℕ → Progress → FrameWorld
goes_on_after w c (Finished outcome) = goes_on (notes w c (Ended outcome)) c (w.waiting c)
goes_on_after w c progress = w

abbrev pub to_client : FrameWorld → ℕ → Turn → FrameWorld
to_client w c turn = goes_on_after (with_client w c turn.client) c turn.progress

-- A frame comes to its addressee.
unfoldable pub comes : FrameWorld → Addressee → List ℕ → FrameWorld
comes w (ToClient c) bytes = to_client w c (on_reply (w.clients c) bytes)
comes w ToLeader bytes = to_leader w (submits.on_client w.leader bytes)
comes w ToHelper bytes = to_helper w (on_client w.helper bytes)
comes w ToLeaderLink bytes = to_leader_link w (replies.on_reply_bytes w.leader bytes)
comes w ToHelperLink bytes =
    to_helper_link w (linked is_command w.helper.server.settings.width bytes) (on_link_bytes w.helper bytes)

-- Events

pub data Event : Type 0 where
  Ask : (client : ℕ) → (request : Request) → Event
  Send : (client : ℕ) → Event
  Tick : Event
  Deliver : (number : ℕ) → Event
  Show : (number : ℕ) → Event
  Finish : (client : ℕ) → Event
  Inject : (to_leader : Bool) → (bytes : List ℕ) → Event

abbrev pub asks : FrameWorld → ℕ → Request → FrameWorld
asks w c request =
    if is_none (w.clients c).current
    then goes_on w c (w.waiting c ++ request ∷ [])
    else waits w c (w.waiting c ++ request ∷ [])

-- the leader is server 0, the helper 1
abbrev pub server : ℕ → Addressee
server n = if nat_eq n 0 then ToLeader else ToHelper

abbrev pub sent_letters : Option Sent → List Letter
sent_letters (Some sent) = letter (server sent.server) (spelling sent.frame) ∷ []
sent_letters None = []

unfoldable pub client_sends : FrameWorld → ℕ → FrameWorld
client_sends w c = posts w (sent_letters (sends (w.clients c)))

abbrev pub command_letters : Option PlainFrame → List Letter
command_letters (Some command) = letter ToHelperLink (spelling command) ∷ []
command_letters None = []

unfoldable pub ticks : FrameWorld → FrameWorld
ticks w = posts w (command_letters (replies.resent w.leader))

unfoldable pub delivers : FrameWorld → Option Letter → FrameWorld
delivers w (Some l) = comes w l.to l.bytes
delivers w None = w

unfoldable pub delivers_at : FrameWorld → ℕ → FrameWorld
delivers_at w number = delivers w (slice_get w.pool number)

unfoldable pub shows : FrameWorld → ℕ → Option Letter → FrameWorld
shows w number (Some l) = record w { shown = w.shown ++ record { number = number; bytes = l.bytes } ∷ [] }
shows w number None = w

abbrev pub is_for : ℕ → Addressee → Bool
is_for c (ToClient d) = nat_eq d c
is_for c to = false

-- the last frame for a client
unfoldable pub last_for : ℕ → Option Letter → List Letter → Option Letter
last_for c found [] = found
last_for c found (l ∷ letters) = last_for c (if is_for c l.to then Some l else found) letters

-- the moves that a `finish` is made of
abbrev pub frame_moves : Driven FrameWorld
frame_moves = record {
  size = λ w. length w.pool;
  is_busy = λ w. nat_lt 0 (length w.leader.outstanding);
  outstanding = λ w. length w.leader.outstanding;
  is_idle = λ w c. is_none (w.clients c).current;
  waiting = λ w c. length (w.waiting c);
  delivers = λ w n. delivers_at w n;
  sends = λ w c. client_sends w c;
  ticks = λ w. ticks w;
  hands_last = λ w c before. delivers w (last_for c None (drop before w.pool));
}

unfoldable pub happens : FrameWorld → Event → FrameWorld
happens w (Ask c request) = asks w c request
happens w (Send c) = client_sends w c
happens w Tick = ticks w
happens w (Deliver number) = delivers_at w number
happens w (Show number) = shows w number (slice_get w.pool number)
happens w (Finish c) = finished_by frame_moves w c
happens w (Inject true bytes) = posts w (letter ToLeader bytes ∷ [])
happens w (Inject false bytes) = posts w (letter ToHelper bytes ∷ [])

unfoldable pub run : FrameWorld → List Event → FrameWorld
run w [] = w
run w (event ∷ events) = run (happens w event) events
