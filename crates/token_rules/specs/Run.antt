-- What a schedule does to bare tokens: how each token comes to its addressee, and the events.
use Rattle.std.specs.Prelude.{ℕ, zero, suc, ◌+◌, ◌-◌, ◌*◌, nat_lt, nat_le, nat_eq, ◌&&◌, if◌then◌else◌, Bool}
use Rattle.std.specs.Prelude.{true, false, List, [], ◌∷◌, ◌++◌, length, drop, Option, Some, None, slice_get}
use Rattle.mailbox_rules.specs.Requests.{Request, Read, Retire, Command, Audits, Settles, opening_of, Line}
use Rattle.mailbox_rules.specs.Requests.{entry, Operation, operation_of, request_at}
use Rattle.mailbox_rules.specs.Tables.{after_line, no_writes}
use Rattle.token_rules.specs.Tokens.{Token, Deposit, Submission, ProofToHelper, ProofToLeader, Ordered}
use Rattle.token_rules.specs.Tokens.{Replied, HeldDeposit, HeldProof, Challenge, Answer, Later, Injected}
use Rattle.token_rules.specs.Tokens.{Foreign, Phase, Challenged, Done, Row, Lane, Told, Answered, NoOwnBox}
use Rattle.token_rules.specs.Tokens.{World, Act, Oracle, put}
use Rattle.token_rules.specs.Rows.{HelperSays, HelperNothing, HelperLater, HelperHeldDeposit, HelperHeldProof}
use Rattle.token_rules.specs.Rows.{HelperStep, deposit_step, helper_proof_step, carried_row, Arrival, Next}
use Rattle.token_rules.specs.Rows.{Kept, Passed, arrival_of, LeaderSays, LeaderNothing, LeaderLater}
use Rattle.token_rules.specs.Rows.{LeaderKept, LeaderIssues, LeaderStep, submission_step, leader_proof_step}
use Rattle.token_rules.specs.Rows.{reply_step, ClientHears, HeardHeldDeposit, HeardChallenge, HeardHeldProof}
use Rattle.token_rules.specs.Rows.{HeardAnswer, ClientDoes, Stays, GoesOn, Finishes, client_does}

abbrev pub with_lane : World → ℕ → Lane → World
with_lane w c lane = record w { lanes = put w.lanes c lane }

abbrev pub with_leader : World → ℕ → Row → World
with_leader w c r = with_lane w c (record (w.lanes c) { leader = r })

abbrev pub with_helper : World → ℕ → Row → World
with_helper w c r = with_lane w c (record (w.lanes c) { helper = r })

abbrev pub sends_all : World → List Token → World
sends_all w tokens = record w { pool = w.pool ++ tokens }

abbrev pub sends : World → Token → World
sends w token = sends_all w (token ∷ [])

abbrev pub line_of : ℕ → ℕ → Command → Line
line_of c serial command = record { lane = c; serial = serial; command = command }

-- what a server says to a foreign frame
abbrev pub foreign_tokens : Option ℕ → List Token
foreign_tokens None = []
foreign_tokens (Some c) = Foreign c ∷ []

-- a server acts on a foreign token
abbrev pub acted : World → World
acted w = record w { moment = w.moment + 1 }

-- The helper

abbrev pub helper_tokens : ℕ → ℕ → HelperSays → List Token
helper_tokens c serial HelperNothing = []
helper_tokens c serial HelperLater = Later c serial ∷ []
helper_tokens c serial HelperHeldDeposit = HeldDeposit c serial ∷ []
helper_tokens c serial HelperHeldProof = HeldProof c serial ∷ []

abbrev pub at_helper : World → ℕ → ℕ → HelperStep → World
at_helper w c serial step = sends_all (with_helper w c step.row) (helper_tokens c serial step.says)

-- the helper carries out the next command
abbrev pub carries : World → Line → Row → Operation → World
carries w line r does = record w {
  lanes = put w.lanes line.lane (record (w.lanes line.lane) { helper = r });
  carried = w.carried + 1;
  journal = w.journal ++ entry line does ∷ [];
  table = after_line w.limit w.width no_writes w.table line does;
  pool = w.pool ++ Replied (w.carried + 1) line ∷ [];
}

-- the requests that each client sent
abbrev pub sent_of : World → ℕ → List Request
sent_of w c = (w.requests c).sent

-- what a client's command does, by its request and the boxes that the client got so far
abbrev pub asked_operation : World → Line → Operation
asked_operation w line =
    operation_of (w.table.got line.lane) line.command (request_at (sent_of w) line.lane line.serial)

unfoldable pub carries_next : Oracle → World → Line → World
carries_next o w line =
    if w.foreign line.lane
    then carries (acted w) line (o w.moment).row (o w.moment).does
    else carries w line (carried_row line) (asked_operation w line)

unfoldable pub command_comes : Oracle → World → ℕ → Line → Arrival → World
command_comes o w number line Next = carries_next o w line
command_comes o w number line Kept = sends w (Replied number line)
command_comes o w number line Passed = w

-- The leader

-- as many commands are outstanding as the window
abbrev pub is_full : World → Bool
is_full w = nat_le (w.acknowledged + w.window) (length w.commands)

-- the reply that the leader keeps in a row
abbrev pub kept : ℕ → ℕ → Phase → List Token
kept c serial Challenged = Challenge c serial ∷ []
kept c serial Done = Answer c serial ∷ []
kept c serial phase = []

-- the leader issues the next command
abbrev pub issues : World → Line → World
issues w line = record w {
  commands = w.commands ++ line ∷ [];
  pool = w.pool ++ Ordered (length w.commands + 1) line ∷ [];
}

unfoldable pub leader_says : World → ℕ → ℕ → Phase → LeaderSays → World
leader_says w c serial phase LeaderNothing = w
leader_says w c serial phase LeaderLater = sends w (Later c serial)
leader_says w c serial phase LeaderKept = sends_all w (kept c serial phase)
leader_says w c serial phase (LeaderIssues command) = issues w (line_of c serial command)

abbrev pub at_leader : World → ℕ → ℕ → LeaderStep → World
at_leader w c serial step = leader_says (with_leader w c step.row) c serial step.row.phase step.says

abbrev pub acknowledges : World → World
acknowledges w = record w { acknowledged = w.acknowledged + 1 }

-- only an audit's reply has a settle issued
abbrev pub has_settle : Command → Bool → Bool
has_settle Audits settles = settles
has_settle command settles = false

-- the leader takes a reply to a foreign command: a settle is issued, or the lane is answered
unfoldable pub foreign_acks : World → Line → Row → Bool → World
foreign_acks w line r settles =
    if settles
    then issues (with_leader (acknowledges w) line.lane r) (line_of line.lane line.serial Settles)
    else sends (with_leader (acknowledges w) line.lane r) (Foreign line.lane)

abbrev pub misfitted : World → World
misfitted w = record w { misfits = w.misfits + 1 }

unfoldable pub foreign_reply_comes : World → Line → Act → World
foreign_reply_comes w line act =
    if act.fits then foreign_acks w line act.row (has_settle line.command act.settles) else misfitted w

unfoldable pub reply_applied : Oracle → World → Line → World
reply_applied o w line =
    if w.foreign line.lane
    then foreign_reply_comes (acted w) line (o w.moment)
    else at_leader (acknowledges w) line.lane line.serial (reply_step line.serial line.command)

-- the leader applies the reply to its oldest outstanding command alone
unfoldable pub reply_comes : Oracle → World → ℕ → Line → World
reply_comes o w number line =
    if nat_eq number (w.acknowledged + 1) && nat_lt w.acknowledged (length w.commands)
    then reply_applied o w line
    else w

-- Bytes from outside. Those that aren't exactly one frame are refused, and that refusal names lane 0.

-- a foreign frame at the leader has a command issued, or is answered alone
unfoldable pub foreign_at_leader : World → ℕ → Row → Option ℕ → Option Command → World
foreign_at_leader w c r says (Some command) = issues (with_leader w c r) (line_of c r.serial command)
foreign_at_leader w c r says None = sends_all w (foreign_tokens says)

unfoldable pub foreign_frame_comes : World → Bool → ℕ → Act → World
foreign_frame_comes w false c act = sends_all (with_helper w c act.row) (foreign_tokens act.says)
foreign_frame_comes w true c act =
    if is_full w
    then sends_all w (foreign_tokens act.says)
    else foreign_at_leader w c act.row act.says act.issues

unfoldable pub injected_comes : Oracle → World → Bool → Option ℕ → World
injected_comes o w to_leader None = sends w (Foreign 0)
injected_comes o w to_leader (Some c) =
    if w.foreign c then foreign_frame_comes (acted w) to_leader c (o w.moment) else w

-- A client

-- an outcome, after which the client has no current request
abbrev pub notes : World → ℕ → Told → World
notes w c told = record w {
  lanes = put w.lanes c (record (w.lanes c) { step = 0 });
  requests = put w.requests c (record (w.requests c) { told = (w.requests c).told + 1 });
  outcomes = w.outcomes ++ record { client = c; request = (w.requests c).told; told = told } ∷ [];
}

-- a read or retire of a box that the client never got is refused at once
unfoldable pub is_refused : World → ℕ → Request → Bool
is_refused w c (Read own) = nat_le (length (w.table.got c)) own
is_refused w c (Retire own) = nat_le (length (w.table.got c)) own
is_refused w c request = false

abbrev pub own_of : Request → ℕ
own_of (Read own) = own
own_of (Retire own) = own
own_of request = 0

-- the client's next request is its current one
abbrev pub takes : World → ℕ → Request → List Request → World
takes w c request rest = record w {
  lanes = put w.lanes c (record (w.lanes c) {
    step = 1;
    serial = (w.lanes c).serial + 1;
    opening = opening_of request;
  });
  requests = put w.requests c (record (w.requests c) {
    sent = (w.requests c).sent ++ request ∷ [];
    waiting = rest;
  });
}

abbrev pub waits : World → ℕ → List Request → World
waits w c waiting = record w { requests = put w.requests c (record (w.requests c) { waiting = waiting }) }

-- a client with no current request goes on to the first that it need not refuse
unfoldable pub goes_on : World → ℕ → List Request → World
goes_on w c [] = waits w c []
goes_on w c (request ∷ rest) =
    if is_refused w c request
    then goes_on (notes w c (NoOwnBox (own_of request))) c rest
    else takes w c request rest

unfoldable pub client_moves : World → ℕ → ℕ → ClientDoes → World
client_moves w c serial Stays = w
client_moves w c serial GoesOn = with_lane w c (record (w.lanes c) { step = (w.lanes c).step + 1 })
client_moves w c serial Finishes =
    goes_on (notes w c (Answered serial (w.lanes c).opening)) c (w.requests c).waiting

-- only what has the current serial counts
unfoldable pub client_hears : World → ℕ → ℕ → ClientHears → World
client_hears w c serial heard =
    if nat_eq serial (w.lanes c).serial
    then client_moves w c serial (client_does heard (w.lanes c).step)
    else w

-- A token comes to its addressee.
unfoldable pub comes : Oracle → World → Token → World
comes o w (Deposit c serial) = at_helper w c serial (deposit_step serial (w.lanes c).helper)
comes o w (ProofToHelper c serial) = at_helper w c serial (helper_proof_step serial (w.lanes c).helper)
comes o w (Ordered number line) = command_comes o w number line (arrival_of w.window w.carried number)
comes o w (Submission c serial command) =
    at_leader w c serial (submission_step (is_full w) serial command (w.lanes c).leader)
comes o w (ProofToLeader c serial) =
    at_leader w c serial (leader_proof_step (is_full w) serial (w.lanes c).leader)
comes o w (Replied number line) = reply_comes o w number line
comes o w (HeldDeposit c serial) = client_hears w c serial HeardHeldDeposit
comes o w (Challenge c serial) = client_hears w c serial HeardChallenge
comes o w (HeldProof c serial) = client_hears w c serial HeardHeldProof
comes o w (Answer c serial) = client_hears w c serial HeardAnswer
comes o w (Later c serial) = w
comes o w (Injected to_leader lane) = injected_comes o w to_leader lane
comes o w (Foreign c) = w

-- Events

-- A client is asked, its present frame is sent, the leader's oldest outstanding command is sent once more,
-- token N is delivered, a client's requests are all finished, bytes come from outside.
pub data Event : Type 0 where
  Ask : (client : ℕ) → (request : Request) → Event
  Send : (client : ℕ) → Event
  Tick : Event
  Deliver : (number : ℕ) → Event
  Finish : (client : ℕ) → Event
  Inject : (to_leader : Bool) → (lane : Option ℕ) → Event

unfoldable pub delivers : Oracle → World → Option Token → World
delivers o w (Some token) = comes o w token
delivers o w None = w

unfoldable pub delivers_at : Oracle → World → ℕ → World
delivers_at o w number = delivers o w (slice_get w.pool number)

unfoldable pub asks : World → ℕ → Request → World
asks w c request =
    if nat_eq (w.lanes c).step 0
    then goes_on w c ((w.requests c).waiting ++ request ∷ [])
    else waits w c ((w.requests c).waiting ++ request ∷ [])

-- a client's present frame
unfoldable pub frame_of : ℕ → ℕ → ℕ → Command → List Token
frame_of zero c serial command = []
frame_of (suc zero) c serial command = Deposit c serial ∷ []
frame_of (suc (suc zero)) c serial command = Submission c serial command ∷ []
frame_of (suc (suc (suc zero))) c serial command = ProofToHelper c serial ∷ []
frame_of (suc (suc (suc (suc step)))) c serial command = ProofToLeader c serial ∷ []

unfoldable pub client_sends : World → ℕ → World
client_sends w c =
    if w.foreign c
    then w
    else sends_all w (frame_of (w.lanes c).step c (w.lanes c).serial (w.lanes c).opening)

unfoldable pub resends : World → Option Line → World
resends w (Some line) = sends w (Ordered (w.acknowledged + 1) line)
resends w None = w

unfoldable pub ticks : World → World
ticks w = resends w (slice_get w.commands w.acknowledged)

-- the oldest command goes to the helper once more, and the helper's reply to the leader
unfoldable pub drain_round : Oracle → World → World
drain_round o w = delivers_at o (delivers_at o (ticks w) (length w.pool)) (length w.pool + 1)

unfoldable pub drains : Oracle → ℕ → World → World
drains o zero w = w
drains o (suc rounds) w =
    if nat_lt w.acknowledged (length w.commands) then drains o rounds (drain_round o w) else w

-- Until no command is outstanding: an audit takes two rounds, with the settle that it has issued, any other
-- command one.
unfoldable pub drained : Oracle → World → World
drained o w = drains o (2 * (length w.commands - w.acknowledged)) w

unfoldable pub is_for : ℕ → Token → Bool
is_for c (HeldDeposit d serial) = nat_eq d c
is_for c (HeldProof d serial) = nat_eq d c
is_for c (Challenge d serial) = nat_eq d c
is_for c (Answer d serial) = nat_eq d c
is_for c (Later d serial) = nat_eq d c
is_for c (Foreign d) = nat_eq d c
is_for c token = false

-- the last token for a client
unfoldable pub last_for : ℕ → Option Token → List Token → Option Token
last_for c found [] = found
last_for c found (token ∷ tokens) = last_for c (if is_for c token then Some token else found) tokens

unfoldable pub sent_and_drained : Oracle → World → ℕ → World
sent_and_drained o w c = drained o (delivers_at o (client_sends w c) (length w.pool))

unfoldable pub handed_last : Oracle → World → ℕ → ℕ → World
handed_last o w c before = delivers o w (last_for c None (drop before w.pool))

-- drain, send the client's frame and deliver it, drain, deliver to the client the last token for it since
unfoldable pub finish_round : Oracle → World → ℕ → World
finish_round o w c = handed_last o (sent_and_drained o (drained o w) c) c (length (drained o w).pool)

unfoldable pub finishes : Oracle → ℕ → World → ℕ → World
finishes o zero w c = w
finishes o (suc rounds) w c =
    if nat_eq (w.lanes c).step 0 then w else finishes o rounds (finish_round o w c) c

-- Until the client has no current request and none waits: a request takes at most four rounds.
unfoldable pub finished : Oracle → World → ℕ → World
finished o w c = finishes o (4 * (length (w.requests c).waiting + 1)) w c

unfoldable pub happens : Oracle → World → Event → World
happens o w (Ask c request) = if w.foreign c then w else asks w c request
happens o w (Send c) = client_sends w c
happens o w Tick = ticks w
happens o w (Deliver number) = delivers_at o w number
happens o w (Finish c) = finished o w c
happens o w (Inject to_leader lane) = sends w (Injected to_leader lane)

unfoldable pub run : Oracle → World → List Event → World
run o w [] = w
run o w (event ∷ events) = run o (happens o w event) events
