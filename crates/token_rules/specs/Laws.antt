-- What holds at the end of every schedule, for the lanes that aren't foreign.
use Rattle.std.specs.Prelude.{◌≡◌, ℕ, zero, suc, Bool, false, nat_eq, if◌then◌else◌, ◌∷◌, ◌++◌, ◌+◌, ◌-◌, ◌<◌}
use Rattle.std.specs.Prelude.{◌≤◌, ◌⊎◌, ◌↔◌, List, [], length, Some, slice_get, take, map, filter}
use Rattle.mailbox_rules.specs.Requests.{Request, Register, Read, Retire, Command, Begins, Audits, Settles}
use Rattle.mailbox_rules.specs.Requests.{Line, Entry, entry, lines_of, Operation, ReadBox, RetireBox, Refuse}
use Rattle.mailbox_rules.specs.Requests.{opening_of, opens_with, operation_of, request_at}
use Rattle.mailbox_rules.specs.Tables.{Mailbox, Table, Writes, NoBox, after_line, result_of, table_after}
use Rattle.mailbox_rules.specs.Tables.{no_writes}
use Rattle.mailbox_rules.specs.Laws.{Did}
use Rattle.token_rules.specs.Tokens.{World, Act, HasActs, Oracle, oracle_of, Token, Deposit, Submission}
use Rattle.token_rules.specs.Tokens.{ProofToHelper, ProofToLeader, Ordered, Replied, Row, Phase, Begun}
use Rattle.token_rules.specs.Tokens.{Deposited, Proved, Audited, Done, Waiting, Challenged, Auditing, Lane}
use Rattle.token_rules.specs.Tokens.{Told, Answered, NoOwnBox, Outcome, start}
use Rattle.token_rules.specs.Rows.{Kept, arrival_of}
use Rattle.token_rules.specs.Run.{sent_of, line_of, Event, Ask, Finish, run, happens, finished}
use Rattle.token_rules.specs.Driven.{finished_by, token_moves}

-- at the end of every schedule, whatever the settings and whatever foreign frames do
abbrev pub Always : (World → Type 0) → Type 0
Always P = (o : Oracle) (width limit window : ℕ) (foreign : ℕ → Bool) (events : List Event) → 0 < window
    → P (run o (start width limit window foreign) events)

-- j ≤ k ≤ n ≤ j + window
pub record InNumbers (w : World) : Type 0 where
  pub acknowledged : w.acknowledged ≤ w.carried
  pub carried : w.carried ≤ length w.commands
  pub window : length w.commands ≤ w.acknowledged + w.window

-- the helper keeps its reply to each command that is carried out and not yet acknowledged
abbrev pub KeepsReplies : World → Type 0
KeepsReplies w = (number : ℕ) → w.acknowledged < number → number ≤ w.carried
    → arrival_of w.window w.carried number ≡ Kept

-- two tokens of one link number that one server sent to the other are one
pub record LinkIsOne (w : World) : Type 0 where
  pub ordered : (i k n : ℕ) (x y : Line) → slice_get w.pool i ≡ Some (Ordered n x)
      → slice_get w.pool k ≡ Some (Ordered n y) → x ≡ y
  pub replied : (i k n : ℕ) (x y : Line) → slice_get w.pool i ≡ Some (Replied n x)
      → slice_get w.pool k ≡ Some (Replied n y) → x ≡ y

-- the journal is the commands that were carried out, in the order of their numbers
abbrev pub IsPrefix : World → Type 0
IsPrefix w = lines_of w.journal ≡ take w.carried w.commands

-- an outstanding command of that lane
pub record Outstanding (w : World) (c : ℕ) : Type 0 where
  pub place : ℕ
  pub line : Line
  pub is : slice_get w.commands place ≡ Some line
  pub lane : line.lane ≡ c
  pub out : w.acknowledged ≤ place

abbrev pub IsBusy : Phase → Type 0
IsBusy Waiting = Unit {0}
IsBusy Auditing = Unit {0}
IsBusy phase = ⊥

-- A lane's row at the leader waits or audits exactly where a command of that lane and serial is outstanding,
-- and then it is the only one of that lane.
pub record RowTells (w : World) (c : ℕ) : Type 0 where
  pub tells : IsBusy (w.lanes c).leader.phase
      ↔ ((x : Outstanding w c) × (x.line.serial ≡ (w.lanes c).leader.serial))
  pub alone : (x y : Outstanding w c) → x.place ≡ y.place

abbrev pub RowsTell : World → Type 0
RowsTell w = (c : ℕ) → w.foreign c ≡ false → RowTells w c

-- the place of a command in its request
abbrev pub turn : Command → ℕ
turn Audits = 1
turn Settles = 2
turn command = 0

-- Of two lines of one lane the later has a greater serial, or is a later command of the same request.
abbrev pub InOrder : World → Type 0
InOrder w = (i k : ℕ) (x y : Line) → i < k → slice_get (lines_of w.journal) i ≡ Some x
    → slice_get (lines_of w.journal) k ≡ Some y → x.lane ≡ y.lane → w.foreign x.lane ≡ false
    → (x.serial < y.serial) ⊎ ((x.serial ≡ y.serial) × (turn x.command < turn y.command))

-- So there is at most one line of each kind for a lane and serial.
abbrev pub Once : World → Type 0
Once w = (i k : ℕ) (x : Line) → slice_get (lines_of w.journal) i ≡ Some x
    → slice_get (lines_of w.journal) k ≡ Some x → w.foreign x.lane ≡ false → i ≡ k

abbrev pub HasLine : List Line → Line → Type 0
HasLine lines line = (i : ℕ) × (slice_get lines i ≡ Some line)

-- the lines of a whole request, by the command that opens it
abbrev pub HasLines : List Line → ℕ → ℕ → Command → Type 0
HasLines lines c serial Begins =
    HasLine lines (line_of c serial Begins)
    × HasLine lines (line_of c serial Audits)
    × HasLine lines (line_of c serial Settles)
HasLines lines c serial command = HasLine lines (line_of c serial command)

abbrev pub IsJournaled : List Line → ℕ → Told → Type 0
IsJournaled lines c (Answered serial opening) = HasLines lines c serial opening
IsJournaled lines c (NoOwnBox own) = Unit {0}

-- each outcome of a request that was sent has its lines
abbrev pub OutcomesStand : World → Type 0
OutcomesStand w = (i : ℕ) (outcome : Outcome) → slice_get w.outcomes i ≡ Some outcome
    → IsJournaled (lines_of w.journal) outcome.client outcome.told

-- the outcomes of one client
abbrev pub outcomes_of : ℕ → List Outcome → List Outcome
outcomes_of c outcomes = filter (λ outcome. nat_eq outcome.client c) outcomes

-- A client's outcomes are those of its requests 0, 1, 2 and so on, in the order in which they were asked.
pub record AreNumbered (w : World) (c : ℕ) : Type 0 where
  pub count : length (outcomes_of c w.outcomes) ≡ (w.requests c).told
  pub numbers : (i : ℕ) (outcome : Outcome) → slice_get (outcomes_of c w.outcomes) i ≡ Some outcome
      → outcome.request ≡ i

abbrev pub OutcomesNumbered : World → Type 0
OutcomesNumbered w = (c : ℕ) → AreNumbered w c

-- how the helper's row stands when a command comes that it is to carry out
abbrev pub awaits : Command → Phase
awaits Audits = Proved
awaits Settles = Audited
awaits command = Deposited

pub record IsRow (r : Row) (s : ℕ) (x : Phase) : Type 0 where
  pub serial : r.serial ≡ s
  pub phase : r.phase ≡ x

-- The helper's row is ready for each command that it is still to carry out: so it refuses none.
abbrev pub IsReady : World → Type 0
IsReady w = (i : ℕ) (x : Line) → w.carried ≤ i → slice_get w.commands i ≡ Some x → w.foreign x.lane ≡ false
    → IsRow (w.lanes x.lane).helper x.serial (awaits x.command)

-- the phases at which a server takes a proof or answers it again
abbrev pub HelperTakesProof : Phase → Type 0
HelperTakesProof Begun = Unit {0}
HelperTakesProof Proved = Unit {0}
HelperTakesProof Audited = Unit {0}
HelperTakesProof Done = Unit {0}
HelperTakesProof phase = ⊥

abbrev pub LeaderTakesProof : Phase → Type 0
LeaderTakesProof Challenged = Unit {0}
LeaderTakesProof Auditing = Unit {0}
LeaderTakesProof Done = Unit {0}
LeaderTakesProof phase = ⊥

-- a frame of the lane's current request finds its row neither ahead of it nor out of phase
abbrev pub IsHeeded : Lane → Token → Type 0
IsHeeded lane (Deposit c serial) = lane.helper.serial ≤ serial
IsHeeded lane (Submission c serial command) =
    (lane.leader.serial ≤ serial)
    × (lane.leader.serial < serial → IsBusy lane.leader.phase → ⊥)
    × (command ≡ lane.opening)
IsHeeded lane (ProofToHelper c serial) = (lane.helper.serial ≡ serial) × HelperTakesProof lane.helper.phase
IsHeeded lane (ProofToLeader c serial) = (lane.leader.serial ≡ serial) × LeaderTakesProof lane.leader.phase
IsHeeded lane token = Unit {0}

-- a frame that the client sent for its request of that serial
abbrev pub IsFrame : ℕ → ℕ → Token → Type 0
IsFrame c s (Deposit d serial) = (d ≡ c) × (serial ≡ s)
IsFrame c s (Submission d serial command) = (d ≡ c) × (serial ≡ s)
IsFrame c s (ProofToHelper d serial) = (d ≡ c) × (serial ≡ s)
IsFrame c s (ProofToLeader d serial) = (d ≡ c) × (serial ≡ s)
IsFrame c s token = ⊥

-- While a request is its client's current one, each frame of it in the pool is heeded whenever it comes.
abbrev pub FramesAreHeeded : World → Type 0
FramesAreHeeded w = (c i : ℕ) (token : Token) → w.foreign c ≡ false → 0 < (w.lanes c).step
    → slice_get w.pool i ≡ Some token → IsFrame c (w.lanes c).serial token → IsHeeded (w.lanes c) token

-- a client's command opens or continues the request of its serial
pub record IsSent (w : World) (x : Line) : Type 0 where
  pub request : Request
  pub numbered : 0 < x.serial
  pub is : request_at (sent_of w) x.lane x.serial ≡ Some request
  pub opens : opens_with x.command ≡ opening_of request

-- a client's serial is the number of its requests that were sent, and each command is for one of them
pub record AreSent (w : World) : Type 0 where
  pub serials : (c : ℕ) → w.foreign c ≡ false → (w.lanes c).serial ≡ length (sent_of w c)
  pub lines : (i : ℕ) (x : Line) → slice_get w.commands i ≡ Some x → w.foreign x.lane ≡ false → IsSent w x

-- the table after the first i entries of the journal
abbrev pub table_at : World → ℕ → Table
table_at w i = table_after w.limit w.width no_writes (take i w.journal)

-- What a client's entry did is what its request asked. A read's box is the one that its client had got by
-- that number, and no entry is a refusal.
pub record IsAsked (w : World) (i : ℕ) (e : Entry) : Type 0 where
  pub sent : IsSent w e.line
  pub does : e.does ≡ operation_of ((table_at w i).got e.line.lane) e.line.command (Some sent.request)
  pub done : e.does ≡ Refuse → ⊥

abbrev pub OperationsAreAsked : World → Type 0
OperationsAreAsked w = (i : ℕ) (e : Entry) → slice_get w.journal i ≡ Some e → w.foreign e.line.lane ≡ false
    → IsAsked w i e

-- the run's table is that of its journal
abbrev pub TableIsJournals : World → Type 0
TableIsJournals w = w.table ≡ table_after w.limit w.width no_writes w.journal

-- Each command that was carried out has its entry, and the table after the entries so far becomes the next by
-- it. So the leader's table, that of the commands that it acknowledged, is the table after as many entries.
pub record Follows (w : World) (i : ℕ) (x : Line) : Type 0 where
  pub does : Operation
  pub is : slice_get w.journal i ≡ Some (entry x does)
  pub table : table_at w (suc i) ≡ after_line w.limit w.width no_writes (table_at w i) x does

abbrev pub TablesFollow : World → Type 0
TablesFollow w = (i : ℕ) (x : Line) → i < w.carried → slice_get w.commands i ≡ Some x → Follows w i x

-- each box of a client was registered by its request
abbrev pub BoxesAreAsked : World → Type 0
BoxesAreAsked w = (n : ℕ) (box : Mailbox) → slice_get w.table.boxes n ≡ Some box → w.foreign box.lane ≡ false
    → request_at (sent_of w) box.lane box.serial ≡ Some (Register box.address)

-- While no command of a client is outstanding, all boxes that it got stand in the leader's table.
abbrev pub LeaderKnows : World → Type 0
LeaderKnows w = (c : ℕ) → w.foreign c ≡ false → (IsBusy (w.lanes c).leader.phase → ⊥)
    → (table_at w w.acknowledged).got c ≡ w.table.got c

-- where a client's read finds no box, that box was retired by an entry before
abbrev pub ReadsFind : World → Type 0
ReadsFind w = (writes : Writes) (i n : ℕ) (e : Entry) → slice_get w.journal i ≡ Some e
    → w.foreign e.line.lane ≡ false → (e.does ≡ ReadBox n) ⊎ (e.does ≡ RetireBox n)
    → result_of w.limit writes (table_after w.limit w.width writes (take i w.journal)) e.line e.does ≡ NoBox n
    → Did (take i w.journal) (RetireBox n)

-- the last command of a request, by the one that opens it
abbrev pub last_of : Command → Command
last_of Begins = Settles
last_of command = command

-- the last line of a request
pub record LastLine (lines : List Line) (c serial : ℕ) (opening : Command) : Type 0 where
  pub place : ℕ
  pub is : slice_get lines place ≡ Some (line_of c serial (last_of opening))
  pub last : (k : ℕ) (x : Line) → slice_get lines k ≡ Some x → x.lane ≡ c → x.serial ≡ serial → k ≤ place

-- an outcome comes after the last line of its request, whose result it tells
abbrev pub OutcomesAreLast : World → Type 0
OutcomesAreLast w = (i c n serial : ℕ) (opening : Command)
    → slice_get w.outcomes i ≡ Some (record { client = c; request = n; told = Answered serial opening })
    → LastLine (lines_of w.journal) c serial opening

-- no outcome is a foreign lane's
abbrev pub OutcomesAreClients : World → Type 0
OutcomesAreClients w = (i : ℕ) (outcome : Outcome) → slice_get w.outcomes i ≡ Some outcome
    → w.foreign outcome.client ≡ false

-- the requests of a client that a schedule asks
abbrev pub asked : ℕ → Event → ℕ
asked c (Ask d request) = if nat_eq c d then 1 else 0
asked c event = 0

unfoldable pub asks_of : ℕ → List Event → ℕ
asks_of c [] = 0
asks_of c (event ∷ events) = asked c event + asks_of c events

-- a client with no request, each of whose requests has its outcome
pub record Rests (events : List Event) (w : World) (c : ℕ) : Type 0 where
  pub step : (w.lanes c).step ≡ 0
  pub waiting : (w.requests c).waiting ≡ []
  pub told : (w.requests c).told ≡ asks_of c events

-- After a `finish` of a client, at the end of every schedule, where each reply to a foreign command that came
-- in it fitted.
abbrev pub FinishRests : Type 0
FinishRests = (o : Oracle) (width limit window : ℕ) (foreign : ℕ → Bool) (events : List Event) (c : ℕ)
    → 0 < window → foreign c ≡ false
    → (happens o (run o (start width limit window foreign) events) (Finish c)).misfits
    ≤ (run o (start width limit window foreign) events).misfits
    → Rests events (happens o (run o (start width limit window foreign) events) (Finish c)) c

-- the requests themselves, in order
abbrev pub asked_in : ℕ → Event → List Request
asked_in c (Ask d request) = if nat_eq c d then request ∷ [] else []
asked_in c event = []

unfoldable pub asked_by : ℕ → List Event → List Request
asked_by c [] = []
asked_by c (event ∷ events) = asked_in c event ++ asked_by c events

-- a read or retire of that own box
abbrev pub IsOfOwn : Request → ℕ → Type 0
IsOfOwn (Read index) own = own ≡ index
IsOfOwn (Retire index) own = own ≡ index
IsOfOwn request own = ⊥

-- What these requests were told, in order, where n were answered before: a read or retire of a box that the
-- client never got takes no serial, any other request has the next serial, under which it was sent.
abbrev pub AreTold : List Request → ℕ → List Request → List Told → Type 0
AreTold sent n [] [] = Unit {0}
AreTold sent n (request ∷ requests) (NoOwnBox own ∷ tolds) =
    IsOfOwn request own × AreTold sent n requests tolds
AreTold sent n (request ∷ requests) (Answered serial opening ∷ tolds) =
    (serial ≡ suc n)
    × (opening ≡ opening_of request)
    × (slice_get sent n ≡ Some request)
    × AreTold sent (suc n) requests tolds
AreTold sent n requests tolds = ⊥

-- how many of these were answers
unfoldable pub answers_in : List Told → ℕ
answers_in [] = 0
answers_in (NoOwnBox own ∷ tolds) = answers_in tolds
answers_in (Answered serial opening ∷ tolds) = suc (answers_in tolds)

-- the current request, by the client's step
abbrev pub IsCurrent : ℕ → List Request → ℕ → List Request → Type 0
IsCurrent zero sent serial now = now ≡ []
IsCurrent (suc step) sent serial now =
    (request : Request) × (now ≡ request ∷ []) × (slice_get sent (serial - 1) ≡ Some request)

-- what a client was told, in order
abbrev pub tolds_of : ℕ → List Outcome → List Told
tolds_of c outcomes = map (λ outcome. outcome.told) (outcomes_of c outcomes)

-- The requests that a client was asked are those that have their outcomes, the current one, and those that
-- wait, in this order.
-- Each serial up to the client's is that of an outcome or of the current request.
pub record Accounts (asked : List Request) (w : World) (c : ℕ) : Type 0 where
  pub front : List Request
  pub now : List Request
  pub all : asked ≡ front ++ (now ++ (w.requests c).waiting)
  pub tolds : AreTold (sent_of w c) 0 front (tolds_of c w.outcomes)
  pub current : IsCurrent (w.lanes c).step (sent_of w c) (w.lanes c).serial now
  pub count : answers_in (tolds_of c w.outcomes) + length now ≡ (w.lanes c).serial

abbrev pub OutcomesAccount : Type 0
OutcomesAccount = (o : Oracle) (width limit window : ℕ) (foreign : ℕ → Bool) (events : List Event) (c : ℕ)
    → 0 < window → foreign c ≡ false
    → Accounts (asked_by c events) (run o (start width limit window foreign) events) c

-- A run is decided by the acts that were taken in it: any other oracle with these gives the same run.
abbrev pub ActsDecide : Type 0
ActsDecide = (o q : Oracle) (width limit window : ℕ) (foreign : ℕ → Bool) (events : List Event) → 0 < window
    → ((n : ℕ) → n < (run o (start width limit window foreign) events).moment → q n ≡ o n)
    → run q (start width limit window foreign) events ≡ run o (start width limit window foreign) events

-- So the oracle of a run is a list of acts, as many as its moment counts; and one with more acts has those
-- first.
abbrev pub ActsAreListed : Type 0
ActsAreListed = (acts more : List Act) → HasActs (oracle_of (acts ++ more)) acts

-- with no foreign lane no act is taken
abbrev pub NoActs : Type 0
NoActs = (o : Oracle) (width limit window : ℕ) (foreign : ℕ → Bool) (events : List Event) → 0 < window
    → ((c : ℕ) → foreign c ≡ false)
    → (run o (start width limit window foreign) events).moment ≡ 0

-- acts and misfits are never taken back
pub record Counts (w v : World) : Type 0 where
  pub moment : w.moment ≤ v.moment
  pub misfits : w.misfits ≤ v.misfits

abbrev pub CountsGrow : Type 0
CountsGrow = (o : Oracle) (width limit window : ℕ) (foreign : ℕ → Bool) (events : List Event) (event : Event)
    → 0 < window
    → Counts (run o (start width limit window foreign) events)
    (happens o (run o (start width limit window foreign) events) event)

-- the token run's `finish` is made of its moves
abbrev pub FinishIsDriven : Type 0
FinishIsDriven = (o : Oracle) (w : World) (c : ℕ) → finished_by (token_moves o) w c ≡ finished o w c
