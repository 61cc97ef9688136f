-- The plain table of a history, and what both servers' shares are beside it.
use Rattle.std.specs.Prelude.{◌≡◌, ◌≤◌, ◌⊎◌, ℕ, false, true, if◌then◌else◌, List, length, take, Option, Some}
use Rattle.std.specs.Prelude.{None, slice_get, Contains}
use Rattle.express_words.specs.Bytes.{xor_bytes}
use Rattle.dpf_rules.specs.Walk.{write_bytes}
use Rattle.frame_rules.specs.Frames as frame
use Rattle.frame_rules.specs.Frames.{PlainBody}
use Rattle.express_words.specs.declared.refusal.Refusal.{Refusal}
use Rattle.express_words.specs.declared.refusal.Refusal.TheVariants as refusal
use Rattle.mailbox_rules.specs.Requests.{Request, Register, Write, Read, Retire, Line, Entry, RetireBox}
use Rattle.mailbox_rules.specs.Requests.{lines_of, opening_of, opens_with, operation_of, Command, Refuse}
use Rattle.mailbox_rules.specs.Requests.{Retires}
use Rattle.mailbox_rules.specs.Tables.{Table, Result, Registered, Taken, Full, Began, WasAudited, Settled}
use Rattle.mailbox_rules.specs.Tables.{Gave, NoBox, Refused, Writes, table_after, result_of, result_sum}
use Rattle.mailbox_rules.specs.Tables.{plain_writes}
use Rattle.mailbox_rules.specs.Laws.{AreShares, Did}
use Rattle.token_rules.specs.Tokens as token
use Rattle.token_rules.specs.Tokens.{World}
use Rattle.token_rules.specs.Run.{line_of}
use Rattle.token_rules.specs.Laws.{HasLines, InOrder, Once, last_of}
use Rattle.step_rules.specs.Client as client
use Rattle.step_rules.specs.Client.{Outcome}
use Rattle.run_rules.specs.Book.{Book, request_of, table_at}
use Rattle.run_rules.specs.Values.{accepted_at, boxes_at, closing_at, counted_at, opened_at, part_at, root_at}
use Rattle.run_rules.specs.Values.{shares_at, writes_at}
use Rattle.run_rules.specs.Frames.{does_at}
use Rattle.run_rules.specs.Follows.{ForeignOrder, HelperAnswers, Sound, SettlesBegun, brought_does}
use Rattle.run_rules.specs.Letters as run
use Rattle.run_rules.specs.Letters.{Ended, FrameWorld, JournalLine, NoOwnBox, Told, Value}

-- what both servers add to a box of that address at a write
abbrev pub both_add : Book → ℕ → ℕ → ℕ → List ℕ
both_add b c serial address =
    xor_bytes (write_bytes (part_at b c serial) 0 (root_at b 0 c serial) address)
    (write_bytes (part_at b c serial) 1 (root_at b 1 c serial) address)

-- An accepted write of a client adds its message to the box of its target, one of a foreign lane to each box
-- what both servers add.
abbrev pub plain_of : Book → Writes
plain_of b =
    let clients = plain_writes b.sent (λ c serial. accepted_at b c serial) in
    record clients {
      adds = λ c serial address.
          if b.foreign c then both_add b c serial address else clients.adds c serial address;
    }

-- the plain table after the first i entries
unfoldable pub plain_at : Book → ℕ → Table
plain_at b i = table_after b.settings.boxes b.settings.width (plain_of b) (take i b.entries)

-- what the entry's line comes to at the plain table
unfoldable pub plain_result : Book → ℕ → Entry → Result
plain_result b i e = result_of b.settings.boxes (plain_of b) (plain_at b i) e.line e.does

-- The entry did what a request of its client asks, and so never nothing: a read is of the client's own box of
-- that index.
pub record IsAnswer (b : Book) (i : ℕ) (e : Entry) : Type 0 where
  pub request : Request
  pub is : request_of b e.line.lane e.line.serial ≡ Some request
  pub opens : opens_with e.line.command ≡ opening_of request
  pub does : e.does ≡ does_at b i e.line
  pub done : e.does ≡ Refuse → ⊥

-- a history of clients alone: no lane is foreign, and each entry answers a request
pub record IsClients (b : Book) : Type 0 where
  pub sound : Sound b
  pub lanes : (c : ℕ) → b.foreign c ≡ false
  pub answers : (i : ℕ) (e : Entry) → slice_get b.entries i ≡ Some e → IsAnswer b i e

abbrev pub HistoryIsClients : Book → FrameWorld → World → Type 0
HistoryIsClients b f w = IsClients b

-- a foreign lane's entry does what its frames brought, or nothing, and a write that it settles had begun
pub record IsStrange (b : Book) (i : ℕ) (e : Entry) : Type 0 where
  pub does : (e.does ≡ Refuse) ⊎ (e.does ≡ brought_does b e.line)
  pub begun : SettlesBegun b i e.line e.does

-- a history of clients and foreign lanes: none of these is asked, and each entry of a client answers a
-- request
pub record IsHistory (b : Book) : Type 0 where
  pub sound : Sound b
  pub asked : (c serial : ℕ) (r : Request) → request_of b c serial ≡ Some r → b.foreign c ≡ false
  pub answers : (i : ℕ) (e : Entry) → slice_get b.entries i ≡ Some e → b.foreign e.line.lane ≡ false
      → IsAnswer b i e
  pub strange : (i : ℕ) (e : Entry) → slice_get b.entries i ≡ Some e → b.foreign e.line.lane ≡ true
      → IsStrange b i e

-- what both servers hold of every box adds up to what stands in the plain table
abbrev pub SharesArePlain : Type 0
SharesArePlain = (b : Book) → IsHistory b → (i : ℕ)
    → AreShares (plain_at b i).boxes (shares_at b 0 i).boxes (shares_at b 1 i).boxes

-- an entry's result at a server's shares
unfoldable pub shared_result : Book → ℕ → ℕ → Entry → Result
shared_result b server i e =
    result_of b.settings.boxes (writes_at b server) (shares_at b server i) e.line e.does

-- each entry's result is that of the plain table: a read gives the sum of both servers' shares
abbrev pub ResultsArePlain : Type 0
ResultsArePlain = (b : Book) → IsHistory b → (i : ℕ) (e : Entry) → slice_get b.entries i ≡ Some e
    → result_sum (shared_result b 0 i e) (shared_result b 1 i e) ≡ plain_result b i e

-- a write whose target stood among the boxes when it began is accepted
abbrev pub RegisteredAreAccepted : Type 0
RegisteredAreAccepted = (b : Book) → IsHistory b → (c serial target : ℕ) (message : List ℕ)
    → request_of b c serial ≡ Some (Write target message) → Contains (counted_at b c serial) target
    → accepted_at b c serial ≡ true

-- ---- what is told and printed, by the results of the plain table

-- what a client is told of the result of its request's last command
abbrev pub outcome_of : Book → Line → Result → Option Outcome
outcome_of b x (Registered n) = Some (client.Registered n)
outcome_of b x (Taken n) = Some (client.Refused (refusal.Taken n))
outcome_of b x (Full limit) = Some (client.Refused (refusal.Full limit))
outcome_of b x (Settled true) = Some client.Accepted
outcome_of b x (Settled false) =
    let zero = closing_at b 0 x.lane x.serial in
    let one = closing_at b 1 x.lane x.serial in
    Some (client.Refused (refusal.Rejected zero.o one.o zero.tau one.tau))
outcome_of b x (Gave n bytes) = Some (client.Message bytes)
outcome_of b x (NoBox n) = Some (client.Refused (refusal.NoBox n))
outcome_of b x result = None

-- The refusals that a client's request can come to, at the place of its last line: a register finds the
-- address taken or the boxes full, a write's target wasn't among the boxes when it began, and a read or
-- retire finds a box that an earlier line retired.
abbrev pub IsDue : Book → ℕ → Line → Request → Refusal → Type 0
IsDue b i x (Register address) (refusal.Taken n) = Unit {0}
IsDue b i x (Register address) (refusal.Full limit) = Unit {0}
IsDue b i x (Write target message) (refusal.Rejected o0 o1 t0 t1) =
    Contains (counted_at b x.lane x.serial) target → ⊥
IsDue b i x (Read own) (refusal.NoBox n) = Did (take i b.entries) (RetireBox n)
IsDue b i x (Retire own) (refusal.NoBox n) = Did (take i b.entries) (RetireBox n)
IsDue b i x request refused = ⊥

-- The outcome of the request that a client sent under a serial: each of its lines stands in the journal, the
-- last did what the request asks, and what is told is the plain table's result at the place of the last one.
-- So the message of a read is what the plain table gives at that place.
pub record IsAnswered (b : Book) (c serial : ℕ) (outcome : Outcome) : Type 0 where
  pub request : Request
  pub asked : request_of b c serial ≡ Some request
  pub lines : HasLines (lines_of b.entries) c serial (opening_of request)
  pub place : ℕ
  pub entry : Entry
  pub is : slice_get b.entries place ≡ Some entry
  pub last : entry.line ≡ line_of c serial (last_of (opening_of request))
  pub does : entry.does ≡ operation_of ((table_at b place).got c) entry.line.command (Some request)
  pub done : entry.does ≡ Refuse → ⊥
  pub told : outcome_of b entry.line (plain_result b place entry) ≡ Some outcome
  pub due : (refused : Refusal) → outcome ≡ client.Refused refused → IsDue b place entry.line request refused

-- a read or retire of a box that the client never got is sent to nobody
abbrev pub IsToldPlain : Book → ℕ → token.Told → Told → Type 0
IsToldPlain b c (token.Answered serial opening) (Ended outcome) = IsAnswered b c serial outcome
IsToldPlain b c (token.NoOwnBox own) (NoOwnBox other) = other ≡ own
IsToldPlain b c told other = ⊥

-- The outcome in a place is that of the token run there: of the same client's request, and told so.
pub record IsPlainOutcome (b : Book) (w : World) (k : ℕ) (y : run.Outcome) : Type 0 where
  pub outcome : token.Outcome
  pub is : slice_get w.outcomes k ≡ Some outcome
  pub client : y.client ≡ outcome.client
  pub request : y.request ≡ outcome.request
  pub told : IsToldPlain b y.client outcome.told y.told

abbrev pub OutcomesArePlain : Book → FrameWorld → World → Type 0
OutcomesArePlain b f w = (k : ℕ) (y : run.Outcome) → slice_get f.outcomes k ≡ Some y → IsPlainOutcome b w k y

-- a read or retire that gave a box's bytes
abbrev pub read_value : Command → ℕ → Value
read_value Retires n = run.Retired n
read_value command n = run.WasRead n

-- what is printed of a command's result
abbrev pub printed_of : Book → Line → Result → Value
printed_of b x (Registered n) = run.Registered n
printed_of b x (Taken n) = run.Refused x.command (refusal.Taken n)
printed_of b x (Full limit) = run.Refused x.command (refusal.Full limit)
printed_of b x (Began count) = run.Began count
printed_of b x WasAudited =
    run.Audited (opened_at b 0 x.lane x.serial) (opened_at b 1 x.lane x.serial)
    (closing_at b 1 x.lane x.serial)
printed_of b x (Settled accepted) = run.Settled accepted (closing_at b 0 x.lane x.serial)
printed_of b x (Gave n bytes) = read_value x.command n
printed_of b x (NoBox n) = run.Refused x.command (refusal.NoBox n)
printed_of b x Refused = run.Refused x.command refusal.NoDeposit

-- Each printed line of the journal is its entry's, with the plain table's result there.
pub record JournalIsPlain (b : Book) (f : FrameWorld) (w : World) : Type 0 where
  pub count : length f.journal ≡ length b.entries
  pub lines : (i : ℕ) (e : Entry) → slice_get b.entries i ≡ Some e
      → slice_get f.journal i ≡ Some (record {
        lane = e.line.lane;
        serial = e.line.serial;
        value = printed_of b e.line (plain_result b i e);
      })

-- A printed line tells the plain table's result; or, of a foreign command that did nothing, a refusal that
-- the helper's step gives at the boxes there and some row of the lane.
abbrev pub IsPlainLine : Book → ℕ → Entry → JournalLine → Type 0
IsPlainLine b i e line =
    line ≡ record {
      lane = e.line.lane;
      serial = e.line.serial;
      value = printed_of b e.line (plain_result b i e);
    }

pub record IsRefusedLine (b : Book) (i : ℕ) (e : Entry) (line : JournalLine) : Type 0 where
  pub foreign : b.foreign e.line.lane ≡ true
  pub nothing : e.does ≡ Refuse
  pub command : PlainBody
  pub ordered : ForeignOrder b i e.line command
  pub refusal : Refusal
  pub answers : HelperAnswers b i e.line command (frame.LinkReply (frame.ReplyRefused refusal))
  pub is : line ≡ record {
    lane = e.line.lane;
    serial = e.line.serial;
    value = run.Refused e.line.command refusal;
  }

-- Each entry has its printed line.
pub record JournalIsTold (b : Book) (f : FrameWorld) (w : World) : Type 0 where
  pub count : length f.journal ≡ length b.entries
  pub lines : (i : ℕ) (e : Entry) → slice_get b.entries i ≡ Some e
      → (line : JournalLine) × (slice_get f.journal i ≡ Some line)
      × (IsPlainLine b i e line ⊎ IsRefusedLine b i e line)

-- the refusals that the plain table has
abbrev pub IsOfTable : Refusal → Type 0
IsOfTable (refusal.Taken n) = Unit {0}
IsOfTable (refusal.Full limit) = Unit {0}
IsOfTable (refusal.NoBox n) = Unit {0}
IsOfTable refused = ⊥

-- A client's line that is refused is refused by the plain table: none is for a deposit or a proof that didn't
-- come, nor for a wrong token.
abbrev pub ClientsAreReady : Book → FrameWorld → World → Type 0
ClientsAreReady b f w = (i : ℕ) (line : JournalLine) (command : Command) (refused : Refusal)
    → slice_get f.journal i ≡ Some line → b.foreign line.lane ≡ false
    → line.value ≡ run.Refused command refused → IsOfTable refused

-- The helper's boxes hold its shares after the whole journal,
-- the leader's those after the entries that it has acknowledged.
pub record SharesAreFolds (b : Book) (f : FrameWorld) (w : World) : Type 0 where
  pub helper : f.helper.server.boxes ≡ boxes_at b 1 (length b.entries)
  pub leader : f.leader.boxes ≡ boxes_at b 0 w.acknowledged
  pub acknowledged : w.acknowledged ≤ length b.entries

-- ---- the history and its journal

-- Both servers' shares add up to the plain table after every entry, and a write whose target stood among the
-- boxes when it began is accepted.
pub record BoxesArePlain (b : Book) (f : FrameWorld) (w : World) : Type 0 where
  pub shares : (i : ℕ) → AreShares (plain_at b i).boxes (shares_at b 0 i).boxes (shares_at b 1 i).boxes
  pub accepted : (c serial target : ℕ) (message : List ℕ)
      → request_of b c serial ≡ Some (Write target message)
      → Contains (counted_at b c serial) target → accepted_at b c serial ≡ true

-- No line stands twice; a client's serials never fall, and a write's lines are begin, audit and settle.
pub record JournalInOrder (b : Book) (f : FrameWorld) (w : World) : Type 0 where
  pub entries : w.journal ≡ b.entries
  pub once : Once w
  pub order : InOrder w
