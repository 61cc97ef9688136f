-- When frames go, and which: the token run of a schedule knows no aims.
use Rattle.std.specs.Prelude.{◌≡◌, ◌⊎◌, ℕ, ◌<◌, ◌≤◌, Bool, true, List, [], length, map, Some, slice_get}
use Rattle.express_words.specs.declared.settings.Settings.{Settings}
use Rattle.express_words.specs.declared.refusal.Refusal.{Refusal}
use Rattle.express_words.specs.Limits.{KeepsLimits}
use Rattle.mailbox_rules.specs.Requests.{Line}
use Rattle.frame_rules.specs.Frames as frame
use Rattle.frame_rules.specs.Frames.{PlainBody, PlainFrame}
use Rattle.frame_rules.specs.Spelling.{spelling}
use Rattle.token_rules.specs.Tokens as token
use Rattle.token_rules.specs.Tokens.{Oracle, Requests, Token, World}
use Rattle.run_rules.specs.Book.{Book}
use Rattle.run_rules.specs.Frames.{frame_with}
use Rattle.step_rules.specs.Client as client
use Rattle.run_rules.specs.Letters.{Ended, FrameWorld, Letter, Outcome, Told}
use Rattle.run_rules.specs.Run.{Ask, Event}
use Rattle.run_rules.specs.Acts.{AreFitting, Both, ended_of, history_of}
use Rattle.run_rules.specs.History.{AreOfClients, frame_run, history, no_lane, token_run}
use Rattle.run_hiding.specs.Ideal.{AreAims, Ideal, IsIdeal}
use Rattle.run_hiding.specs.Laws.{IsSpelledOf, IsTo}
use Rattle.run_hiding.specs.Moved.{unaimed}

-- an event but for the aim of what it asks
abbrev pub unaimed_event : Event → Event
unaimed_event (Ask c request) = Ask c (unaimed request)
unaimed_event event = event

-- a world but for the aims of what clients were asked
abbrev pub unaimed_requests : Requests → Requests
unaimed_requests r = record r {
  sent = map (λ q. unaimed q) r.sent;
  waiting = map (λ q. unaimed q) r.waiting;
}

abbrev pub flow : World → World
flow w = record w { requests = λ c. unaimed_requests (w.requests c) }

-- Schedules alike but for aims come to worlds alike but for aims: the same tokens at the same places, the
-- same commands and entries of the journal, the same rows, steps and outcomes, where an outcome of the token
-- run tells no message. With foreign lanes both are taken under one oracle; that they have one is `ActsStay`.
abbrev pub FlowStays : Type 0
FlowStays =
    (o : Oracle) (settings : Settings) (foreign : ℕ → Bool) (events others : List Event) →
    map (λ e. unaimed_event e) others ≡ map (λ e. unaimed_event e) events →
    flow (token_run o settings foreign others) ≡ flow (token_run o settings foreign events)

-- ---- two schedules of clients

-- An ideal history of the second run's book gives the viewer each letter that the first run sent it, at the
-- same place of the second run's pool.
pub record FitsRun (viewer : ℕ) (tokens : List Token) (letters : List Letter) (other : Book)
    (pool : List Token) : Type 0 where
  pub ideal : Ideal
  pub book : ideal.book ≡ other
  pub form : IsIdeal ideal
  pub places : pool ≡ tokens
  pub same : (k : ℕ) (t : Token) (l : Letter) → slice_get tokens k ≡ Some t
      → slice_get letters k ≡ Some l → IsTo viewer other t → IsSpelledOf viewer ideal t l

-- Schedules alike but for aims, whose writes go to registered boxes in both.
pub record AreAlike (settings : Settings) (events others : List Event) : Type 0 where
  pub limits : KeepsLimits settings.width settings.boxes settings.lanes settings.window
  pub fit : AreOfClients settings events
  pub fit_others : AreOfClients settings others
  pub few : length events ≤ 20000
  pub few_others : length others ≤ 20000
  pub same : map (λ e. unaimed_event e) others ≡ map (λ e. unaimed_event e) events

abbrev pub SchedulesFitOtherAims : Type 0
SchedulesFitOtherAims =
    (viewer : ℕ) (o : Oracle) (settings : Settings) (seed : List ℕ) (events others : List Event) →
    viewer < 2 → AreAlike settings events others →
    let v = token_run o settings no_lane events in
    let w = token_run o settings no_lane others in
    AreAims (history settings seed v) → AreAims (history settings seed w) →
    FitsRun viewer v.pool (frame_run settings seed events).pool (history settings seed w) w.pool

-- an outcome but for the message that was read
abbrev pub unread : client.Outcome → client.Outcome
unread (client.Message bytes) = client.Message []
unread outcome = outcome

abbrev pub unread_told : Told → Told
unread_told (Ended outcome) = Ended (unread outcome)
unread_told told = told

pub record SameOutcome (x y : Outcome) : Type 0 where
  pub client : y.client ≡ x.client
  pub request : y.request ≡ x.request
  pub told : unread_told y.told ≡ unread_told x.told

-- So what clients are told differs in messages alone.
abbrev pub OutcomesStay : Type 0
OutcomesStay =
    (o : Oracle) (settings : Settings) (seed : List ℕ) (events others : List Event) →
    AreAlike settings events others →
    AreAims (history settings seed (token_run o settings no_lane events)) →
    AreAims (history settings seed (token_run o settings no_lane others)) → (k : ℕ) (x y : Outcome) →
    slice_get (frame_run settings seed events).outcomes k ≡ Some x →
    slice_get (frame_run settings seed others).outcomes k ≡ Some y → SameOutcome x y

-- ---- two schedules with foreign lanes

-- Schedules alike but for aims, with the same bytes from outside.
pub record AreAlikeBeside (settings : Settings) (foreign : ℕ → Bool) (events others : List Event)
    : Type 0 where
  pub limits : KeepsLimits settings.width settings.boxes settings.lanes settings.window
  pub fit : AreFitting settings foreign events
  pub fit_others : AreFitting settings foreign others
  pub few : length events ≤ 20000
  pub few_others : length others ≤ 20000
  pub same : map (λ e. unaimed_event e) others ≡ map (λ e. unaimed_event e) events

-- In both runs servers took the same acts at foreign frames, and the same of what these brought.
pub record ActAlike (s t : Both) : Type 0 where
  pub acts : t.acts ≡ s.acts
  pub taken : t.taken ≡ s.taken

-- what is said of both runs of two such schedules, side by side
abbrev pub OfBoth : ((ℕ → Bool) → Both → Both → Type 0) → Type 0
OfBoth P =
    (settings : Settings) (seed : List ℕ) (foreign : ℕ → Bool) (events others : List Event) →
    AreAlikeBeside settings foreign events others →
    P foreign (ended_of settings seed foreign events) (ended_of settings seed foreign others)

-- So both token runs have one oracle.
abbrev pub ActsStay : Type 0
ActsStay = OfBoth (λ foreign s t. ActAlike s t)

-- a reply but for the share that it masks
abbrev pub shareless : PlainBody → PlainBody
shareless (frame.LinkReply (frame.ReplyMasked share)) = frame.LinkReply (frame.ReplyMasked [])
shareless body = body

-- two frames that differ in the share that they mask alone: a refusal is the same in both
pub record SameReply (mine theirs : List ℕ) : Type 0 where
  pub frame : PlainFrame
  pub body : PlainBody
  pub first : mine ≡ spelling frame
  pub second : theirs ≡ spelling (record frame { body = body })
  pub same : shareless body ≡ shareless frame.body

-- the letters of one token, where it is of a foreign lane
abbrev pub SameLetters : (ℕ → Bool) → Token → Letter → Letter → Type 0
SameLetters foreign (token.Ordered n x) l m = foreign x.lane ≡ true → m ≡ l
SameLetters foreign (token.Replied n x) l m = foreign x.lane ≡ true → SameReply l.bytes m.bytes
SameLetters foreign (token.Injected to_leader lane) l m = m ≡ l
SameLetters foreign t l m = Unit {0}

-- What servers send each other for foreign lanes is the same in both runs, place by place, but for the shares
-- that are masked; so a command that is refused in the one is refused in the other with the same words.
abbrev pub ForeignLettersStay : Type 0
ForeignLettersStay = OfBoth (λ foreign s t. (k : ℕ) (x : Token) (l m : Letter)
    → slice_get s.world.pool k ≡ Some x → slice_get s.frames.pool k ≡ Some l
    → slice_get t.frames.pool k ≡ Some m → SameLetters foreign x l m)

-- what is said of two such runs, by their histories, runs over bytes and token runs
abbrev pub OfTwoRuns : (Book → Book → FrameWorld → FrameWorld → World → World → Type 0) → Type 0
OfTwoRuns P =
    (settings : Settings) (seed : List ℕ) (foreign : ℕ → Bool) (events others : List Event) →
    AreAlikeBeside settings foreign events others →
    let s = ended_of settings seed foreign events in
    let t = ended_of settings seed foreign others in
    let b = history_of settings seed foreign s in
    let d = history_of settings seed foreign t in
    AreAims b → AreAims d →
    P b d (frame_run settings seed events) (frame_run settings seed others) s.world t.world

-- the helper refuses the command in both, with the same words
pub record SameRefusal (n : ℕ) (x : Line) (mine theirs : Letter) : Type 0 where
  pub refusal : Refusal
  pub is : mine.bytes ≡ spelling (frame_with x.lane x.serial n (frame.LinkReply (frame.ReplyRefused refusal)))
  pub same : theirs.bytes ≡ mine.bytes

-- The viewer's letters fit the other run as with clients alone; where it is the leader, the reply to a
-- foreign lane's command is of the same ideal history, or the same refusal as in the other run.
pub record FitsBeside (viewer : ℕ) (tokens : List Token) (letters theirs : List Letter) (other : Book)
    (pool : List Token) : Type 0 where
  pub clients : FitsRun viewer tokens letters other pool
  pub strangers : (k n : ℕ) (x : Line) (l m : Letter) → viewer ≡ 0 → other.foreign x.lane ≡ true
      → slice_get tokens k ≡ Some (token.Replied n x) → slice_get letters k ≡ Some l
      → slice_get theirs k ≡ Some m
      → IsSpelledOf viewer clients.ideal (token.Replied n x) l ⊎ SameRefusal n x l m

-- So each letter of the one run for the viewer fits the other.
abbrev pub RunsFitBeside : Type 0
RunsFitBeside = (viewer : ℕ) → viewer < 2
    → OfTwoRuns (λ b d f g v w. FitsBeside viewer v.pool f.pool g.pool d w.pool)

-- And clients are told the same but for messages.
abbrev pub OutcomesStayBeside : Type 0
OutcomesStayBeside = OfTwoRuns (λ b d f g v w. (k : ℕ) (x y : Outcome)
    → slice_get f.outcomes k ≡ Some x → slice_get g.outcomes k ≡ Some y → SameOutcome x y)
