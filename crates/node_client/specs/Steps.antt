-- The steps of a client's request, each by one exchange.
use Rattle.std.specs.Prelude.{◌≡◌, ℕ, List, [], ◌∷◌, ◌++◌, Option, Some, None, option_map, Result, Ok, Err}
use Rattle.express_words.specs.Causes.{Rose}
use Rattle.express_words.specs.Calls.{Call}
use Rattle.frame_rules.specs.Spelling.{spelling}
use Rattle.step_rules.specs.Client.{Client, Turn, Outcome, Progress, Message, Ignored, Later, Next, Finished}
use Rattle.step_rules.specs.ClientAsks.{Sent, sends}
use Rattle.step_rules.specs.ClientReplies.{on_reply, ignores}
use Rattle.client_core.specs.Answers.{outcome_in, message_or}
use Rattle.node_exchange.specs.declared.exchanging.Broken.{Broken}
use Rattle.node_exchange.specs.declared.exchanging.Broken.TheVariants as broken
use Rattle.node_client.specs.declared.finished.Told.{Told}
use Rattle.node_client.specs.declared.finished.Told.TheVariants as told
use Rattle.node_client.specs.declared.peers.Peers.{Peers}
use Rattle.node_client.specs.declared.stop.Stop.{Stop}
use Rattle.node_client.specs.declared.stop.Stop.TheVariants as stop
use Rattle.node_client.specs.Talks.{Talk, TalkOn, TalksOn}

-- ---- what is said of a request

-- how a request ends: with an outcome, or unsent, since the client owns no box of this number
pub data Ending : Type 0 where
  Done : (outcome : Outcome) → Ending
  NoOwn : (own : ℕ) → Ending

abbrev pub told_in : Ending → Told
told_in (Done outcome) = told.Done (outcome_in outcome)
told_in (NoOwn own) = told.NoOwn own

-- the bytes of a message; else none
abbrev pub message_in : Ending → List ℕ
message_in (Done (Message bytes)) = bytes
message_in other = []

-- where a message was read it stands there
abbrev pub IsMessage : Ending → List ℕ → Type 0
IsMessage (Done (Message bytes)) message = message ≡ bytes
IsMessage other message = Unit {0}

-- ---- one step

-- the server that a frame goes to, and its bytes
abbrev pub dispatched : Sent → ℕ × List ℕ
dispatched s = (s.server, spelling s.frame)

-- the client's frame of its present step goes to that step's server
abbrev pub IsStep : Client → Talk → Type 0
IsStep c t = option_map dispatched (sends c) ≡ Some (t.server, t.exchange.sent)

-- the client is handed a frame, and nothing where none came
abbrev pub heard : Client → Result (List ℕ) Broken → Turn
heard c (Ok bytes) = on_reply c bytes
heard c (Err why) = ignores c

abbrev pub stop_at : Broken → Stop
stop_at (broken.Fault count) = stop.Fault count
stop_at (broken.Early count) = stop.Answer
stop_at (broken.Wrong fault) = stop.Answer

-- what comes of a step: the request goes on, or ends, or the work stops
abbrev pub said_of : Progress → Result (Option Ending) Stop
said_of Next = Ok None
said_of (Finished outcome) = Ok (Some (Done outcome))
said_of (Later refusal) = Err (stop.Later refusal)
said_of Ignored = Err stop.Answer

abbrev pub said : Client → Result (List ℕ) Broken → Result (Option Ending) Stop
said c (Ok bytes) = said_of (on_reply c bytes).progress
said c (Err why) = Err (stop_at why)

-- as the call tells it, where a message's bytes stand apart
abbrev pub told_step : Result (Option Ending) Stop → Result (Option Told) Stop
told_step (Ok end) = Ok (option_map told_in end)
told_step (Err why) = Err why

-- One step on a net. A message that is read goes where `message` stood, and else that is kept.
pub record StepsOn (peers : Peers) (old new : Client) (message kept : List ℕ)
    (result : Result (Option Told) Stop) (before now : Option (List Call)) : Type 0 where
  pub talk : Talk
  pub is_step : IsStep old talk
  pub client : new ≡ (heard old talk.exchange.answer).client
  pub told : result ≡ told_step (said old talk.exchange.answer)
  pub message_is : kept ≡ message_or message (heard old talk.exchange.answer).progress
  pub calls : TalkOn peers talk before now

-- ---- all steps

-- steps one after another, after each of which the request goes on
pub data WalksOn (start : Client) : Client → List Talk → Type 0 where
  none : WalksOn start start []
  then : (c : Client) (made : List Talk) (t : Talk) →
      WalksOn start c made → IsStep c t → said c t.exchange.answer ≡ Ok None →
      WalksOn start (heard c t.exchange.answer).client (made ++ t ∷ [])

-- how a request ends, as its last step says it
abbrev pub last_said : Result Ending Stop → Result (Option Ending) Stop
last_said (Ok end) = Ok (Some end)
last_said (Err why) = Err why

-- the steps of a request up to the one that ends it or stops the work
pub record Walks (start new : Client) (made : List Talk) (end : Result Ending Stop) : Type 0 where
  pub last : Client
  pub before : List Talk
  pub goes_on : WalksOn start last before
  pub talk : Talk
  pub is_step : IsStep last talk
  pub said_last : said last talk.exchange.answer ≡ last_said end
  pub client : new ≡ (heard last talk.exchange.answer).client
  pub all : made ≡ before ++ talk ∷ []

-- as the call tells it
abbrev pub told_as : Result Ending Stop → Result Told Stop
told_as (Ok end) = Ok (told_in end)
told_as (Err why) = Err why

abbrev pub MessageBy : Result Ending Stop → List ℕ → Type 0
MessageBy (Ok end) message = IsMessage end message
MessageBy (Err why) message = Unit {0}

-- the steps of a request on a net
pub record Walked (peers : Peers) (start new : Client) (message : List ℕ) (result : Result Told Stop)
    (before now : Option (List Call)) : Type 0 where
  pub made : List Talk
  pub end : Result Ending Stop
  pub walks : Walks start new made end
  pub told : result ≡ told_as end
  pub message_is : MessageBy end message
  pub calls : TalksOn peers made before now

-- ---- faults

-- the net's count: it rose where a fault is told, and only then
abbrev pub FaultBy : {A : Type 0} → Result A Stop → (before now : ℕ) → Type 0
FaultBy (Err (stop.Fault count)) before now = Rose before now × (count ≡ now)
FaultBy other before now = now ≡ before
