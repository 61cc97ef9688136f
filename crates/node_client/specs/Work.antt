-- A client's requests, worked off in order.
use Rattle.std.specs.Prelude.{◌≡◌, ℕ, List, [], ◌∷◌, ◌++◌, length, Option, Some, None, Result, Ok, Err}
use Rattle.express_words.specs.Calls.{Call}
use Rattle.mailbox_rules.specs.Requests.{Request, Write}
use Rattle.step_rules.specs.Client as steps
use Rattle.step_rules.specs.Client.{Client, Fault}
use Rattle.step_rules.specs.ClientAsks.{asked}
use Rattle.client_core.specs.declared.progress.Outcome.TheVariants as outcome
use Rattle.node_client.specs.declared.finished.Finished.{Finished}
use Rattle.node_client.specs.declared.finished.Told.{Told}
use Rattle.node_client.specs.declared.finished.Told.TheVariants as told
use Rattle.node_client.specs.declared.peers.Peers.{Peers}
use Rattle.node_client.specs.declared.stop.Stop.{Stop}
use Rattle.node_client.specs.declared.stop.Stop.TheVariants as stop
use Rattle.node_client.specs.Talks.{Talk, TalksOn}
use Rattle.node_client.specs.Steps.{Ending, NoOwn, told_in, message_in, Walks, told_as, MessageBy}

-- a message to be written has the width
abbrev pub Fits : ℕ → Request → Type 0
Fits width (Write target message) = length message ≡ width
Fits width other = Unit {0}

-- ---- one request

-- what comes of a request that the client doesn't take; a busy client is asked nothing, and a message fits
abbrev pub refused : Fault → Option (Result Ending Stop)
refused (steps.NoBox own) = Some (Ok (NoOwn own))
refused steps.Spent = Some (Err stop.Spent)
refused (steps.OwnFull capacity) = Some (Err stop.Full)
refused steps.Busy = None
refused (steps.Width width) = None

abbrev pub ComesBy : Result Client Fault → Client → Client → List Talk → Result Ending Stop → Type 0
ComesBy (Ok taken) old new made end = Walks taken new made end
ComesBy (Err fault) old new made end = (refused fault ≡ Some end) × (new ≡ old) × (made ≡ [])

-- what comes of a request, and the exchanges that are made for it
abbrev pub Comes : Client → Request → Client → List Talk → Result Ending Stop → Type 0
Comes old r new made end = ComesBy (asked old r) old new made end

-- a request on a net
pub record Came (peers : Peers) (old : Client) (r : Request) (new : Client) (message : List ℕ)
    (result : Result Told Stop) (before now : Option (List Call)) : Type 0 where
  pub made : List Talk
  pub end : Result Ending Stop
  pub comes : Comes old r new made end
  pub told : result ≡ told_as end
  pub message_is : MessageBy end message
  pub calls : TalksOn peers made before now

-- ---- what is told

-- what is told of the request of this number
abbrev pub line_of : ℕ → Ending → Finished
line_of number end = record { request = number; told = told_in end; message = message_in end }

-- the same of what a call tells, where a message's bytes stand apart
abbrev pub read_message : Told → List ℕ → List ℕ
read_message (told.Done outcome.Message) message = message
read_message other message = []

abbrev pub line : ℕ → List ℕ → Told → Finished
line number message t = record { request = number; told = t; message = read_message t message }

-- ---- all requests

-- where the work stands: the client, what was told of its requests, and the exchanges so far
pub record WorkState : Type 0 where
  pub client : Client
  pub finished : List Finished
  pub made : List Talk

abbrev pub work_start : Client → WorkState
work_start c = record { client = c; finished = []; made = [] }

-- one request more has come to its end
abbrev pub worked : WorkState → ℕ → Client → List Talk → Ending → WorkState
worked s number new made end = record {
  client = new;
  finished = s.finished ++ line_of number end ∷ [];
  made = s.made ++ made;
}

-- requests that came to their ends one after another
pub data WorksAll (start : Client) : List Request → WorkState → Type 0 where
  none : WorksAll start [] (work_start start)
  then : (before : List Request) (s : WorkState) (r : Request) (new : Client) (made : List Talk)
      (end : Ending) →
      WorksAll start before s → Comes s.client r new made (Ok end) →
      WorksAll start (before ++ r ∷ []) (worked s (length before) new made end)

-- one request stopped the work, and none behind it was taken
pub record StopsAt (start : Client) (requests : List Request) (now : WorkState) (why : Stop) : Type 0 where
  pub before : List Request
  pub s : WorkState
  pub works : WorksAll start before s
  pub r : Request
  pub behind : List Request
  pub all : requests ≡ before ++ r ∷ behind
  pub made : List Talk
  pub comes : Comes s.client r now.client made (Err why)
  pub finished : now.finished ≡ s.finished
  pub exchanges : now.made ≡ s.made ++ made

-- by how the work ended
abbrev pub WorksOff : Client → List Request → WorkState → Result Unit Stop → Type 0
WorksOff start requests now (Ok done) = WorksAll start requests now
WorksOff start requests now (Err why) = StopsAt start requests now why
