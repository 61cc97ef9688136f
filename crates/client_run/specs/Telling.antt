-- Work that is told as it goes: the line of each request is out before the next one is asked.
use Rattle.std.specs.Prelude.{◌≡◌, ℕ, Bool, true, false, List, [], ◌∷◌, ◌++◌, length, map, flat_map}
use Rattle.std.specs.Prelude.{Option, None, Result, Ok, Err}
use Rattle.std.specs.List.{AllPass}
use Rattle.express_words.specs.Seen.{Seen}
use Rattle.express_words.specs.Calls.{Call}
use Rattle.express_words.specs.Causes.{Rose}
use Rattle.express_words.specs.Streams.{Took}
use Rattle.mailbox_rules.specs.Requests.{Request}
use Rattle.step_rules.specs.Client.{Client}
use Rattle.node_client.specs.declared.finished.Finished.{Finished}
use Rattle.node_client.specs.declared.finished.Told.{Told}
use Rattle.node_client.specs.declared.peers.Peers.{Peers}
use Rattle.node_client.specs.declared.stop.Stop.TheVariants as stop
use Rattle.node_client.specs.Talks.{Talk, TalksOn}
use Rattle.node_client.specs.Steps.{Ending, told_in}
use Rattle.node_client.specs.Work.{Comes, line_of, WorkState, WorksAll, StopsAt}
use Rattle.client_core.specs.declared.progress.Outcome.TheVariants as outcome
use Rattle.client_core.specs.declared.request.Request.{Request as Asked}
use Rattle.client_core.specs.Requests.{plain_request}
use Rattle.node_client.specs.declared.finished.Told.TheVariants as told
use Rattle.client_run.specs.declared.cut.Cut.{Cut}
use Rattle.client_run.specs.declared.cut.Cut.TheVariants as cuts
use Rattle.client_run.specs.declared.cut.Untold.{Untold}
use Rattle.client_run.specs.declared.cut.Untold.TheVariants as untold
use Rattle.client_run.specs.declared.telling.Until.{Until}
use Rattle.client_run.specs.declared.telling.Until.TheVariants as until
use Rattle.client_run.specs.declared.worker.Worker.{Worker}
use Rattle.client_run.specs.Texts.{outcome_line}

-- ---- moments

-- what a net tells of its calls and a sink of its bytes, at one moment
pub record Moment : Type 0 where
  pub calls : Option (List Call)
  pub written : Option (List ℕ)

abbrev pub moment : (net out : Seen) → Moment
moment net out = record { calls = net.calls; written = out.written }

-- from one moment to another these exchanges were made and no other call, and these bytes went out
pub record Passed (peers : Peers) (made : List Talk) (bytes : List ℕ) (before now : Moment) : Type 0 where
  pub calls : TalksOn peers made before.calls now.calls
  pub written : Took before.written now.written bytes

-- a sink took these bytes, and behind them a front of what was next
pub record TookPart (sure next : List ℕ) (old new : Option (List ℕ)) : Type 0 where
  pub front : List ℕ
  pub rest : List ℕ
  pub cut : next ≡ front ++ rest
  pub took : Took old new (sure ++ front)

-- likewise beside these exchanges
pub record PassedPart (peers : Peers) (made : List Talk) (sure next : List ℕ) (before now : Moment) : Type 0
  where
    pub calls : TalksOn peers made before.calls now.calls
    pub written : TookPart sure next before.written now.written

-- ---- one request

-- a client that has no request, with room for a message
pub record IsReady (w : Worker) : Type 0 where
  pub idle : w.client.current ≡ None
  pub width : length w.message.items ≡ w.client.width

-- the line went out, or it found no memory, or the sink failed after a front of it
abbrev pub PutsLine : List ℕ → Result Unit Untold → Option (List ℕ) → Option (List ℕ) → Type 0
PutsLine line (Ok done) old new = Took old new line
PutsLine line (Err untold.NoMemory) old new = new ≡ old
PutsLine line (Err untold.Unwritten) old new = TookPart [] line old new

-- By how it ended: the request came to its end and its line went out; it stopped the work; or it came to its
-- end, and its line found no memory or went out in part.
abbrev pub TellsOne : Peers → ℕ → Client → Request → Client → Result Told Cut → Moment → Moment → Type 0
TellsOne peers number old r new (Ok told) before now =
    (made : List Talk) × (end : Ending) × Comes old r new made (Ok end) × (told ≡ told_in end)
    × Passed peers made (outcome_line (line_of number end)) before now
TellsOne peers number old r new (Err cuts.Broken) before now = ⊥
TellsOne peers number old r new (Err (cuts.Stopped why)) before now =
    (made : List Talk) × Comes old r new made (Err why) × Passed peers made [] before now
TellsOne peers number old r new (Err (cuts.Untold untold.NoMemory)) before now =
    (made : List Talk) × (end : Ending) × Comes old r new made (Ok end) × Passed peers made [] before now
TellsOne peers number old r new (Err (cuts.Untold untold.Unwritten)) before now =
    (made : List Talk) × (end : Ending) × Comes old r new made (Ok end)
    × PassedPart peers made [] (outcome_line (line_of number end)) before now

abbrev pub TellsNext : (old new : Worker) → ℕ → Asked → Result Told Cut → Moment → Moment → Type 0
TellsNext old new number r result before now =
    TellsOne old.peers number old.client (plain_request r) new.client result before now

-- ---- faults

-- the net's count rose where a fault of it stopped the work, and only there
abbrev pub CutFault : {A : Type 0} → Result A Cut → (before now : ℕ) → Type 0
CutFault (Err (cuts.Stopped (stop.Fault count))) before now = Rose before now × (count ≡ now)
CutFault other before now = now ≡ before

-- the sink's count rose where a text went out in part, and only there
abbrev pub PutSink : {A : Type 0} → Result A Untold → (before now : ℕ) → Type 0
PutSink (Err untold.Unwritten) before now = Rose before now
PutSink other before now = now ≡ before

abbrev pub CutSink : {A : Type 0} → Result A Cut → (before now : ℕ) → Type 0
CutSink (Err (cuts.Untold untold.Unwritten)) before now = Rose before now
CutSink other before now = now ≡ before

-- ---- requests one after another

-- an end with which a carrier goes on: an accepted write or a message
abbrev pub carries : Told → Bool
carries (told.Done outcome.Accepted) = true
carries (told.Done outcome.Message) = true
carries other = false

-- an end of a request with which the work goes on
abbrev pub goes_on : Until → Told → Bool
goes_on until.Last told = true
goes_on until.Broken told = carries told

abbrev pub AllGoOn : Until → List Finished → Type 0
AllGoOn until finished = AllPass (λ f. goes_on until f.told) finished

abbrev pub lines_of : List Finished → List ℕ
lines_of finished = flat_map outcome_line finished

-- requests came to their ends one after another, of which this was told of the last
pub record IsLast (start : Client) (requests : List Request) (s : WorkState) (others : List Finished)
    (last : Finished) : Type 0 where
  pub asked : List Request
  pub behind : List Request
  pub all : requests ≡ asked ++ behind
  pub works : WorksAll start asked s
  pub finished : s.finished ≡ others ++ last ∷ []

-- By how it ended, what was done and told of these requests.
abbrev pub TellsOff : Peers → Until → Client → List Request → Result Unit Cut → Moment → Moment → Type 0
TellsOff peers until start requests (Ok done) before now =
    (s : WorkState) × WorksAll start requests s × AllGoOn until s.finished
    × Passed peers s.made (lines_of s.finished) before now
TellsOff peers until start requests (Err cuts.Broken) before now =
    (s : WorkState) × (others : List Finished) × (last : Finished) × IsLast start requests s others last
    × AllGoOn until others × (goes_on until last.told ≡ false)
    × Passed peers s.made (lines_of s.finished) before now
TellsOff peers until start requests (Err (cuts.Stopped why)) before now =
    (s : WorkState) × StopsAt start requests s why × AllGoOn until s.finished
    × Passed peers s.made (lines_of s.finished) before now
TellsOff peers until start requests (Err (cuts.Untold untold.NoMemory)) before now =
    (s : WorkState) × (others : List Finished) × (last : Finished) × IsLast start requests s others last
    × AllGoOn until others × Passed peers s.made (lines_of others) before now
TellsOff peers until start requests (Err (cuts.Untold untold.Unwritten)) before now =
    (s : WorkState) × (others : List Finished) × (last : Finished) × IsLast start requests s others last
    × AllGoOn until others × PassedPart peers s.made (lines_of others) (outcome_line last) before now

abbrev pub TellsAll : Worker → Until → List Asked → Result Unit Cut → Moment → Moment → Type 0
TellsAll worker until requests result before now =
    TellsOff worker.peers until worker.client (map plain_request requests) result before now
