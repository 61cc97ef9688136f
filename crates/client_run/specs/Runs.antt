-- The run of a client over a net, and the text that it prints.
use Rattle.std.specs.Prelude.{◌≡◌, ℕ, List, [], ◌++◌, map, flat_map, Option, Result, Ok, Err}
use Rattle.express_words.specs.Causes.{Rose}
use Rattle.express_words.specs.Calls.{Call}
use Rattle.express_words.specs.Streams.{Took}
use Rattle.mailbox_rules.specs.Requests.{Request}
use Rattle.client_core.specs.declared.request.Request.{Request as Asked}
use Rattle.client_core.specs.Requests.{plain_request}
use Rattle.step_rules.specs.Client.{Client}
use Rattle.node_client.specs.declared.finished.Finished.{Finished}
use Rattle.node_client.specs.declared.peers.Peers.{Peers}
use Rattle.node_client.specs.declared.stop.Stop.{Stop}
use Rattle.node_client.specs.declared.stop.Stop.TheVariants.{Fault}
use Rattle.node_client.specs.Talks.{TalksOn}
use Rattle.node_client.specs.Work.{WorkState, WorksAll, WorksOff}
use Rattle.settings_text.specs.declared.client.ClientSettings.{ClientSettings}
use Rattle.client_run.specs.declared.cut.Untold.{Untold}
use Rattle.client_run.specs.declared.cut.Untold.TheVariants as untold
use Rattle.client_run.specs.declared.ran.Ran.{Ran}
use Rattle.client_run.specs.declared.ran.RunEnd.{RunEnd}
use Rattle.client_run.specs.declared.ran.RunEnd.TheVariants.{Done, NetFault}
use Rattle.client_run.specs.declared.worker.Worker.{Worker}
use Rattle.client_run.specs.Accounts.{client_account, opened, request_of, AreAt}
use Rattle.client_run.specs.Telling.{Moment, Passed, PassedPart, IsLast, lines_of}
use Rattle.client_run.specs.Texts.{outcome_line, end_line}

-- ---- ends

-- a run ends by a fault of the net where an exchange of the work failed
abbrev pub end_of : Result Unit Stop → RunEnd
end_of (Err (Fault count)) = NetFault
end_of other = Done

-- the net's count rose where the run ended by a fault of the net, and only there
abbrev pub RunFault : RunEnd → (before now : ℕ) → Type 0
RunFault NetFault before now = Rose before now
RunFault Done before now = now ≡ before

-- ---- how far a run came that is told as it goes

-- whose requests are worked off: a client's, and where its servers are
pub record Plan : Type 0 where
  pub start : Client
  pub requests : List Request
  pub leader : List ℕ
  pub helper : List ℕ

-- the requests of a client at these servers
abbrev pub plan_at : Peers → Client → List Request → Plan
plan_at peers start requests = record {
  start = start;
  requests = requests;
  leader = peers.leader.now;
  helper = peers.helper.now;
}

abbrev pub plan_of : Worker → List Asked → Plan
plan_of worker requests = plan_at worker.peers worker.client (map plain_request requests)

-- what is said of an end: where the work stands then, what is told, the text that is next, and the run's end
abbrev pub EndSaid : Type 1
EndSaid = WorkState → List Finished → List ℕ → RunEnd → Type 0

-- What is told of a plan's requests, and the text that is next: all that came to their ends are told, and
-- none is under way; all but the last of them, whose line is next; or the work ended, all are told, and what
-- is said of its end is next.
pub data IsNext (plan : Plan) (Ended : EndSaid) (s : WorkState) : List Finished → List ℕ → Type 0 where
  between : (asked behind : List Request) → plan.requests ≡ asked ++ behind → WorksAll plan.start asked s →
      IsNext plan Ended s s.finished []
  outcome : (told : List Finished) (last : Finished) → IsLast plan.start plan.requests s told last →
      IsNext plan Ended s told (outcome_line last)
  ended : (told : List Finished) (text : List ℕ) (end : RunEnd) → Ended s told text end →
      IsNext plan Ended s told text

-- So far a plan's work came, by the exchanges that were made for it and no other call on the net.
pub record CameTo (plan : Plan) (Ended : EndSaid) (told : List Finished) (next : List ℕ)
    (before now : Option (List Call)) : Type 0 where
  pub stand : WorkState
  pub is_next : IsNext plan Ended stand told next
  pub peers : Peers
  pub at : AreAt peers plan.leader plan.helper
  pub calls : TalksOn peers stand.made before now

-- The work ended, this is told of it, and this is said of its end, which isn't told yet.
pub record EndsWith (plan : Plan) (Ended : EndSaid) (ran : Ran) (before now : Moment) : Type 0 where
  pub stand : WorkState
  pub told : List Finished
  pub is_ended : Ended stand told ran.text ran.end
  pub peers : Peers
  pub at : AreAt peers plan.leader plan.helper
  pub passed : Passed peers stand.made (lines_of told) before now

-- The last request that came to its end isn't told: the sink failed after a front of its line.
pub record BreaksInLine (plan : Plan) (before now : Moment) : Type 0 where
  pub stand : WorkState
  pub told : List Finished
  pub last : Finished
  pub is_last : IsLast plan.start plan.requests stand told last
  pub peers : Peers
  pub at : AreAt peers plan.leader plan.helper
  pub passed : PassedPart peers stand.made (lines_of told) (outcome_line last) before now

-- by whether what is said of the end could be had, or memory or the sink was wanting before
abbrev pub Comes : (plan : Plan) → EndSaid → Result Ran Untold → Moment → Moment → Type 0
Comes plan Ended (Ok ran) before now = EndsWith plan Ended ran before now
Comes plan Ended (Err untold.NoMemory) before now =
    (told : List Finished) × (next : List ℕ) × CameTo plan Ended told next before.calls now.calls
    × Took before.written now.written (lines_of told)
Comes plan Ended (Err untold.Unwritten) before now = BreaksInLine plan before now

-- ---- a client

abbrev pub client_plan : ClientSettings → List ℕ → Plan
client_plan settings seed = record {
  start = opened (client_account settings seed);
  requests = map request_of settings.requests;
  leader = settings.leader;
  helper = settings.helper;
}

-- all that came to their ends are told, and this is said of how the work ended
abbrev pub ClientEnded : Plan → WorkState → List Finished → List ℕ → RunEnd → Type 0
ClientEnded plan s told text end =
    (worked : Result Unit Stop) × WorksOff plan.start plan.requests s worked
    × (told ≡ s.finished) × (text ≡ end_line worked) × (end ≡ end_of worked)

-- a line for each request that came to its end, and the last line
abbrev pub client_text : List Finished → Result Unit Stop → List ℕ
client_text finished end = flat_map outcome_line finished ++ end_line end

-- The client of the settings works their requests off by exchanges with their servers, in order and with no
-- call on the net beside them; the text and the end are those of this work.
pub record ClientRuns (settings : ClientSettings) (seed : List ℕ) (before now : Option (List Call))
    (text : List ℕ) (end : RunEnd) : Type 0 where
  pub stand : WorkState
  pub worked : Result Unit Stop
  pub works : WorksOff (opened (client_account settings seed)) (map request_of settings.requests) stand worked
  pub peers : Peers
  pub at : AreAt peers settings.leader settings.helper
  pub calls : TalksOn peers stand.made before now
  pub prints : text ≡ client_text stand.finished worked
  pub ends : end ≡ end_of worked

abbrev pub ClientComes : ClientSettings → List ℕ → Result Ran Untold → Moment → Moment → Type 0
ClientComes settings seed result before now =
    Comes (client_plan settings seed) (ClientEnded (client_plan settings seed)) result before now
