-- What may come of a server at its door, whatever keeps its frames: its log, and what is told where the log
-- refuses one.
use Rattle.std.specs.Prelude.{◌≡◌, ◌⊎◌, false, true, List, ℕ, ◌++◌, codes, Result, Ok, Err}
use Rattle.express_words.specs.Calls.{Listened, Adds}
use Rattle.express_words.specs.Causes.{Rose}
use Rattle.settings_text.specs.declared.serve.ServeSettings.{ServeSettings}
use Rattle.node_serve.specs.Hosting.{Hosts, halt_in}
use Rattle.node_serve.specs.Logs.{Log}
use Rattle.node_serve.specs.Tallies.{tally_text}
use Rattle.node_serve.specs.Visits.{DoorBy, LogBy, Standing, standing}
use Rattle.node_serve.specs.declared.never.Never.{Never}
use Rattle.node_serve.specs.declared.stop.Halt.{Halt}
use Rattle.node_serve.specs.declared.stop.Halt.TheVariants as halt
use Rattle.node_serve.specs.declared.stop.Stop.{Stop}
use Rattle.node_serve.specs.declared.tally.Tally.{Tally}
use Rattle.express_cli.specs.Around.{Around, Seen}
use Rattle.express_cli.specs.Ends.{Said, SaidOrWants, net_fault_text}
use Rattle.express_cli.specs.declared.ends.End.{End}
use Rattle.express_cli.specs.declared.ends.End.TheVariants.{Done, NetFault, WriteFault}

-- a server and its net before it served and now, and what the net's connections may show
pub record Doorway (S : Type 0) : Type 1 where
  pub shown : Seen → Type 0
  pub old : Standing S
  pub new : Standing S

abbrev pub doorway_of : {S : Type 0} → Around → (old new : S) → Doorway S
doorway_of net old new =
    record { shown = net.shown; old = standing old net.before; new = standing new net.now }

abbrev pub listening : List ℕ
listening = codes "listening\n"

-- what is told of a fault of the log, and how the run ends then
abbrev pub Tells : Type 0 → Type 1
Tells F = F → End → List ℕ → Type 0

-- so of a log that refuses none
abbrev pub NeverMay : Tells Never
NeverMay why end text = ⊥

-- what is said at its end: how many connections had each answer, unless memory is wanting for its line; or
-- why it ended early
abbrev pub ServedSays : {F : Type 0} → Tells F → Result Tally (Halt F) → End → List ℕ → Type 0
ServedSays tells (Ok tally) end text = SaidOrWants Done (tally_text tally ++ codes "\n") end text
ServedSays tells (Err halt.Door) end text = Said NetFault net_fault_text end text
ServedSays tells (Err (halt.Log fault)) end text = tells fault end text

-- it ended at the door, or at one of these faults of the log
abbrev pub EndsAtFirst : {F : Type 0} → (F → Type 0) → Halt F → Type 0
EndsAtFirst first halt.Door = Unit {0}
EndsAtFirst first (halt.Log fault) = first fault

-- what is said then of the log's count of failures
abbrev pub HaltCounts : {F : Type 0} → (F → ℕ → ℕ → Type 0) → Halt F → (before now : ℕ) → Type 0
HaltCounts rises h before now = LogBy {T = Tally} rises (Err h) before now

-- All connections of the settings were served; or an accept failed, or the log refused a frame, which ended
-- the run: no answer went out to its connection.
pub record Served {S F : Type 0} (log : Log S F) (tells : Tells F) (settings : ServeSettings)
    (door : Doorway S) (end : End) (text : List ℕ) : Type 0 where
  pub result : Result Tally (Stop F)
  pub hosts : Hosts log settings.peer door.shown settings.connections door.old door.new result
  pub doors : DoorBy (halt_in result) door.old.net.doors door.new.net.doors
  pub says : ServedSays tells (halt_in result) end text

-- what may come of a server of these settings at a door
abbrev pub AtDoorway : Type 0 → Type 0 → Type 1
AtDoorway S F = Log S F → Tells F → ServeSettings → Doorway S → End → List ℕ → Type 0

-- It told that it listens, and then serving came to this; or the sink failed there, and nothing was served.
abbrev pub ListeningMay : {S F : Type 0} → AtDoorway S F
ListeningMay log tells settings door end text =
    ((said : List ℕ) × Served log tells settings door end said × (text ≡ listening ++ said))
    ⊎ ((door.new ≡ door.old) × Said WriteFault listening end text)

-- It listened where its settings say, was to tell so, and serving came to this.
pub record Hosted {S F : Type 0} (log : Log S F) (tells : Tells F) (settings : ServeSettings)
    (door : Doorway S) (end : End) (text : List ℕ) : Type 0 where
  pub at_door : Seen
  pub listens : Adds door.old.net.calls at_door.calls (Listened settings.listen false)
  pub faults : at_door.faults ≡ door.old.net.faults
  pub doors : at_door.doors ≡ door.old.net.doors
  pub served : ListeningMay log tells settings (record door { old = standing door.old.server at_door })
      end text

-- Its listen failed: no other call was made, and nothing was kept.
pub record ListenFailed {S : Type 0} (settings : ServeSettings) (door : Doorway S) (end : End)
    (text : List ℕ) : Type 0 where
  pub call : Adds door.old.net.calls door.new.net.calls (Listened settings.listen true)
  pub doors : Rose door.old.net.doors door.new.net.doors
  pub stays : door.new.server ≡ door.old.server
  pub says : Said NetFault net_fault_text end text

-- where the door isn't open yet
abbrev pub DoorMay : {S F : Type 0} → AtDoorway S F
DoorMay log tells settings door end text =
    Hosted log tells settings door end text ⊎ ListenFailed settings door end text
