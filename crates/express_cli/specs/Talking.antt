-- What comes of a command over a net, by the settings that are its input.
use Rattle.std.specs.Prelude.{◌≡◌, ◌⊎◌, ℕ, Bool, List, [], ◌++◌, length}
use Rattle.std.specs.Prelude.{Result, Ok, Err}
use Rattle.express_words.specs.Calls.{Listened, Adds}
use Rattle.express_words.specs.Streams.{Took}
use Rattle.settings_text.specs.Tables.{judged}
use Rattle.settings_text.specs.Serve.{serve_of}
use Rattle.settings_text.specs.Client.{client_of}
use Rattle.settings_text.specs.Carry.{carry_of}
use Rattle.settings_text.specs.declared.serve.ServeSettings.{ServeSettings}
use Rattle.settings_text.specs.declared.client.ClientSettings.{ClientSettings}
use Rattle.settings_text.specs.declared.carry.CarryJob.{CarryJob}
use Rattle.settings_text.specs.declared.carry.CarryJob.TheVariants.{Send, Fetch}
use Rattle.settings_text.specs.declared.carry.CarrySettings.{CarrySettings}
use Rattle.node_serve.specs.declared.node.Node.{Node}
use Rattle.node_serve.specs.Logs.{Log}
use Rattle.node_serve.specs.Moved.{Moved}
use Rattle.node_serve.specs.KeptOpening.{IsOpened}
use Rattle.node_exchange.specs.Exchanging.{ClosedAtEnd, EndsShort}
use Rattle.node_serve.specs.NoLog.{node_log}
use Rattle.node_client.specs.declared.finished.Finished.{Finished}
use Rattle.node_client.specs.declared.peers.Peers.{Peers}
use Rattle.node_client.specs.Talks.{TalksOn}
use Rattle.node_client.specs.Work.{WorkState}
use Rattle.client_run.specs.Accounts.{AreAt}
use Rattle.client_run.specs.Runs.{RunFault, Plan, EndSaid, CameTo, ClientEnded, client_plan}
use Rattle.client_run.specs.Carries.{CarryRuns, FetchedPart, SendEnded, carry_plan}
use Rattle.client_run.specs.Telling.{TookPart, lines_of}
use Rattle.client_run.specs.declared.cut.Untold.{Untold}
use Rattle.client_run.specs.declared.cut.Untold.TheVariants as untold
use Rattle.client_run.specs.declared.ran.Ran.{Ran}
use Rattle.client_run.specs.declared.ran.RunEnd.{RunEnd}
use Rattle.client_run.specs.declared.ran.RunEnd.TheVariants as run
use Rattle.express_cli.specs.Around.{Around, Seen}
use Rattle.express_cli.specs.Door.{DoorMay, NeverMay, Tells, doorway_of, listening}
use Rattle.express_cli.specs.Ends.{BadKeyMay, Prints, Said, SaidWanting, out_of_memory_text}
use Rattle.express_cli.specs.declared.words.NetCommand.{NetCommand}
use Rattle.express_cli.specs.declared.words.NetCommand.TheVariants.{Serve, Client, Carry}
use Rattle.express_cli.specs.declared.ends.End.{End}
use Rattle.express_cli.specs.declared.ends.End.TheVariants as ends

-- ---- the net

-- nothing was done with the net
abbrev pub IsStill : Around → Type 0
IsStill net = net.now ≡ net.before

-- Nothing was done with the net; or if the connection that was closed last is whole and gave less than a
-- frame, it had nothing left.
abbrev pub LeftNothing : Around → Type 0
LeftNothing net = IsStill net
    ⊎ (EndsShort net.now.calls → (conn : Seen) × net.shown conn × ClosedAtEnd net.now.calls conn)

-- memory was wanting before any call on the net, and nothing else is told
abbrev pub WantsFirst : Around → List ℕ → Type 0
WantsFirst net text = (text ≡ out_of_memory_text) × IsStill net

-- How work ends and what it may come to; where the sink failed, whether nothing was done with the net or so
-- much was told; and what it leaves.
pub record Talks (May : End → List ℕ → Type 0) (Breaks Leaves : Type 0) (net : Around) (old new : Seen)
    (end : End) : Type 0 where
  pub comes : Prints May old new end
  pub in_time : end ≡ ends.WriteFault → IsStill net ⊎ Breaks
  pub leaves : Leaves

-- ---- work by settings

-- A duty is work over a net by settings: how these are read; what may come of it by them; where the sink
-- failed, what had been done or told by then; and where nothing was done.
pub record Duty : Type 1 where
  pub Settings : Type 0
  pub read : List ℕ → Result Settings (List ℕ)
  pub May : Settings → Around → End → List ℕ → Type 0
  pub Breaks : Settings → Around → (old new : Seen) → Type 0
  pub Rests : Around → Type 0

-- the first bad key of what was read is named, unless memory is wanting
abbrev pub MisspeltMay : {A : Type 0} → Result A (List ℕ) → End → List ℕ → Type 0
MisspeltMay read end text =
    ((key : List ℕ) × (read ≡ Err key) × BadKeyMay key end text) ⊎ SaidWanting end text

-- What may come of these bytes: of the settings that they spell; or nothing was done.
abbrev pub MayBy : Duty → List ℕ → Around → End → List ℕ → Type 0
MayBy duty bytes net end text =
    ((settings : duty.Settings) × (duty.read bytes ≡ Ok settings) × duty.May settings net end text)
    ⊎ (duty.Rests net × MisspeltMay (duty.read bytes) end text)

-- what had been done or told by the settings that they spell
abbrev pub BreaksBy : Duty → List ℕ → Around → (old new : Seen) → Type 0
BreaksBy duty bytes net old new =
    (settings : duty.Settings) × (duty.read bytes ≡ Ok settings) × duty.Breaks settings net old new

-- how work on these bytes ends
abbrev pub EndsBy : Duty → List ℕ → (Leaves : Type 0) → Around → (old new : Seen) → End → Type 0
EndsBy duty bytes Leaves net old new end =
    Talks (MayBy duty bytes net) (BreaksBy duty bytes net old new) Leaves net old new end

-- how work by these settings ends
abbrev pub Settled : (duty : Duty) → duty.Settings → (Leaves : Type 0) → Around → (old new : Seen) → End
    → Type 0
Settled duty settings Leaves net old new end =
    Talks (duty.May settings net) (duty.Breaks settings net old new) Leaves net old new end

-- ---- a server

-- what may come of a server of these settings: at its door, once it is opened from them and the seed; or
-- memory was wanting before
abbrev pub ServeMay : ServeSettings → Around → End → List ℕ → Type 0
ServeMay settings net end text =
    ((node left : Node) × IsOpened settings net.seed node
    × DoorMay node_log NeverMay settings (doorway_of net node left) end text)
    ⊎ (IsStill net × SaidWanting end text)

-- Where the sink failed a server of these settings had made no call but the listen, or had told before that
-- it listens.
abbrev pub ServeBreaks : ServeSettings → Around → (old new : Seen) → Type 0
ServeBreaks settings net old new =
    ((failed : Bool) × Adds net.before.calls net.now.calls (Listened settings.listen failed))
    ⊎ ((more : List ℕ) × Took old.written new.written (listening ++ more))

-- how a server of these settings ends at its door, with what is counted of its log
abbrev pub DoorEnds : {S F : Type 0} → Log S F → Tells F → ServeSettings → Around → Moved S
    → (Counts : Type 0) → (out : Moved Seen) → End → Type 0
DoorEnds log tells settings net server Counts out end =
    Talks (DoorMay log tells settings (doorway_of net server.old server.new))
    (ServeBreaks settings net out.old out.new) Counts net out.old out.new end

abbrev pub server : Duty
server = record {
  Settings = ServeSettings;
  read = judged serve_of;
  May = ServeMay;
  Breaks = ServeBreaks;
  Rests = IsStill;
}

-- ---- work that is told as it goes

-- how the program ends after such a run
abbrev pub end_by : RunEnd → End
end_by run.Done = ends.Done
end_by run.NetFault = ends.NetFault

-- what is said of a run: its text; that memory was wanting for the next; or nothing, since the sink failed
abbrev pub SaysRun : Result Ran Untold → (old new : Seen) → End → Type 0
SaysRun (Ok ran) old new end = Prints (Said (end_by ran.end) ran.text) old new end
SaysRun (Err untold.NoMemory) old new end = Prints SaidWanting old new end
SaysRun (Err untold.Unwritten) old new end = (end ≡ ends.WriteFault) × (new ≡ old)

-- A plan's work ended, and all of it is told, with what is said of its end; the net's count rose only where a
-- fault of the net ended it.
pub record PlanRan (Ended : Plan → EndSaid) (plan : Plan) (net : Around) (end : End) (text : List ℕ) : Type 0
  where
    pub stand : WorkState
    pub told : List Finished
    pub last : List ℕ
    pub by : RunEnd
    pub is_ended : Ended plan stand told last by
    pub peers : Peers
    pub at : AreAt peers plan.leader plan.helper
    pub calls : TalksOn peers stand.made net.before.calls net.now.calls
    pub fault : RunFault by net.before.faults net.now.faults
    pub says : Said (end_by by) (lines_of told ++ last) end text

-- so it came, or memory was wanting for the text that was next: that is told, behind all that was told before
abbrev pub PlanMay : (Plan → EndSaid) → Plan → Around → End → List ℕ → Type 0
PlanMay Ended plan net end text =
    PlanRan Ended plan net end text
    ⊎ ((told : List Finished) × (next : List ℕ)
    × CameTo plan (Ended plan) told next net.before.calls net.now.calls
    × Said ends.OutOfMemory (lines_of told ++ out_of_memory_text) end text)

-- The sink failed after a front of the text that was next, or of that memory was wanting for it; all that was
-- told before went out.
abbrev pub PlanBreaks : (Plan → EndSaid) → Plan → Around → (old new : Seen) → Type 0
PlanBreaks Ended plan net old new =
    (told : List Finished) × (next : List ℕ)
    × CameTo plan (Ended plan) told next net.before.calls net.now.calls
    × (TookPart (lines_of told) next old.written new.written
    ⊎ TookPart (lines_of told) out_of_memory_text old.written new.written)

-- ---- a client

-- what may come of a client of these settings
abbrev pub ClientMay : ClientSettings → Around → End → List ℕ → Type 0
ClientMay settings net end text = PlanMay ClientEnded (client_plan settings net.seed) net end text

abbrev pub client : Duty
client = record {
  Settings = ClientSettings;
  read = judged client_of;
  May = ClientMay;
  Breaks = λ settings net old new. PlanBreaks ClientEnded (client_plan settings net.seed) net old new;
  Rests = IsStill;
}

-- ---- a carrier

-- To send is told as a client's requests are. Of a fetch nothing is told before its end: where memory was
-- wanting, the boxes of a part of its work were read, in order, and that is all that was done.
abbrev pub JobMay : CarryJob → CarrySettings → Around → End → List ℕ → Type 0
JobMay (Send id file addresses) settings net end text =
    PlanMay (SendEnded (length addresses)) (carry_plan settings net.seed) net end text
JobMay Fetch settings net end text =
    ((by : RunEnd) × CarryRuns settings net.seed net.before.calls net.now.calls text by
    × RunFault by net.before.faults net.now.faults × (end ≡ end_by by))
    ⊎ (FetchedPart (carry_plan settings net.seed) net.before.calls net.now.calls × SaidWanting end text)

-- The sink failed after a front of the text of what was fetched; or of that memory was wanting for it, when a
-- part of the work was done.
abbrev pub FetchBreaks : CarrySettings → Around → (old new : Seen) → Type 0
FetchBreaks settings net old new =
    ((text : List ℕ) × (by : RunEnd) × CarryRuns settings net.seed net.before.calls net.now.calls text by
    × TookPart [] text old.written new.written)
    ⊎ (FetchedPart (carry_plan settings net.seed) net.before.calls net.now.calls
    × TookPart [] out_of_memory_text old.written new.written)

abbrev pub JobBreaks : CarryJob → CarrySettings → Around → (old new : Seen) → Type 0
JobBreaks (Send id file addresses) settings net old new =
    PlanBreaks (SendEnded (length addresses)) (carry_plan settings net.seed) net old new
JobBreaks Fetch settings net old new = FetchBreaks settings net old new

-- what may come of a carrier of these settings
abbrev pub CarryMay : CarrySettings → Around → End → List ℕ → Type 0
CarryMay settings net end text = JobMay settings.job settings net end text

abbrev pub carrier : Duty
carrier = record {
  Settings = CarrySettings;
  read = judged carry_of;
  May = CarryMay;
  Breaks = λ settings net old new. JobBreaks settings.job settings net old new;
  Rests = IsStill;
}

-- ---- a command

abbrev pub duty_of : NetCommand → Duty
duty_of Serve = server
duty_of Client = client
duty_of Carry = carrier

-- these bytes spell these settings of the command
abbrev pub Spells : (command : NetCommand) → (duty_of command).Settings → List ℕ → Type 0
Spells command settings bytes = (duty_of command).read bytes ≡ Ok settings

-- this is the first key of the command's settings that is missing or wrong
abbrev pub IsBadKey : NetCommand → List ℕ → List ℕ → Type 0
IsBadKey command key bytes = (duty_of command).read bytes ≡ Err key

-- what the command's work on these bytes may come to
abbrev pub TalkMay : NetCommand → List ℕ → Around → End → List ℕ → Type 0
TalkMay command bytes net end text = MayBy (duty_of command) bytes net end text

-- a client and a carrier leave nothing; of a server it is said connection by connection, in each visit
abbrev pub LeavesNothing : NetCommand → Around → Type 0
LeavesNothing Serve net = Unit {0}
LeavesNothing other net = LeftNothing net

-- how the command's work on these bytes ends
abbrev pub TalkEnds : NetCommand → List ℕ → Around → (old new : Seen) → End → Type 0
TalkEnds command bytes net old new end =
    EndsBy (duty_of command) bytes (LeavesNothing command net) net old new end
