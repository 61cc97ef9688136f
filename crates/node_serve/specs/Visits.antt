-- Visits: connections at a server's door, each from its accept to its close.
use Rattle.std.specs.Prelude.{◌≡◌, ◌≢◌, ℕ, ◌≤◌, ◌==◌, true, false, List, [], ◌∷◌, ◌++◌, Option, Some, None}
use Rattle.std.specs.Prelude.{Result, Ok, Err}
use Rattle.express_words.specs.Causes.{Rose, next}
use Rattle.express_words.specs.Seen.{Seen}
use Rattle.express_words.specs.Streams.{Stream}
use Rattle.express_words.specs.Calls.{Call, Accepted, Closed}
use Rattle.frame_rules.specs.Gathering.{gathered}
use Rattle.frame_rules.specs.Reading.{decoded}
use Rattle.frame_rules.specs.declared.fault.FrameFault.TheVariants.{Short}
use Rattle.node_exchange.specs.Exchanging.{ClosedAtEnd, EndsShort, Makes}
use Rattle.node_exchange.specs.Taking.{IsWanted}
use Rattle.node_restart.specs.Frames.{Handed}
use Rattle.node_serve.specs.Draining.{FaultIn}
use Rattle.node_serve.specs.Handing.{IsHelp}
use Rattle.node_serve.specs.Logs.{Log}
use Rattle.node_serve.specs.Moved.{Moved, Calls, moved}
use Rattle.node_serve.specs.Own.{TellsOwn}
use Rattle.node_serve.specs.Serving.{IsCut, WritesTold, Answers, StopsShort}
use Rattle.node_serve.specs.declared.node.Served.{Served}
use Rattle.node_serve.specs.declared.node.Served.TheVariants as served
use Rattle.node_serve.specs.declared.stop.Halt.{Halt}
use Rattle.node_serve.specs.declared.stop.Halt.TheVariants as halt

-- A connection at the door, at its close: the bytes that it gave and, where it knew them, those that it had left,
-- the bytes that it took, its count of faults, and the calls that the server made on the net meanwhile.
pub record Contact : Type 0 where
  pub content : Stream
  pub taken : List ℕ
  pub faults : ℕ
  pub calls : List Call

-- what the server was handed: what was given,
-- up to the end of a frame or to the byte at which it is known to be none
abbrev pub handed : Contact → List ℕ
handed k = gathered [] k.content.given

-- one accept, the server's own calls, and one close
abbrev pub contact_calls : Contact → List Call
contact_calls k = Accepted false ∷ k.calls ++ Closed k.content.given k.taken (k.faults == 0) ∷ []

abbrev pub meanwhile : Contact → Calls
meanwhile k = moved (Some []) (Some k.calls)

-- a connection, what became of it, and the frames that the server was handed
pub record Visit : Type 0 where
  pub contact : Contact
  pub answer : Served
  pub frames : List Handed

abbrev pub visit_calls : Visit → List Call
visit_calls v = contact_calls v.contact

abbrev pub frames_of : Visit → List Handed
frames_of v = v.frames

-- where a server stands: it with its log, and what its net shows
pub record Standing (S : Type 0) : Type 0 where
  pub server : S
  pub net : Seen

abbrev pub standing : {S : Type 0} → S → Seen → Standing S
standing server net = record { server = server; net = net }

-- some connection shows this
abbrev pub Shown : {C : Type 0} → (C → Seen) → Seen → Type 0
Shown {C} shows seen = (conn : C) × (shows conn ≡ seen)

-- ---- the connection

-- A connection was of this content at its close, took these bytes and had this count of faults. Where the net
-- doesn't tell its calls now nothing is said.
abbrev pub ClosedAs : Option (List Call) → Stream → (taken : List ℕ) → ℕ → Option Stream → Option (List ℕ) → ℕ
    → Type 0
ClosedAs None stream taken count content written faults = Unit {0}
ClosedAs (Some calls) stream taken count content written faults =
    (content ≡ Some stream) × (written ≡ Some taken) × (faults ≡ count)

-- the net's calls up to the close of the connection, which isn't among them; where it tells them now
abbrev pub up_to_close : (before now : Option (List Call)) → Contact → Option (List Call)
up_to_close before None k = None
up_to_close None (Some now) k = None
up_to_close (Some before) (Some now) k = Some (before ++ Accepted false ∷ k.calls)

-- if the last of these calls closed a whole connection that gave less than a frame, it had nothing left
abbrev pub LinkAtEnd : (Seen → Type 0) → Option (List Call) → Type 0
LinkAtEnd shown calls = EndsShort calls → (link : Seen) × shown link × ClosedAtEnd calls link

-- A connection of the net showed this at its close. Never more was taken of it than was wanted, and the net's
-- calls are its own.
pub record IsContact (shown : Seen → Type 0) (k : Contact) (old new : Seen) : Type 0 where
  pub wanted : IsWanted k.content.given
  pub calls : Makes old.calls new.calls (contact_calls k)
  pub doors : new.doors ≡ old.doors
  pub conn : Seen
  pub shows : shown conn
  pub is : ClosedAs new.calls k.content k.taken k.faults conn.content conn.written conn.faults

-- ---- what a visit does

-- the connection ended or failed before what it gave was a frame or known to be none: nothing moved
pub record IsCutOff {S : Type 0} (v : Visit) (old new : S) : Type 0 where
  pub answer : IsCut v.answer (Some v.contact.content) 0 v.contact.faults
  pub stays : new ≡ old
  pub none : v.frames ≡ []
  pub calls : v.contact.calls ≡ []
  pub untold : v.contact.taken ≡ []

-- The server took its step with what it was handed, and its reply was written, which answers that very frame;
-- count is the net's count of faults then.
pub record IsStepped {S F : Type 0} (log : Log S F) (peer : List ℕ) (v : Visit) (server : Moved S) (count : ℕ)
    : Type 0 where
  pub answers : Answers log peer (handed v.contact) server (meanwhile v.contact) count v.answer
      (WritesTold v.answer (Some []) (Some v.contact.taken) 0 v.contact.faults)
  pub frames : v.frames ≡ answers.end.frames
  pub own : TellsOwn (log.core server.old) (handed v.contact) (meanwhile v.contact)
      (moved (Some []) (Some v.contact.taken))
  pub alone : IsHelp (log.core server.old) → v.contact.calls ≡ []

-- the net's count rises at the close of a connection that failed, and only then
pub record ClosesWith (faults before now : ℕ) : Type 0 where
  pub whole : faults ≡ 0 → now ≡ before
  pub broken : faults ≢ 0 → Rose before now

pub record IsVisit {S F : Type 0} (log : Log S F) (peer : List ℕ) (shown : Seen → Type 0) (v : Visit)
    (old new : Standing S) : Type 0 where
  pub contact : IsContact shown v.contact old.net new.net
  pub count : ℕ
  pub cut : decoded (handed v.contact) ≡ Err Short → IsCutOff v old.server new.server
  pub stepped : decoded (handed v.contact) ≢ Err Short
      → IsStepped log peer v (moved old.server new.server) count
  pub takes : log.takes old.server new.server v.frames
  pub link : FaultIn v.answer old.net.faults count
  pub close : ClosesWith v.contact.faults count new.net.faults
  -- where the helper's answer ended early, the connection to the helper had nothing left
  pub early : v.answer ≡ served.LinkBad
      → LinkAtEnd shown (up_to_close old.net.calls new.net.calls v.contact)

-- visits one after another
pub data Visits {S F : Type 0} (log : Log S F) (peer : List ℕ) (shown : Seen → Type 0) (start : Standing S)
    : List Visit → Standing S → Type 0 where
  none : Visits log peer shown start [] start
  then : (before : List Visit) (s : Standing S) (v : Visit) (now : Standing S)
      → Visits log peer shown start before s → IsVisit log peer shown v s now
      → Visits log peer shown start (before ++ v ∷ []) now

-- ---- no visit

-- an accept failed, which is a fault of the net and of its door, and no other call was made
pub record DoorFails {S : Type 0} (old new : Standing S) : Type 0 where
  pub stays : new.server ≡ old.server
  pub one_more : new.net.faults ≡ next old.net.faults
  pub doors : Rose old.net.doors new.net.doors
  pub calls : Makes old.net.calls new.net.calls (Accepted true ∷ [])

-- A visit that ended at a frame that the log refused for this fault: the connection took nothing, and had no
-- fault.
pub record IsRefusedVisit {S F : Type 0} (log : Log S F) (peer : List ℕ) (shown : Seen → Type 0)
    (k : Contact) (fault : F) (old new : Standing S) : Type 0 where
  pub contact : IsContact shown k old.net new.net
  pub short : StopsShort log peer (handed k) (moved old.server new.server) (meanwhile k) fault
  pub alone : IsHelp (log.core old.server) → k.calls ≡ []
  pub untold : k.taken ≡ []
  pub whole : k.faults ≡ 0
  pub faults : new.net.faults ≡ old.net.faults

-- ---- by how it ended

-- a visit of this answer, an accept that failed, or a visit at which the log refused a frame
abbrev pub VisitEnds : {S F : Type 0} → Log S F → List ℕ → (Seen → Type 0) → Result Served (Halt F)
    → (old new : Standing S) → Type 0
VisitEnds log peer shown (Ok answer) old new =
    (v : Visit) × (v.answer ≡ answer) × IsVisit log peer shown v old new
VisitEnds log peer shown (Err halt.Door) old new = DoorFails old new
VisitEnds log peer shown (Err (halt.Log fault)) old new =
    (last : Contact) × IsRefusedVisit log peer shown last fault old new

-- the count at the net's door rose where an accept failed, and stayed else
abbrev pub DoorBy : {T F : Type 0} → Result T (Halt F) → (before now : ℕ) → Type 0
DoorBy (Ok value) before now = now ≡ before
DoorBy (Err halt.Door) before now = Rose before now × (before ≤ now)
DoorBy (Err (halt.Log fault)) before now = now ≡ before

-- that of the log's failures is what its fault says, where it refused a frame, and stayed else
abbrev pub LogBy : {T F : Type 0} → (F → ℕ → ℕ → Type 0) → Result T (Halt F) → (before now : ℕ) → Type 0
LogBy rises (Ok value) before now = now ≡ before
LogBy rises (Err halt.Door) before now = now ≡ before
LogBy rises (Err (halt.Log fault)) before now = rises fault before now
