-- One step of a machine that is worked off at doors.
use Rattle.std.specs.Prelude.{◌≡◌, ◌⊎◌, ℕ, List, Option, Some, None, Result, Ok, Err}
use Rattle.express_words.specs.Calls.{Call}
use Rattle.express_words.specs.Causes.{Rose}
use Rattle.express_words.specs.Seen.{Seen}
use Rattle.express_words.specs.declared.role.Role.{Role}
use Rattle.express_words.specs.declared.role.Role.TheVariants.{Leader, Helper}
use Rattle.http_door.specs.Replies.{PlainReply, Busy, NotYours}
use Rattle.http_door.specs.Requests.{PlainRequest}
use Rattle.door_exchange.specs.Exchanging.{DoorExchange, ExchangeOn}
use Rattle.door_exchange.specs.declared.exchanging.Broken.{Broken}
use Rattle.door_exchange.specs.declared.exchanging.Broken.TheVariants as broken
use Rattle.kept_machine.specs.declared.fault.KeepFault.{KeepFault}
use Rattle.kept_machine.specs.Faults.{CountsFault}
use Rattle.kept_machine.specs.Keeps.{Keeps, sight}
use Rattle.kept_machine.specs.Kept.{KeptState}
use Rattle.kept_machine.specs.Machines.{Rules}
use Rattle.node_exchange.specs.Exchanging.{ClosedAtEnd}
use Rattle.node_journal.specs.Disk.{DiskSeen}
use Rattle.door_work.specs.Asking.{Asking, PlainNext, Rest, Note, Ask}
use Rattle.door_work.specs.declared.halt.Halt.{Halt}
use Rattle.door_work.specs.declared.halt.Halt.TheVariants as halt
use Rattle.door_work.specs.declared.places.Places.{Places}
use Rattle.door_work.specs.declared.stepping.Course.{Course}
use Rattle.door_work.specs.declared.stepping.Course.TheVariants as course

abbrev pub place_of : Places → Role → List ℕ
place_of places Leader = places.leader
place_of places Helper = places.helper

-- ---- an answer

-- what halts the work at an answer that doesn't bring the machine on
abbrev pub halt_at : Role → PlainReply → Halt
halt_at server Busy = halt.Busy server
halt_at server NotYours = halt.NotYours server
halt_at server reply = halt.Answer server

abbrev pub heard_by : Role → PlainReply → Option (List ℕ) → Result (List ℕ) Halt
heard_by server reply (Some bytes) = Ok bytes
heard_by server reply None = Err (halt_at server reply)

-- the record by which a machine hears what came of its request, or what halts the work there
abbrev pub came : {M : Type 0} → Asking M → M → Role → Result PlainReply Broken → Result (List ℕ) Halt
came asking m server (Ok reply) = heard_by server reply (asking.heard_as m reply)
came asking m server (Err why) = Err (halt.Unanswered server why)

-- The door of that server was asked this and nothing else was done on the net, and this came of it.
pub record AskedOn {M : Type 0} (asking : Asking M) (places : Places) (m : M) (to : Role)
    (request : PlainRequest) (result : Result (List ℕ) Halt) (before now : Option (List Call)) : Type 0 where
  pub exchange : DoorExchange
  pub asked : exchange.asked ≡ request
  pub calls : ExchangeOn (place_of places to) exchange before now
  pub came : result ≡ came asking m to exchange.answer

-- ---- a step

-- what is done in a step: a record of the machine's own is noted, or a server's door is asked
pub data Step : Type 0 where
  Noted : (record_bytes : List ℕ) → Step
  Asked : (to : Role) (exchange : DoorExchange) → Step

-- what is done is what the machine wants
abbrev pub wanted : Step → PlainNext
wanted (Noted bytes) = Note bytes
wanted (Asked to exchange) = Ask to exchange.asked

abbrev pub record_by : {M : Type 0} → Asking M → M → Step → Result (List ℕ) Halt
record_by asking m (Noted bytes) = Ok bytes
record_by asking m (Asked to exchange) = came asking m to exchange.answer

-- what a step does on a net
abbrev pub DoneOn : Places → Step → Option (List Call) → Option (List Call) → Type 0
DoneOn places (Noted bytes) before now = now ≡ before
DoneOn places (Asked to exchange) before now = ExchangeOn (place_of places to) exchange before now

abbrev pub kept_so : Result (Unit {0}) KeepFault → Result Course Halt
kept_so (Ok done) = Ok course.GoesOn
kept_so (Err fault) = Err (halt.Keep fault)

-- The record is kept before its step is taken.
pub record KeepsRecord {M D : Type 0} (rules : Rules M) (shows : D → DiskSeen) (counts : D → Seen)
    (bytes : List ℕ) (old new : KeptState M D) (result : Result Course Halt) : Type 0 where
  pub kept : Result (Unit {0}) KeepFault
  pub keeps : Keeps rules bytes (sight shows counts old) (sight shows counts new) kept
  pub told : result ≡ kept_so kept

-- the record is kept, and where there is none the machine stays as it was
abbrev pub KeepsBy : {M D : Type 0} → Rules M → (D → DiskSeen) → (D → Seen) → Result (List ℕ) Halt
    → (old new : KeptState M D) → Result Course Halt → Type 0
KeepsBy rules shows counts (Ok bytes) old new result = KeepsRecord rules shows counts bytes old new result
KeepsBy rules shows counts (Err why) old new result = (new ≡ old) × (result ≡ Err why)

-- What the machine wanted was done, and the record of it was to be kept.
pub record Does {M D : Type 0} (rules : Rules M) (asking : Asking M) (places : Places)
    (shows : D → DiskSeen) (counts : D → Seen) (old new : KeptState M D) (result : Result Course Halt)
    (before now : Option (List Call)) : Type 0 where
  pub step : Step
  pub is_step : asking.next_of old.machine ≡ wanted step
  pub calls : DoneOn places step before now
  pub keeps : KeepsBy rules shows counts (record_by asking old.machine step) old new result

-- The machine wanted nothing, and nothing was done.
pub record AtRest {M D : Type 0} (asking : Asking M) (old new : KeptState M D)
    (result : Result Course Halt) (before now : Option (List Call)) : Type 0 where
  pub rests : asking.next_of old.machine ≡ Rest
  pub told : result ≡ Ok course.Rests
  pub same : new ≡ old
  pub calls : now ≡ before

-- one step on a net and a disk
abbrev pub Stepped : {M D : Type 0} → Rules M → Asking M → Places → (D → DiskSeen) → (D → Seen)
    → (old new : KeptState M D) → Result Course Halt → (before now : Option (List Call)) → Type 0
Stepped rules asking places shows counts old new result before now =
    Does rules asking places shows counts old new result before now
    ⊎ AtRest asking old new result before now

-- ---- faults

-- the net's count: it rose where a fault of it is told, and only then
abbrev pub NetFaultBy : {T : Type 0} → Result T Halt → (before now : ℕ) → Type 0
NetFaultBy (Err (halt.Unanswered server (broken.Fault count))) before now = Rose before now × (count ≡ now)
NetFaultBy other before now = now ≡ before

-- the disk's count, in the same way
abbrev pub DiskFaultBy : {T : Type 0} → Result T Halt → (before now : ℕ) → Type 0
DiskFaultBy (Err (halt.Keep fault)) before now = CountsFault before now fault
DiskFaultBy other before now = now ≡ before

-- where an answer ended before it was whole, its connection was closed at the end of what it gave
abbrev pub EarlyAtEnd : {T C : Type 0} → Result T Halt → Option (List Call) → (C → Seen) → Type 0
EarlyAtEnd {T} {C} result calls shown =
    (server : Role) (n : ℕ) → result ≡ Err (halt.Unanswered server (broken.Early n))
    → (conn : C) × ClosedAtEnd calls (shown conn)
