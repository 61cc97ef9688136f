-- How the request that is under way is worked off, and what is told of it.
use Rattle.std.specs.Prelude.{◌≡◌, ◌⊎◌, ℕ, Bool, true, false, List, Option, Some, None, Result, Ok, Err}
use Rattle.std.specs.Prelude.{is_none}
use Rattle.express_words.specs.Calls.{Call}
use Rattle.express_words.specs.Causes.{Rose}
use Rattle.express_words.specs.Seen.{Seen}
use Rattle.express_words.specs.declared.refusal.Refusal.{Refusal}
use Rattle.node_journal.specs.Disk.{DiskSeen}
use Rattle.kept_machine.specs.declared.fault.KeepFault.{KeepFault}
use Rattle.kept_machine.specs.Keeps.{Keeps, sight}
use Rattle.kept_machine.specs.Kept.{KeptState}
use Rattle.kept_ledger.specs.declared.machine.KeptLedger.{KeptLedger}
use Rattle.kept_ledger.specs.declared.working.Unworked.{Unworked}
use Rattle.kept_ledger.specs.declared.working.Unworked.TheVariants as unworked
use Rattle.kept_ledger.specs.Ledgers.{LedgerState, step_of}
use Rattle.kept_ledger.specs.Machines.{ledger_rules}
use Rattle.kept_ledger.specs.Notes.{Noted, Time, note_record}
use Rattle.kept_ledger.specs.Worked.{HearsOnly, LedgerWorked}
use Rattle.desk_around.specs.declared.trouble.Trouble.{Trouble}
use Rattle.desk_around.specs.declared.trouble.Trouble.TheVariants as trouble
use Rattle.desk_around.specs.Halts.{halted, unnoted}
use Rattle.desk_around.specs.Laters.{later_trouble}

-- ---- what is told

-- where the work at the pair's doors didn't come to rest
abbrev pub unworked_trouble : Unworked → Trouble
unworked_trouble (unworked.NoPlace server) = trouble.Damaged
unworked_trouble unworked.NoMemory = trouble.NoMemory
unworked_trouble (unworked.Halted why) = halted why

-- Where it rests: nothing, once its request has ended, or that the servers refused it, or take it later.
abbrev pub told_by : Option Refusal → (is_idle : Bool) → Result (Unit {0}) Trouble
told_by None true = Ok tt
told_by None false = Err trouble.Later
told_by (Some r) true = Err (trouble.Refused r)
told_by (Some r) false = Err (later_trouble r)

abbrev pub told_of : LedgerState → Result (Unit {0}) Trouble
told_of s = told_by s.refused (is_none s.client.current)

abbrev pub told_behind : Result (Unit {0}) Unworked → LedgerState → Result (Unit {0}) Trouble
told_behind (Ok done) s = told_of s
told_behind (Err why) s = Err (unworked_trouble why)

-- ---- how it goes

-- A note is on the disk, and the ledger has taken its step.
pub record IsNoted {D : Type 0} (shows : D → DiskSeen) (counts : D → Seen) (n : Noted)
    (old new : KeptState KeptLedger D) : Type 0 where
  pub keeps : Keeps {T = Unit {0}} ledger_rules (note_record n) (sight shows counts old)
      (sight shows counts new) (Ok tt)
  pub step : new.machine.ledger.state ≡ step_of old.machine.ledger.state n

-- a time was noted
abbrev pub IsTimed : {D : Type 0} → (D → DiskSeen) → (D → Seen) → (old timed : KeptState KeptLedger D) → Type 0
IsTimed shows counts old timed = (seconds : ℕ) × IsNoted shows counts (Time seconds) old timed

-- A note wasn't kept, by this fault, and the ledger stands as it stood.
pub record Unkept {D : Type 0} (shows : D → DiskSeen) (counts : D → Seen) (n : Noted) (fault : KeepFault)
    (old new : KeptState KeptLedger D) : Type 0 where
  pub keeps : Keeps {T = Unit {0}} ledger_rules (note_record n) (sight shows counts old)
      (sight shows counts new) (Err fault)
  pub same : new.machine.ledger.state ≡ old.machine.ledger.state

-- The clock failed, whose faults are counted from early to late, or the time wasn't kept.
pub data Untimed {D : Type 0} (shows : D → DiskSeen) (counts : D → Seen) (t : Trouble)
    (old new : KeptState KeptLedger D) (early late : ℕ) : Type 0 where
  no_time : t ≡ trouble.Clock → Rose early late → new ≡ old → Untimed shows counts t old new early late
  unkept : (seconds : ℕ) (fault : KeepFault) → t ≡ unnoted fault
      → Unkept shows counts (Time seconds) fault old new → Untimed shows counts t old new early late

-- The ledger was worked off at its pair's doors, nothing but frames was noted, and this is told of it.
pub record WorksSo {D : Type 0} (shows : D → DiskSeen) (counts : D → Seen) (old new : KeptState KeptLedger D)
    (result : Result (Unit {0}) Trouble) (before now : Option (List Call)) : Type 0 where
  pub worked : Result (Unit {0}) Unworked
  pub works : LedgerWorked shows counts old new worked before now
  pub hears : HearsOnly old.machine.ledger.state new.machine.ledger.state
  pub told : result ≡ told_behind worked new.machine.ledger.state

-- No request was under way, and nothing was done; or the time couldn't be noted, and nothing went out; or it
-- was noted, and the request was worked off.
pub data SettlesBy {D : Type 0} (shows : D → DiskSeen) (counts : D → Seen) (old new : KeptState KeptLedger D)
    (result : Result (Unit {0}) Trouble) (before now : Option (List Call)) (early late : ℕ) : Type 0 where
  idle : is_none old.machine.ledger.state.client.current ≡ true → result ≡ Ok tt → new ≡ old → now ≡ before
      → SettlesBy shows counts old new result before now early late
  untimed : (t : Trouble) → Untimed shows counts t old new early late → result ≡ Err t → now ≡ before
      → SettlesBy shows counts old new result before now early late
  worked : is_none old.machine.ledger.state.client.current ≡ false → (timed : KeptState KeptLedger D)
      → IsTimed shows counts old timed → WorksSo shows counts timed new result before now
      → SettlesBy shows counts old new result before now early late

-- ---- a request that has ended

-- The time was noted, and the request that was under way was worked off and has ended: by a refusal, if this
-- is one.
pub record Ends {D : Type 0} (shows : D → DiskSeen) (counts : D → Seen) (refused : Option Refusal)
    (old new : KeptState KeptLedger D) (before now : Option (List Call)) : Type 0 where
  pub timed : KeptState KeptLedger D
  pub time : IsTimed shows counts old timed
  pub works : LedgerWorked shows counts timed new (Ok tt) before now
  pub hears : HearsOnly timed.machine.ledger.state new.machine.ledger.state
  pub ended : is_none new.machine.ledger.state.client.current ≡ true
  pub refused_is : new.machine.ledger.state.refused ≡ refused

-- no request was under way, and nothing was done
pub record WasIdle {D : Type 0} (refused : Option Refusal) (old new : KeptState KeptLedger D)
    (before now : Option (List Call)) : Type 0 where
  pub idle : is_none old.machine.ledger.state.client.current ≡ true
  pub unrefused : refused ≡ None
  pub same : new ≡ old
  pub silent : now ≡ before

abbrev pub Settles : {D : Type 0} → (D → DiskSeen) → (D → Seen) → Option Refusal
    → (old new : KeptState KeptLedger D) → (before now : Option (List Call)) → Type 0
Settles shows counts refused old new before now =
    WasIdle refused old new before now ⊎ Ends shows counts refused old new before now

-- P, where a request has ended: of no refusal where it went well, or of the servers'
abbrev pub OnEnded : {T : Type 0} → Result T Trouble → (Option Refusal → Type 0) → Type 0
OnEnded (Ok done) P = P None
OnEnded (Err (trouble.Refused r)) P = P (Some r)
OnEnded (Err other) P = Unit {0}

-- P of the trouble, where it isn't that the servers refused the request
abbrev pub OnStopped : {T : Type 0} → Result T Trouble → (Trouble → Type 0) → Type 0
OnStopped (Ok done) P = Unit {0}
OnStopped (Err (trouble.Refused r)) P = Unit {0}
OnStopped (Err t) P = P t

-- ---- faults of the net

-- the net's count of faults rose only where a server is told as not reached
abbrev pub Reached : {T : Type 0} → Result T Trouble → (old new : ℕ) → Type 0
Reached (Err (trouble.Unreached server)) old new = Unit {0}
Reached other old new = new ≡ old
