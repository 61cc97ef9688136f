-- What an owner's tasks do to the desk's ledger, and on the net.
use Rattle.std.specs.Prelude.{◌≡◌, ◌≤◌, ◌<◌, ◌+◌, ◌^◌, ℕ, List, [], ◌∷◌, ◌++◌, length, take, get_or}
use Rattle.std.specs.Prelude.{Option, Some, None, Result, Err, true, false}
use Rattle.express_words.specs.Calls.{Call}
use Rattle.express_words.specs.Seen.{Seen}
use Rattle.express_words.specs.declared.refusal.Refusal.{Refusal}
use Rattle.node_journal.specs.Disk.{DiskSeen}
use Rattle.kept_machine.specs.declared.fault.KeepFault.{KeepFault}
use Rattle.kept_machine.specs.Kept.{KeptState}
use Rattle.kept_ledger.specs.declared.machine.KeptLedger.{KeptLedger}
use Rattle.kept_ledger.specs.declared.task.Task.{Task}
use Rattle.kept_ledger.specs.declared.task.Task.TheVariants.{Read}
use Rattle.kept_ledger.specs.Ledgers.{LedgerState, fold_from, takes_task}
use Rattle.kept_ledger.specs.Notes.{Noted, Named, Closed, Retiring, Marked, Asked, Time, Heard, GivenUp}
use Rattle.kept_ledger.specs.Notes.{Owned, Denied, Carried}
use Rattle.kept_ledger.specs.Tasks.{live_places, next_task}
use Rattle.desk_around.specs.declared.trouble.Trouble.{Trouble}
use Rattle.desk_around.specs.declared.trouble.Trouble.TheVariants as trouble
use Rattle.desk_around.specs.Halts.{unnoted}
use Rattle.owner_work.specs.Rooms.{IsFull}
use Rattle.owner_work.specs.Settling.{Ends, IsNoted, Settles, SettlesBy, Unkept}

-- ---- one task

-- The ledger has no room, or its client doesn't take the task, and nothing was done; or the request couldn't
-- be noted, and nothing went out; or it was noted, and it was settled.
pub data DoesBy {D : Type 0} (shows : D → DiskSeen) (counts : D → Seen) (t : Task)
    (old new : KeptState KeptLedger D) (result : Result (Unit {0}) Trouble) (before now : Option (List Call))
    (early late : ℕ) : Type 0 where
  full : IsFull old.journal.end → result ≡ Err trouble.Full → new ≡ old → now ≡ before
      → DoesBy shows counts t old new result before now early late
  spent : takes_task old.machine.ledger.state t ≡ false → result ≡ Err trouble.Spent → new ≡ old
      → now ≡ before → DoesBy shows counts t old new result before now early late
  unasked : (fault : KeepFault) → result ≡ Err (unnoted fault) → Unkept shows counts (Asked t) fault old new
      → now ≡ before → DoesBy shows counts t old new result before now early late
  asked : takes_task old.machine.ledger.state t ≡ true → (noted : KeptState KeptLedger D)
      → IsNoted shows counts (Asked t) old noted
      → SettlesBy shows counts noted new result before now early late
      → DoesBy shows counts t old new result before now early late

-- The servers were asked for this, and the request has ended: by a refusal, if this is one.
pub record Does {D : Type 0} (shows : D → DiskSeen) (counts : D → Seen) (t : Task) (refused : Option Refusal)
    (old new : KeptState KeptLedger D) (before now : Option (List Call)) : Type 0 where
  pub takes : takes_task old.machine.ledger.state t ≡ true
  pub asked : KeptState KeptLedger D
  pub noted : IsNoted shows counts (Asked t) old asked
  pub ends : Ends shows counts refused asked new before now

-- ---- several

-- What is under way is settled, and so many tasks are done, one after another, and none is refused.
pub data Goes {D : Type 0} (shows : D → DiskSeen) (counts : D → Seen) (start : KeptState KeptLedger D)
    (before : Option (List Call))
    : (tasks : ℕ) → KeptState KeptLedger D → Option (List Call) → Type 0 where
  rests : Goes shows counts start before 0 start before
  settled : (tasks : ℕ) (l new : KeptState KeptLedger D) (mid now : Option (List Call))
      → Goes shows counts start before tasks l mid → Settles shows counts None l new mid now
      → Goes shows counts start before tasks new now
  done : (tasks : ℕ) (t : Task) (l new : KeptState KeptLedger D) (mid now : Option (List Call))
      → Goes shows counts start before tasks l mid → Does shows counts t None l new mid now
      → Goes shows counts start before (tasks + 1) new now

-- so it went, by some number of tasks
abbrev pub GoesWell : {D : Type 0} → (D → DiskSeen) → (D → Seen) → (old new : KeptState KeptLedger D)
    → (before now : Option (List Call)) → Type 0
GoesWell shows counts old new before now = (tasks : ℕ) × Goes shows counts old before tasks new now

-- A request wasn't settled, or a task wasn't done, by this trouble; or as many tasks are done as are to be
-- done at once.
pub data StopsBy {D : Type 0} (shows : D → DiskSeen) (counts : D → Seen) (t : Trouble) (tasks : ℕ)
    (old new : KeptState KeptLedger D) (before now : Option (List Call)) (early late : ℕ) : Type 0 where
  unsettled : SettlesBy shows counts old new (Err t) before now early late
      → StopsBy shows counts t tasks old new before now early late
  undone : (task : Task) → DoesBy shows counts task old new (Err t) before now early late
      → StopsBy shows counts t tasks old new before now early late
  many : t ≡ trouble.Later → tasks ≡ 16384 → new ≡ old → now ≡ before
      → StopsBy shows counts t tasks old new before now early late

-- It went well up to there, and stopped by this trouble.
pub record Stops {D : Type 0} (shows : D → DiskSeen) (counts : D → Seen) (t : Trouble)
    (old new : KeptState KeptLedger D) (before now : Option (List Call)) (early late : ℕ) : Type 0 where
  pub tasks : ℕ
  pub l : KeptState KeptLedger D
  pub mid : Option (List Call)
  pub goes : Goes shows counts old before tasks l mid
  pub by : StopsBy shows counts t tasks l new mid now early late

-- no box is left to be registered or retired; a desk has fewer than 2^32
abbrev pub HasNothingLeft : LedgerState → Type 0
HasNothingLeft s = length s.boxes ≤ 2 ^ 32 → next_task s ≡ None

-- the refusal of the later one, if it has one
abbrev pub last_of : (answer before : Option Refusal) → Option Refusal
last_of (Some r) before = Some r
last_of None before = before

-- The own boxes at these places are read, one after another; the last refusal, if a read was refused, is
-- this.
pub data ReadsEach {D : Type 0} (shows : D → DiskSeen) (counts : D → Seen) (start : KeptState KeptLedger D)
    (before : Option (List Call))
    : List ℕ → Option Refusal → KeptState KeptLedger D → Option (List Call) → Type 0 where
  unread : ReadsEach shows counts start before [] None start before
  read : (places : List ℕ) (own : ℕ) (was answer : Option Refusal) (l new : KeptState KeptLedger D)
      (mid now : Option (List Call)) → ReadsEach shows counts start before places was l mid
      → Does shows counts (Read own) answer l new mid now
      → ReadsEach shows counts start before (places ++ own ∷ []) (last_of answer was) new now

-- each live box is read once, in order; a desk has fewer than 2^32
pub record ReadsLive {D : Type 0} (shows : D → DiskSeen) (counts : D → Seen) (refused : Option Refusal)
    (old new : KeptState KeptLedger D) (before now : Option (List Call)) : Type 0 where
  pub live : List ℕ
  pub all : length old.machine.ledger.state.boxes ≤ 2 ^ 32 → live ≡ live_places old.machine.ledger.state
  pub each : ReadsEach shows counts old before live refused new now

-- No memory was found for the list of live boxes; or behind those before it this one wasn't read.
pub data StopsReading {D : Type 0} (shows : D → DiskSeen) (counts : D → Seen) (t : Trouble)
    (old new : KeptState KeptLedger D) (before now : Option (List Call)) (early late : ℕ) : Type 0 where
  unlisted : t ≡ trouble.NoMemory → new ≡ old → now ≡ before
      → StopsReading shows counts t old new before now early late
  unread_at : (live : List ℕ)
      → (length old.machine.ledger.state.boxes ≤ 2 ^ 32 → live ≡ live_places old.machine.ledger.state)
      → (place : ℕ) → place < length live → (was : Option Refusal) (l : KeptState KeptLedger D)
      → (mid : Option (List Call)) → ReadsEach shows counts old before (take place live) was l mid
      → DoesBy shows counts (Read (get_or live place 0)) l new (Err t) mid now early late
      → StopsReading shows counts t old new before now early late

-- ---- what is noted

-- the time, a request that was asked, or a frame that was heard
abbrev pub IsOfWork : Noted → Type 0
IsOfWork (Asked t) = Unit {0}
IsOfWork (Time seconds) = Unit {0}
IsOfWork (Heard frame) = Unit {0}
IsOfWork (Named w) = ⊥
IsOfWork (Closed name day) = ⊥
IsOfWork (Retiring name) = ⊥
IsOfWork (Marked m) = ⊥
IsOfWork GivenUp = ⊥
IsOfWork (Owned b) = ⊥
IsOfWork (Denied d) = ⊥
IsOfWork (Carried r) = ⊥

abbrev pub AreOfWork : List Noted → Type 0
AreOfWork [] = Unit {0}
AreOfWork (n ∷ notes) = IsOfWork n × AreOfWork notes

-- from the one to the other nothing else was noted
pub record OnlyWorks (s now : LedgerState) : Type 0 where
  pub notes : List Noted
  pub are : AreOfWork notes
  pub is : now ≡ fold_from s notes
