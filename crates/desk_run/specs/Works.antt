-- What a desk's requests do to its ledger, and on the net.
use Rattle.std.specs.Prelude.{◌≡◌, ◌≢◌, ◌≤◌, ◌^◌, ℕ, List, [], ◌∷◌, ◌++◌, Option, Some, None}
use Rattle.std.specs.Prelude.{Result, Ok, Err, Bool, true, false, if◌then◌else◌, length}
use Rattle.express_words.specs.Calls.{Call}
use Rattle.express_words.specs.declared.refusal.Refusal.{Refusal}
use Rattle.express_words.specs.declared.refusal.Refusal.TheVariants.{Full, NoBox, Taken}
use Rattle.client_restart.specs.declared.errand.Errand.{Errand}
use Rattle.client_restart.specs.declared.errand.Errand.TheVariants.{Register, Retire}
use Rattle.client_restart.specs.Notes.{Asked}
use Rattle.client_restart.specs.Steps.{EndedRequest, step_of}
use Rattle.kept_errands.specs.Works.{IsEnded}
use Rattle.desk_ledger.specs.declared.stored.Stored.{Stored}
use Rattle.desk_ledger.specs.declared.task.Task.{Task}
use Rattle.desk_ledger.specs.declared.task.Task.TheVariants.{Read}
use Rattle.desk_ledger.specs.Ledgers.{LedgerState}
use Rattle.desk_ledger.specs.Storing.{Stores}
use Rattle.desk_ledger.specs.Tasks.{TakesTask, live_places, request_of}
use Rattle.desk_ledger.specs.Works.{WorksIfBusy}
use Rattle.desk_run.specs.declared.trouble.Trouble.{Trouble}
use Rattle.desk_run.specs.declared.trouble.Trouble.TheVariants.{Refused}

-- ---- refusals

-- the desk's entries tell of it: of a box that gets no place, and of one that is gone
abbrev pub is_noted_by : Errand → Option Refusal → Bool
is_noted_by errand None = true
is_noted_by (Register address) (Some (Taken other)) = true
is_noted_by (Register address) (Some (Full most)) = true
is_noted_by (Retire own) (Some (NoBox number)) = true
is_noted_by errand (Some refusal) = false

abbrev pub is_noted : Stored → Bool
is_noted s = is_noted_by s.errand s.refusal

-- the last refusal of which they don't tell, behind one more outcome
abbrev pub refused_by : Option Refusal → Stored → Option Refusal
refused_by before s = if is_noted s then before else s.refusal

-- ---- one request

-- Outcomes are stored at this time, one after another, the oldest first; the last refusal is this one.
pub data StoresOn {D : Type 0} (seconds : ℕ) (start : LedgerState D) : Option Refusal → LedgerState D → Type 0 where
  unstored : StoresOn seconds start None start
  stored : (refused : Option Refusal) (l new : LedgerState D) (e : EndedRequest) (rest : List EndedRequest) (told : Stored)
      → StoresOn seconds start refused l → l.client.core.untold ≡ e ∷ rest
      → Stores seconds e l new (Ok (Some told)) → StoresOn seconds start (refused_by refused told) new

-- all of them are
pub record StoresAll {D : Type 0} (old new : LedgerState D) (refused : Option Refusal) : Type 0 where
  pub seconds : ℕ
  pub stores : StoresOn seconds old refused new
  pub none_left : new.client.core.untold ≡ []

-- The request that is under way is worked off at the pair's servers, and what it came to is stored: a refusal, if
-- this is one.
pub record Settles {D : Type 0} (refused : Option Refusal) (old new : LedgerState D) (before now : Option (List Call))
    : Type 0 where
  pub worked : LedgerState D
  pub idle : old.client.core.client.current ≡ None → (worked ≡ old) × (now ≡ before)
  pub works : WorksIfBusy old worked (Ok tt) before now
  pub ended : old.client.core.client.current ≢ None → IsEnded old.client.core worked.client.core
  pub entries : worked.entries ≡ old.entries
  pub pair : worked.pair ≡ old.pair
  pub opening : worked.client.opening ≡ old.client.opening
  pub stores : StoresAll worked new refused

-- The servers are asked for one thing, and it is settled.
pub record DoesTask {D : Type 0} (t : Task) (refused : Option Refusal) (old new : LedgerState D)
    (before now : Option (List Call)) : Type 0 where
  pub accepted : TakesTask old t
  pub asked : LedgerState D
  pub taken : asked.client.core ≡ step_of old.client.core (Asked (request_of t))
  pub entries : asked.entries ≡ old.entries
  pub pair : asked.pair ≡ old.pair
  pub opening : asked.client.opening ≡ old.client.opening
  pub settles : Settles refused asked new before now

-- P, where a request was settled: of no refusal where it went well, or of the server's
abbrev pub OnSettled : {T : Type 0} → Result T Trouble → (Option Refusal → Type 0) → Type 0
OnSettled (Ok done) P = P None
OnSettled (Err (Refused r)) P = P (Some r)
OnSettled (Err other) P = Unit {0}

-- ---- several

-- What is under way is settled, and tasks are done, one after another, and none is refused.
pub data Goes {D : Type 0} (start : LedgerState D) (before : Option (List Call))
    : LedgerState D → Option (List Call) → Type 0 where
  rests : Goes start before start before
  settled : (l new : LedgerState D) (mid now : Option (List Call)) → Goes start before l mid
      → Settles None l new mid now → Goes start before new now
  done : (t : Task) (l new : LedgerState D) (mid now : Option (List Call)) → Goes start before l mid
      → DoesTask t None l new mid now → Goes start before new now

-- The own boxes at these places are read, one after another, and no reading is refused.
pub data ReadsEach {D : Type 0} (start : LedgerState D) (before : Option (List Call))
    : List ℕ → LedgerState D → Option (List Call) → Type 0 where
  unread : ReadsEach start before [] start before
  read : (places : List ℕ) (own : ℕ) (l new : LedgerState D) (mid now : Option (List Call))
      → ReadsEach start before places l mid → DoesTask (Read own) None l new mid now
      → ReadsEach start before (places ++ own ∷ []) new now

-- each live box is read once; a client has fewer than 2^32
pub record ReadsLive {D : Type 0} (old new : LedgerState D) (before now : Option (List Call)) : Type 0 where
  pub live : List ℕ
  pub all : length old.client.core.boxes ≤ 2 ^ 32 → live ≡ live_places old
  pub each : ReadsEach old before live new now
