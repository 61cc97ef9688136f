-- What a run of calls does to the log, and what a crash leaves of it.
use Rattle.std.specs.Prelude.{◌≡◌, ◌≤◌, ◌⊎◌, ℕ, List, [], ◌∷◌, ◌++◌, length, filter, Option, Some, None, IsSome}
use Rattle.std.proofs.Common.{subst}
use Rattle.many_words.specs.Events.{Event}
use Rattle.node_journal.specs.Disk.{DiskSeen, LeavesOnly}
use Rattle.node_journal.specs.Records.{content, IsUndamaged}
use Rattle.logged_hub.specs.Calls.{AddsAll, is_of_wires, written}
use Rattle.logged_hub.specs.Logs.{IsFaultOf}
use Rattle.logged_hub.specs.declared.fault.LogFault.{LogFault}
use Rattle.logged_hub.specs.State.{HubState, IsKept, records_in}

-- The content has the records, and those that the calls up to one of them wrote.
abbrev pub IsWrittenUpToOne : (records : List (List ℕ)) → List Event → List ℕ → Type 0
IsWrittenUpToOne records events c = (before after : List Event) × (events ≡ before ++ after)
    × (content c ≡ records ++ written before)

-- Of a hub whose log has failed the content has all of the last batch, behind what all calls wrote.
abbrev pub IsWrittenWithBatch : {W D : Type 0} → HubState W D → (records : List (List ℕ)) → List Event → List ℕ → Type 0
IsWrittenWithBatch hub records events c = IsSome hub.fault
    × (content c ≡ records ++ written events ++ hub.batch.records)

-- What a crash at any moment of these calls leaves: the records and what the calls up to one of them wrote, or of the
-- batch whose log failed all; and nothing that a journal under the same limit would find damaged.
pub record LeavesRun {W D : Type 0} (old new : HubState W D) (events : List Event) (c : List ℕ) : Type 0 where
  pub records : IsWrittenUpToOne (records_in old) events c ⊎ IsWrittenWithBatch new (records_in old) events c
  pub undamaged : IsUndamaged old.journal.limit 0 c

abbrev pub IsHubKept : {W D : Type 0} → (D → DiskSeen) → HubState W D → Type 0
IsHubKept shows hub = IsKept (shows hub.disk) hub.journal hub.batch.records (records_in hub) hub.fault

-- Once the log has failed, nothing more is written.
pub record StaysFailed {W D : Type 0} (old new : HubState W D) (events : List Event) : Type 0 where
  pub nothing : written events ≡ []
  pub fault : new.fault ≡ old.fault
  pub disk : new.disk ≡ old.disk
  pub batch : new.batch ≡ old.batch

-- From old to new these calls were made. Those of the connections are theirs, in the same order.
pub record GoesOn {W D : Type 0} (tells : W → Option (List Event)) (shows : D → DiskSeen)
    (old new : HubState W D) : Type 0 where
  pub events : List Event
  pub calls : new.calls ≡ old.calls ++ events
  pub wires : AddsAll (tells old.wires) (tells new.wires) (filter is_of_wires events)
  pub held : new.held ≡ old.held
  pub limit : new.journal.limit ≡ old.journal.limit
  pub keeps : IsHubKept shows old → IsHubKept shows new
  pub any_moment : IsHubKept shows old → old.fault ≡ None
      → LeavesOnly (shows old.disk) (shows new.disk) (LeavesRun old new events)
  pub failed : IsSome old.fault → StaysFailed old new events

-- The content has the records that the log had before a call, or has behind it.
abbrev pub IsOfEither : {W D : Type 0} → (old new : HubState W D) → List ℕ → Type 0
IsOfEither old new c = (content c ≡ records_in old) ⊎ (content c ≡ records_in new)

-- Of a hub whose log has failed it has all of the last batch behind the records.
abbrev pub IsOfBatch : {W D : Type 0} → HubState W D → List ℕ → Type 0
IsOfBatch hub c = IsSome hub.fault × (content c ≡ records_in hub ++ hub.batch.records)

-- What a crash at any moment of one call leaves: what the log had, and of what the call writes all or nothing; and
-- nothing that a journal under the same limit would find damaged.
pub record LeavesCall {W D : Type 0} (old new : HubState W D) (c : List ℕ) : Type 0 where
  pub records : IsOfEither old new c ⊎ IsOfBatch new c
  pub undamaged : IsUndamaged old.journal.limit 0 c

-- From old to new one call was made, which is told as one event, or isn't told.
pub record IsOneCall {W D : Type 0} (tells : W → Option (List Event)) (shows : D → DiskSeen)
    (old new : HubState W D) : Type 0 where
  pub goes : GoesOn tells shows old new
  pub one : length goes.events ≤ 1
  pub any_moment : IsHubKept shows old → old.fault ≡ None
      → LeavesOnly (shows old.disk) (shows new.disk) (LeavesCall old new)

-- one call after another, with the hub as it stands behind each
abbrev pub Calls : {W D : Type 0} → (W → Option (List Event)) → (D → DiskSeen) → List (HubState W D)
    → (old new : HubState W D) → Type 0
Calls tells shows [] old new = new ≡ old
Calls tells shows (hub ∷ hubs) old new = IsOneCall tells shows old hub × Calls tells shows hubs hub new

-- calls behind others are calls with them
pub calls_then : {W D : Type 0} (tells : W → Option (List Event)) (shows : D → DiskSeen) (a b : List (HubState W D))
    (old mid new : HubState W D) → Calls tells shows a old mid → Calls tells shows b mid new
    → Calls tells shows (a ++ b) old new
calls_then tells shows [] b old mid new one two = subst (λ hub. Calls tells shows b hub new) one two
calls_then tells shows (hub ∷ a) b old mid new one two = (one.0, calls_then tells shows a b hub mid new one.1 two)

-- From old to new some calls were made, one after another, maybe none: between two of them the hub is kept, and at any
-- moment of each a crash leaves what was logged before it, and of its own batch all or nothing.
abbrev pub CallByCall : {W D : Type 0} → (W → Option (List Event)) → (D → DiskSeen)
    → (old new : HubState W D) → Type 0
CallByCall {W} {D} tells shows old new = (hubs : List (HubState W D)) × Calls tells shows hubs old new

-- So, and none of them failed.
pub record Proceeds {W D : Type 0} (tells : W → Option (List Event)) (shows : D → DiskSeen)
    (old new : HubState W D) : Type 0 where
  pub calls : CallByCall tells shows old new
  pub fault : new.fault ≡ old.fault

-- A call of the log of these records failed for this cause, for the first time.
pub record FailsFor {W D : Type 0} (old : HubState W D) (why : LogFault) : Type 0 where
  pub records : List (List ℕ)
  pub cause : IsFaultOf old.batch.room old.journal records why

-- A call of the log failed, and from then on each one does.
pub record Fails {W D : Type 0} (tells : W → Option (List Event)) (shows : D → DiskSeen)
    (old new : HubState W D) : Type 0 where
  pub calls : CallByCall tells shows old new
  pub why : LogFault
  pub fault : new.fault ≡ Some why
  pub first : old.fault ≡ None → FailsFor old why

-- The content has these records, and maybe more behind them; and nothing that a journal would find damaged.
pub record HasAtLeast (limit : ℕ) (records : List (List ℕ)) (c : List ℕ) : Type 0 where
  pub more : List (List ℕ)
  pub is : content c ≡ records ++ more
  pub undamaged : IsUndamaged limit 0 c
