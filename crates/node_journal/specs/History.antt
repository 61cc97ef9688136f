-- What was done to a disk in memory, and what a crash may leave of it.
use Rattle.std.specs.Prelude.{◌≡◌, ℕ, ◌+◌, ◌-◌, ◌≤◌, nat_le, List, [], ◌∷◌, ◌++◌, length, take, drop}
use Rattle.std.specs.Prelude.{if◌then◌else◌}
use Rattle.node_journal.specs.Disk.{DiskSeen, Torn}
use Rattle.node_journal.specs.Records.{body, opened}

-- a write at an offset, or a sync
pub data Change : Type 0 where
  Wrote : ℕ → List ℕ → Change
  Synced : Change

-- the bytes at first, and what was done since, the latest in front
pub record History : Type 0 where
  pub first : List ℕ
  pub changes : List Change

abbrev pub began : List ℕ → History
began bytes = record { first = bytes; changes = [] }

abbrev pub wrote : ℕ → List ℕ → History → History
wrote at bytes h = record { first = h.first; changes = Wrote at bytes ∷ h.changes }

abbrev pub synced : History → History
synced h = record { first = h.first; changes = Synced ∷ h.changes }

-- these bytes at this offset, over what is there and past the end; nothing where the offset is past the end
abbrev pub overwritten : ℕ → List ℕ → List ℕ → List ℕ
overwritten at bytes old =
    if nat_le at (length old) then take at old ++ bytes ++ drop (at + length bytes) old else old

-- what a read gives
abbrev pub bytes_after : List ℕ → List Change → List ℕ
bytes_after first [] = first
bytes_after first (Wrote at bytes ∷ before) = overwritten at bytes (bytes_after first before)
bytes_after first (Synced ∷ before) = bytes_after first before

abbrev pub bytes_of : History → List ℕ
bytes_of h = bytes_after h.first h.changes

abbrev pub Reads : History → List ℕ → Type 0
Reads h c = c ≡ bytes_of h

-- What a crash may leave: what stood at the last sync, with each write since then torn.
abbrev pub MayLeaveAfter : List ℕ → List Change → List ℕ → Type 0
MayLeaveAfter first [] c = c ≡ first
MayLeaveAfter first (Wrote at bytes ∷ before) c =
    (d : List ℕ) × MayLeaveAfter first before d × Torn at (length bytes) d c
MayLeaveAfter first (Synced ∷ before) c = c ≡ bytes_after first before

abbrev pub MayLeave : History → List ℕ → Type 0
MayLeave h c = MayLeaveAfter h.first h.changes c

-- how many writes and syncs there were
abbrev pub moment_of : History → ℕ
moment_of h = length h.changes

-- What a crash might have left at a moment m from t on. The changes after it are in front; a moment that is
-- still to come counts as this one.
abbrev pub LeftSince : History → ℕ → List ℕ → Type 0
LeftSince h t c =
    (m : ℕ) × (t ≤ m) × MayLeaveAfter h.first (drop (moment_of h - m) h.changes) c

-- what a disk with this history shows
abbrev pub seen_of : History → DiskSeen
seen_of h = record { reads = Reads h; may_leave = MayLeave h; moment = moment_of h; left_since = LeftSince h }

-- What a crash leaves of what it may leave: of each write since the last sync these bytes arrive, from the
-- first on.
abbrev pub left_after : List ℕ → List ℕ → List Change → List ℕ
left_after arriving first [] = first
left_after arriving first (Wrote at bytes ∷ before) =
    overwritten at (take (length bytes) arriving) (left_after arriving first before)
left_after arriving first (Synced ∷ before) = bytes_after first before

abbrev pub left_of : List ℕ → History → List ℕ
left_of arriving h = left_after arriving h.first h.changes

-- records, the gate behind them, and the rest
pub record Gated : Type 0 where
  pub records : List (List ℕ)
  pub gate : ℕ
  pub tail : List ℕ

-- a write of n bytes behind the gate is torn
abbrev pub TornBehind : Gated → ℕ → List ℕ → Type 0
TornBehind g n c = Torn (length (opened g.records) + 1) n (opened g.records ++ g.gate ∷ g.tail) c

-- records and the gate behind them, a record that is staged there and the gate after it, and the rest
pub record Staged : Type 0 where
  pub records : List (List ℕ)
  pub gate : ℕ
  pub added : List ℕ
  pub after : ℕ
  pub tail : List ℕ

-- a write of the gate before the staged record is torn
abbrev pub TornGate : Staged → List ℕ → Type 0
TornGate s c =
    Torn (length (opened s.records)) 1 (opened s.records ++ s.gate ∷ (body s.added ++ s.after ∷ s.tail)) c
