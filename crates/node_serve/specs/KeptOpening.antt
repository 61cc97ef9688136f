-- How a server is opened, from its settings or from its journal.
use Rattle.std.specs.Prelude.{◌≡◌, ◌≢◌, ◌⊎◌, ℕ, true, false, List, [], ◌++◌, codes}
use Rattle.express_words.specs.declared.role.Role.TheVariants.{Leader, Helper}
use Rattle.step_rules.specs.Helper.{opened_helper}
use Rattle.step_rules.specs.Leader.{opened_leader}
use Rattle.node_journal.specs.Disk.{DiskSeen, Within, IsUntouched}
use Rattle.node_journal.specs.Records.{content, IsUndamaged}
use Rattle.node_journal.specs.declared.fault.JournalFault.TheVariants.{Closed, NotEmpty, Disk, Damaged}
use Rattle.node_restart.specs.declared.opening.Opening.{Opening}
use Rattle.node_restart.specs.declared.server.Core.{Core}
use Rattle.kept_machine.specs.declared.fault.KeepFault.{KeepFault}
use Rattle.kept_machine.specs.declared.fault.KeepFault.TheVariants.{Journal, Foreign}
use Rattle.kept_machine.specs.Faults.{CountsFault, IsOfReopen}
use Rattle.node_restart.specs.Frames.{IsForeign}
use Rattle.node_restart.specs.Kept.{KeptState, HoldsFrames, IsToldBy, Stands, IsDamagedAt}
use Rattle.node_restart.specs.Openings.{IsOpening}
use Rattle.node_restart.specs.Steps.{fold}
use Rattle.kept_machine.specs.Texts as restart
use Rattle.settings_text.specs.declared.serve.ServeSettings.{ServeSettings}
use Rattle.node_serve.specs.declared.node.Node.{Node}
use Rattle.node_serve.specs.declared.node.Node.TheVariants as node
use Rattle.node_serve.specs.declared.open_fault.SettingsKey.{SettingsKey}
use Rattle.node_serve.specs.declared.open_fault.SettingsKey.TheVariants as key
use Rattle.node_serve.specs.declared.open_fault.OpenFault.{OpenFault}
use Rattle.node_serve.specs.declared.open_fault.OpenFault.TheVariants as opens

abbrev pub opening_of : ServeSettings → List ℕ → Opening
opening_of s seed = record { role = s.role; settings = s.settings; seed = seed }

-- ---- two openings

-- the same but for the seed
pub record IsSame (a b : Opening) : Type 0 where
  pub role : a.role ≡ b.role
  pub settings : a.settings ≡ b.settings

-- in this setting they differ, and in those before it in the order role, width, boxes, lanes, window they
-- don't
abbrev pub DiffersAt : SettingsKey → Opening → Opening → Type 0
DiffersAt key.Role a b = a.role ≢ b.role
DiffersAt key.Width a b = (a.role ≡ b.role) × (a.settings.width ≢ b.settings.width)
DiffersAt key.Boxes a b =
    (a.role ≡ b.role) × (a.settings.width ≡ b.settings.width) × (a.settings.boxes ≢ b.settings.boxes)
DiffersAt key.Lanes a b =
    (a.role ≡ b.role) × (a.settings.width ≡ b.settings.width) × (a.settings.boxes ≡ b.settings.boxes)
    × (a.settings.lanes ≢ b.settings.lanes)
DiffersAt key.Window a b =
    (a.role ≡ b.role) × (a.settings.width ≡ b.settings.width) × (a.settings.boxes ≡ b.settings.boxes)
    × (a.settings.lanes ≡ b.settings.lanes) × (a.settings.window ≢ b.settings.window)

-- ---- a server that was opened

-- without a journal: the server of the settings' role, with their limits and this seed; a leader with their
-- peer
abbrev pub IsOpened : ServeSettings → List ℕ → Node → Type 0
IsOpened s seed (node.Lead a peer) =
    (s.role ≡ Leader) × (a ≡ opened_leader s.settings seed) × (peer ≡ s.peer)
IsOpened s seed (node.Help h) = (s.role ≡ Helper) × (h ≡ opened_helper s.settings seed)

-- on a disk with no byte: a server before its first frame
pub record IsCreated {D : Type 0} (shows : D → DiskSeen) (limit : ℕ) (o : Opening)
    (disk : D) (k : KeptState D) : Type 0 where
  pub empty : (c : List ℕ) → (shows disk).reads c → c ≡ []
  pub opening : k.opening ≡ o
  pub core : k.core ≡ fold o []
  pub journal : k.journal ≡ record { end = 50; limit = limit; ready = true; closed = false }
  pub held : HoldsFrames o [] (shows k.disk).reads
  pub undamaged : (c : List ℕ) → (shows k.disk).reads c → IsUndamaged limit 0 c
  pub durable : Within (shows k.disk).may_leave (shows k.disk).reads

-- on a disk with a journal, of a server with the same role and settings: the fold of what stands there
pub record IsReopened {D : Type 0} (shows : D → DiskSeen) (limit : ℕ) (o : Opening)
    (disk : D) (k : KeptState D) : Type 0 where
  pub some : (c : List ℕ) → (shows disk).reads c → c ≢ []
  pub is_opening : IsOpening k.opening
  pub same : IsSame k.opening o
  pub stands : Stands k.opening k.core (shows disk).reads
  pub told : IsToldBy (shows disk).reads k.opening k.core
  pub same_limit : k.journal.limit ≡ limit
  pub unclosed : k.journal.closed ≡ false
  pub undamaged : (c : List ℕ) → (shows k.disk).reads c → IsUndamaged limit 0 c
  pub durable : Within (shows k.disk).may_leave (shows k.disk).reads
  pub untouched : IsUntouched (shows disk) (shows k.disk)

abbrev pub IsOpenedOn : {D : Type 0} → (D → DiskSeen) → (limit : ℕ) → Opening → D → KeptState D → Type 0
IsOpenedOn shows limit o disk k = IsCreated shows limit o disk k ⊎ IsReopened shows limit o disk k

-- A server that was opened on a disk, and then stops at its first fault, has these: its journal isn't closed,
-- and what stands on the disk was opened again.
abbrev pub IsFirstFault : KeepFault → Type 0
IsFirstFault (Journal Closed) = ⊥
IsFirstFault (Journal NotEmpty) = ⊥
IsFirstFault other = Unit {0}

-- ---- a server that wasn't

-- a disk with a byte has no journal that is whole and of the form, or no call on it failed
abbrev pub IsOfOpening : OpenFault → Type 0
IsOfOpening (opens.Keep fault) = IsOfReopen fault
IsOfOpening (opens.Differs key) = Unit {0}

-- a server stands on the disk that was opened otherwise
pub record StandsOther (key : SettingsKey) (o : Opening) (reads : List ℕ → Type 0) : Type 0 where
  pub found : Opening
  pub is_opening : IsOpening found
  pub core : Core
  pub stands : Stands found core reads
  pub differs : DiffersAt key found o

-- what a fault says of the disk, which has a byte then
abbrev pub IsCauseOf : OpenFault → ℕ → Opening → (List ℕ → Type 0) → Type 0
IsCauseOf (opens.Keep (Journal (Damaged at))) limit o reads =
    (c : List ℕ) → reads c → (c ≢ []) × IsDamagedAt limit at c
IsCauseOf (opens.Keep (Foreign n)) limit o reads = (c : List ℕ) → reads c → (c ≢ []) × IsForeign n (content c)
IsCauseOf (opens.Differs key) limit o reads = ((c : List ℕ) → reads c → c ≢ []) × StandsOther key o reads
IsCauseOf fault limit o reads = Unit {0}

-- but where a call on the disk failed, it is as it was
abbrev pub LeavesDisk : {D : Type 0} → OpenFault → (D → DiskSeen) → (old new : D) → Type 0
LeavesDisk (opens.Keep (Journal (Disk faults))) shows old new = Unit {0}
LeavesDisk fault shows old new = IsUntouched (shows old) (shows new)

abbrev pub CountsOpen : (before now : ℕ) → OpenFault → Type 0
CountsOpen before now (opens.Keep fault) = CountsFault before now fault
CountsOpen before now (opens.Differs key) = now ≡ before

-- ---- texts

abbrev pub key_text : SettingsKey → List ℕ
key_text key.Role = codes "role"
key_text key.Width = codes "width"
key_text key.Boxes = codes "boxes"
key_text key.Lanes = codes "lanes"
key_text key.Window = codes "window"

abbrev pub fault_text : OpenFault → List ℕ
fault_text (opens.Keep fault) = restart.fault_text fault
fault_text (opens.Differs key) = codes "the journal has another " ++ key_text key
