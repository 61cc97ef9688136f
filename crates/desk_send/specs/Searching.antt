-- Which letters are on their way, as the folder's calls tell.
use Rattle.std.specs.Prelude.{◌≡◌, ◌⊎◌, ◌<◌, ℕ, ◌==◌, Bool, true, false, List, Option, Some, None}
use Rattle.node_journal.specs.Disk.{DiskSeen}
use Rattle.desk_outside.specs.Calls.{FolderCall}
use Rattle.desk_outside.specs.declared.folder.Slot.{Slot}
use Rattle.desk_sheets.specs.declared.sheet.Card.{Card}
use Rattle.desk_around.specs.Ends.{IsCause}
use Rattle.desk_around.specs.declared.trouble.Trouble.{Trouble}
use Rattle.desk_steps.specs.declared.finding.Found.{Found}
use Rattle.desk_steps.specs.declared.finding.Found.TheVariants as found
use Rattle.desk_steps.specs.Finding.{IsAt}
use Rattle.desk_send.specs.declared.placed.OnItsWay.{OnItsWay}
use Rattle.desk_send.specs.Letters.{Carries}
use Rattle.desk_send.specs.Places.{EachPlace, IsTakenAt, slot_at}

-- ---- the letter of this text and card

abbrev pub IsOther : {D : Type 0} → Card → List ℕ → Found D → Type 0
IsOther card text found.Nothing = Unit {0}
IsOther card text (found.Letter letter) = Carries card text letter.machine.letter → ⊥
IsOther card text found.Unreadable = ⊥

-- Nothing stands at the place, or another letter.
pub record HasOther {D : Type 0} (shows : D → DiskSeen) (card : Card) (text : List ℕ) (slot : Slot)
    (old new : Option (List (FolderCall D))) : Type 0 where
  pub found : Found D
  pub is_at : IsAt shows slot old new found
  pub other : IsOther card text found

-- Or that letter does.
pub record HasIt {D : Type 0} (shows : D → DiskSeen) (card : Card) (text : List ℕ)
    (old new : Option (List (FolderCall D))) (sent : OnItsWay D) : Type 0 where
  pub is_at : IsAt shows sent.slot old new (found.Letter sent.letter)
  pub carries : Carries card text sent.letter.machine.letter

abbrev pub LooksFor : {D : Type 0} → (D → DiskSeen) → Card → List ℕ → Slot
    → (old new : Option (List (FolderCall D))) → Option (OnItsWay D) → Type 0
LooksFor shows card text slot old new None = HasOther shows card text slot old new
LooksFor shows card text slot old new (Some sent) = (sent.slot ≡ slot) × HasIt shows card text old new sent

-- so many places don't have it
abbrev pub HaveOthers : {D : Type 0} → (D → DiskSeen) → Card → List ℕ → (old : Option (List (FolderCall D)))
    → ℕ → (new : Option (List (FolderCall D))) → Type 0
HaveOthers shows card text old n new = EachPlace (λ k. HasOther shows card text (slot_at k)) old n new

-- the first place that has it
pub record FindsFirst {D : Type 0} (shows : D → DiskSeen) (card : Card) (text : List ℕ)
    (old new : Option (List (FolderCall D))) (sent : OnItsWay D) : Type 0 where
  pub mid : Option (List (FolderCall D))
  pub before : HaveOthers shows card text old sent.slot.number mid
  pub there : HasIt shows card text mid new sent

-- None where none of the eight has it
abbrev pub Searches : {D : Type 0} → (D → DiskSeen) → Card → List ℕ → (old new : Option (List (FolderCall D)))
    → Option (OnItsWay D) → Type 0
Searches shows card text old new None = HaveOthers shows card text old 8 new
Searches shows card text old new (Some sent) = FindsFirst shows card text old new sent

-- ---- a free place

abbrev pub AreTaken : {D : Type 0} → (D → DiskSeen) → (old : Option (List (FolderCall D))) → ℕ
    → (new : Option (List (FolderCall D))) → Type 0
AreTaken shows old n new = EachPlace (λ k before now. IsTakenAt shows (slot_at k) before now true) old n new

-- at each place before it something stands
pub record IsFirstFree {D : Type 0} (shows : D → DiskSeen) (old new : Option (List (FolderCall D)))
    (slot : Slot) : Type 0 where
  pub mid : Option (List (FolderCall D))
  pub before : AreTaken shows old slot.number mid
  pub free : IsTakenAt shows slot mid new false

abbrev pub FindsFree : {D : Type 0} → (D → DiskSeen) → (old new : Option (List (FolderCall D))) → Option Slot
    → Type 0
FindsFree shows old new None = AreTaken shows old 8 new
FindsFree shows old new (Some slot) = IsFirstFree shows old new slot

-- ---- the only one that is taken

abbrev pub is_only : Option Slot → ℕ → Bool
is_only None k = false
is_only (Some slot) k = k == slot.number

-- one more place, of which it is known whether something stands there: of two neither is the only one
abbrev pub JoinsOnly : (taken : Bool) → Option Slot → Slot → Option Slot → Type 0
JoinsOnly false only slot new = new ≡ only
JoinsOnly true only slot new = (only ≡ None) × (new ≡ Some slot)

-- at this place something stands, and at no other of the first ones
abbrev pub OnlyTaken : {D : Type 0} → (D → DiskSeen) → (only : Option Slot)
    → (old : Option (List (FolderCall D))) → ℕ → (new : Option (List (FolderCall D))) → Type 0
OnlyTaken shows only old n new =
    EachPlace (λ k before now. IsTakenAt shows (slot_at k) before now (is_only only k)) old n new

-- of the eight; None where nothing stands at any
abbrev pub FindsOnly : {D : Type 0} → (D → DiskSeen) → (old new : Option (List (FolderCall D))) → Option Slot
    → Type 0
FindsOnly shows old new only = OnlyTaken shows only old 8 new

-- At the one place something stands, at another one behind it too, and at none of the others before that.
pub record FindsSeveral {D : Type 0} (shows : D → DiskSeen)
    (old new : Option (List (FolderCall D))) : Type 0 where
  pub one : Slot
  pub number : ℕ
  pub behind : one.number < number
  pub mid : Option (List (FolderCall D))
  pub before : OnlyTaken shows (Some one) old number mid
  pub also : IsTakenAt shows (slot_at number) mid new true

-- the trouble is this one, or a cause
abbrev pub IsCauseOr : Trouble → Trouble → Type 0
IsCauseOr this t = (t ≡ this) ⊎ IsCause t
