-- The rows of the helper, read from the slots that hold them.
use Rattle.std.specs.Prelude.{◌≡◌, ℕ, ◌≤◌, List, All, length, map, Option, Some, None}
use Rattle.frame_rules.specs.declared.frame.DepositBody.{DepositBody}
use Rattle.frame_rules.specs.Frames as frame
use Rattle.frame_rules.specs.Frames.{PlainFrame, PlainBody}
use Rattle.frame_rules.specs.Whole.{answer, IsAnswer}
use Rattle.lane_table.specs.declared.row.Want.{Want}
use Rattle.server_boxes.specs.Held.{HasLeaves, IsRoom, write_in}
use Rattle.server_boxes.specs.declared.room.Room.{Room}
use Rattle.step_rules.specs.Helper as steps
use Rattle.step_rules.specs.HelperClients.{RowTurn, deposit_row, if_lane, proof_row}
use Rattle.helper_core.specs.declared.slot.HelperSlot.{HelperSlot}
use Rattle.helper_core.specs.declared.slot.HelperStage.{HelperStage}
use Rattle.helper_core.specs.declared.slot.HelperStage.TheVariants as stage
use Rattle.helper_core.specs.declared.taken.ClientBody.{ClientBody}
use Rattle.helper_core.specs.declared.taken.ClientBody.TheVariants as taken

abbrev pub stage_with : HelperStage → List ℕ → steps.Stage
stage_with stage.Idle part = steps.Idle
stage_with (stage.Deposited held) part = steps.Deposited held
stage_with (stage.Begun b) part = steps.Begun (write_in b part)
stage_with (stage.Proved b share) part = steps.Proved (write_in b part) share
stage_with (stage.Audited b closing) part = steps.Audited (write_in b part) closing
stage_with (stage.Done w) part = steps.Done w

abbrev pub stage_in : HelperSlot → steps.Stage
stage_in s = stage_with s.stage s.room.part.items

abbrev pub row_in : HelperSlot → steps.Row
row_in s = steps.row s.serial (stage_in s)

abbrev pub rows_in : List HelperSlot → List steps.Row
rows_in slots = map row_in slots

-- a write counts boxes that are there; after the audit the slot holds its leaves
abbrev pub IsStage : List ℕ → Room → HelperStage → Type 0
IsStage addresses room (stage.Begun b) = b.count ≤ length addresses
IsStage addresses room (stage.Proved b share) = b.count ≤ length addresses
IsStage addresses room (stage.Audited b closing) = HasLeaves 1 b room addresses
IsStage addresses room other = Unit {0}

-- a slot has room for a public part of this width and for as many leaves as boxes
pub record IsHelperSlot (width limit : ℕ) (addresses : List ℕ) (s : HelperSlot) : Type 0 where
  pub room : IsRoom width limit s.room
  pub stage : IsStage addresses s.room s.stage

-- what holds of the addresses of the boxes, whichever these are, for which it is a slot
abbrev pub IfSlot : HelperSlot → (List ℕ → Type 0) → Type 0
IfSlot s P = (width limit : ℕ) (addresses : List ℕ) → IsHelperSlot width limit addresses s → P addresses

-- over these addresses it becomes a slot, of each size that there was room for
abbrev pub BecomesSlot : (addresses : List ℕ) → (old new : HelperSlot) → Type 0
BecomesSlot addresses old new =
    (width limit : ℕ) → IsRoom width limit old.room → IsHelperSlot width limit addresses new

-- over these addresses it is still a slot, where it was one
abbrev pub StaysSlot : (addresses : List ℕ) → (old new : HelperSlot) → Type 0
StaysSlot addresses old new =
    (width limit : ℕ) → IsHelperSlot width limit addresses old → IsHelperSlot width limit addresses new

-- of each size, and over all addresses, for which these are slots they are so still
abbrev pub StaySlots : (old new : List HelperSlot) → Type 0
StaySlots old new =
    (width limit : ℕ) (addresses : List ℕ) →
    All (IsHelperSlot width limit addresses) old → All (IsHelperSlot width limit addresses) new

-- a client's frame does this to the slot's row, and this answers it
pub record TakesTurn (t : RowTurn) (old new : HelperSlot) (said : PlainBody) : Type 0 where
  pub row : row_in new ≡ t.row
  pub body : said ≡ t.body
  pub answer : IsAnswer said
  pub is_slot : (addresses : List ℕ) → StaysSlot addresses old new

-- the helper has these lanes, and these slots hold its rows
pub record IsOf (h : steps.Server) (count : ℕ) (slots : List HelperSlot) : Type 0 where
  pub lanes : h.settings.lanes ≡ count
  pub rows : h.rows ≡ rows_in slots

-- what holds of each helper with these lanes, whose rows these slots hold
abbrev pub AtRows : (count : ℕ) → List HelperSlot → (steps.Server → Type 0) → Type 0
AtRows count slots P = (h : steps.Server) → IsOf h count slots → P h

-- the same helper with the rows of these slots, and its reply
abbrev pub turn_in : steps.Server → List HelperSlot → PlainFrame → steps.Turn
turn_in h slots reply = record { server = record h { rows = rows_in slots }; reply = reply }

abbrev pub answer_in : steps.Server → List HelperSlot → PlainFrame → PlainBody → steps.Turn
answer_in h slots f body = turn_in h slots (answer f body)

-- what a body brings that the helper takes from clients
abbrev pub taken_in : PlainBody → Option ClientBody
taken_in (frame.Deposit held) = Some (taken.Deposit held)
taken_in (frame.Proof share) = Some (taken.Proof share)
taken_in body = None

-- what it does at a row
abbrev pub row_with : steps.Row → ℕ → ClientBody → RowTurn
row_with r serial (taken.Deposit held) = deposit_row r serial held
row_with r serial (taken.Proof share) = proof_row r serial share

abbrev pub taken_row : steps.Server → PlainFrame → ClientBody → RowTurn
taken_row h f brought = row_with (steps.row_at h f.lane) f.serial brought

-- what it does with that in a frame, whose lane may not be there
abbrev pub taken_turn : steps.Server → PlainFrame → ClientBody → steps.Turn
taken_turn h f brought = if_lane h f (taken_row h f brought)

abbrev pub want_for : DepositBody → Want
want_for held = steps.want_in held
