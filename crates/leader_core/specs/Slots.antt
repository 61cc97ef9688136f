-- The rows of the leader, read from the slots that hold them.
use Rattle.std.specs.Prelude.{◌≡◌, ℕ, ◌≤◌, List, length, map}
use Rattle.frame_rules.specs.Frames as frame
use Rattle.frame_rules.specs.Frames.{PlainBody}
use Rattle.frame_rules.specs.Whole.{IsAnswer}
use Rattle.server_boxes.specs.Held.{HasLeaves, IsRoom, write_in}
use Rattle.server_boxes.specs.declared.room.Room.{Room}
use Rattle.step_rules.specs.Leader as steps
use Rattle.leader_core.specs.declared.slot.LeaderSlot.{LeaderSlot}
use Rattle.leader_core.specs.declared.slot.LeaderStage.{LeaderStage}
use Rattle.leader_core.specs.declared.slot.LeaderStage.TheVariants as stage
use Rattle.leader_core.specs.declared.slot.KeptReply.{KeptReply}
use Rattle.leader_core.specs.declared.slot.KeptReply.TheVariants as kept
use Rattle.leader_core.specs.Asked.{asked_with}

-- ---- rows

-- a reply that is given again; the masked shares of a message lie in the slot
abbrev pub kept_in : KeptReply → List ℕ → List ℕ → PlainBody
kept_in (kept.Registered n) own other = frame.Registered n
kept_in kept.Accepted own other = frame.Accepted
kept_in kept.Message own other = frame.Message own other
kept_in (kept.Refused r) own other = frame.Refused r

-- so of a slot
abbrev pub reply_in : KeptReply → LeaderSlot → PlainBody
reply_in reply s = kept_in reply s.own.items s.other.items

-- with a public part, and both servers' masked shares of a message
abbrev pub stage_with : LeaderStage → List ℕ → List ℕ → List ℕ → steps.Stage
stage_with stage.Idle part own other = steps.Idle
stage_with (stage.Waiting n asked) part own other = steps.Waiting n (asked_with asked part)
stage_with (stage.Challenged b) part own other = steps.Challenged (write_in b part) (frame.Challenge b.ckey)
stage_with (stage.Auditing n b proof opened) part own other =
    steps.Auditing n (write_in b part) proof.share proof.sigma opened
stage_with (stage.Settling n b ours theirs) part own other = steps.Settling n (write_in b part) ours theirs
stage_with (stage.Done want reply) part own other = steps.Done want (kept_in reply own other)

abbrev pub stage_in : LeaderSlot → steps.Stage
stage_in s = stage_with s.stage s.room.part.items s.own.items s.other.items

abbrev pub row_in : LeaderSlot → steps.Row
row_in s = steps.row s.serial (stage_in s)

abbrev pub rows_in : List LeaderSlot → List steps.Row
rows_in slots = map row_in slots

-- the reply that a row keeps
abbrev pub kept_of : steps.Stage → PlainBody
kept_of (steps.Challenged write kept) = kept
kept_of (steps.Done want kept) = kept
kept_of stage = frame.Accepted

-- ---- what holds of a slot

-- a write counts boxes that are there; from the audit on the slot holds its leaves; a kept reply can be given
abbrev pub IsStage : (addresses : List ℕ) → Room → (own other : List ℕ) → LeaderStage → Type 0
IsStage addresses room own other (stage.Challenged b) = b.count ≤ length addresses
IsStage addresses room own other (stage.Auditing n b proof opened) = HasLeaves 0 b room addresses
IsStage addresses room own other (stage.Settling n b ours theirs) = HasLeaves 0 b room addresses
IsStage addresses room own other (stage.Done want reply) = IsAnswer (kept_in reply own other)
IsStage addresses room own other stage = Unit {0}

-- room for a public part and both masked shares of a message of this width, and a leaf for each box
pub record HasRooms (width limit : ℕ) (s : LeaderSlot) : Type 0 where
  pub room : IsRoom width limit s.room
  pub own : length s.own.items ≡ width
  pub other : length s.other.items ≡ width

pub record IsLeaderSlot (width limit : ℕ) (addresses : List ℕ) (s : LeaderSlot) : Type 0 where
  pub rooms : HasRooms width limit s
  pub stage : IsStage addresses s.room s.own.items s.other.items s.stage

-- over these addresses it becomes a slot, of each size that there was room for
abbrev pub BecomesSlot : (addresses : List ℕ) → (old new : LeaderSlot) → Type 0
BecomesSlot addresses old new =
    (width limit : ℕ) → HasRooms width limit old → IsLeaderSlot width limit addresses new

-- over these addresses it is still a slot, where it was one
abbrev pub StaysSlot : (addresses : List ℕ) → (old new : LeaderSlot) → Type 0
StaysSlot addresses old new =
    (width limit : ℕ) → IsLeaderSlot width limit addresses old → IsLeaderSlot width limit addresses new
