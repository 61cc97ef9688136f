-- The leader's state, read from its stores.
use Rattle.std.specs.Prelude.{◌≡◌, ℕ, ◌+◌, ◌-◌, ◌^◌, ◌<◌, ◌≤◌}
use Rattle.std.specs.Prelude.{List, length, slice_get, slice_index_or, All}
use Rattle.express_words.specs.declared.settings.Settings.{Settings}
use Rattle.express_words.specs.declared.audit.ProofShare.{ProofShare}
use Rattle.link_order.specs.Link.{Outstanding, IsOutstanding}
use Rattle.frame_rules.specs.Frames.{PlainFrame}
use Rattle.frame_rules.specs.Spelling.{Spells}
use Rattle.server_boxes.specs.Held.{Holdings, share_of, write_in}
use Rattle.server_boxes.specs.declared.room.Begun.{Begun}
use Rattle.step_rules.specs.Boxes.{addresses_of}
use Rattle.step_rules.specs.Leader as steps
use Rattle.step_rules.specs.LeaderClients.{audits}
use Rattle.leader_core.specs.declared.slot.LeaderSlot.{LeaderSlot}
use Rattle.leader_core.specs.declared.stores.LeaderStores.{LeaderStores}
use Rattle.leader_core.specs.Commands.{audits_in, commands_in, first_of, frame_at}
use Rattle.leader_core.specs.Slots.{rows_in, IsLeaderSlot}

-- ---- the leader

abbrev pub leader_of : Settings → Holdings → List LeaderSlot → Outstanding → ℕ → List ℕ → steps.Leader
leader_of settings held slots link draws seed =
    record {
      settings = settings;
      boxes = held.boxes;
      rows = rows_in slots;
      outstanding = commands_in link.frames;
      next = link.next;
      draws = draws;
      seed = seed;
    }

abbrev pub leader_in : LeaderStores → steps.Leader
leader_in c = leader_of c.settings c.boxes c.slots.items c.link c.draws c.seed

-- the audit of a write that has begun in the slot of the frame's lane, with the part that lies there
abbrev pub audits_there : LeaderStores → PlainFrame → Begun → ProofShare → (no_slot : LeaderSlot) → steps.Turn
audits_there c f b share no_slot =
    let slot = slice_index_or c.slots.items f.lane no_slot in
    audits (leader_in c) f (write_in b slot.room.part.items) share

-- the oldest outstanding command, where one is outstanding
abbrev pub oldest_in : LeaderStores → PlainFrame
oldest_in c = first_of c.link

-- ---- what holds of it

-- the boxes and the slots have the settings' sizes, and a slot for each lane
pub record FitsSettings (settings : Settings) (held : Holdings) (slots : List LeaderSlot) : Type 0 where
  pub limit : held.limit ≡ settings.boxes
  pub within : length held.boxes ≤ settings.boxes
  pub width : held.width ≡ settings.width
  pub lanes : length slots ≡ settings.lanes
  pub rows : All (IsLeaderSlot settings.width settings.boxes (addresses_of held.boxes)) slots

-- the spelling of a frame for a lane that is there
pub record IsCommand (lanes : ℕ) (bytes : List ℕ) : Type 0 where
  pub spelled : Spells (frame_at bytes) bytes
  pub lane : (frame_at bytes).lane < lanes
  pub serial : 1 ≤ (frame_at bytes).serial

-- each outstanding command is one, numbers are left for the settles of those that are audits, and a draw goes
-- with a command
pub record IsLink (settings : Settings) (link : Outstanding) (draws : ℕ) : Type 0 where
  pub window : link.window ≡ settings.window
  pub size : link.size ≡ 8213
  pub order : IsOutstanding link
  pub commands : All (IsCommand settings.lanes) link.frames
  pub last : link.next + audits_in link.frames ≤ 2 ^ 64 - 32
  pub drawn : draws < link.next

pub record AreStores (c : LeaderStores) : Type 0 where
  pub server : FitsSettings c.settings c.boxes c.slots.items
  pub link : IsLink c.settings c.link c.draws

-- what a reply's effect keeps: the link, the settings, and that the stores are right
pub record KeepsStores (old new : LeaderStores) : Type 0 where
  pub link : new.link ≡ old.link
  pub settings : new.settings ≡ old.settings
  pub is : AreStores new

-- the share of a box; zeros where there is none
abbrev pub share_in : steps.Leader → ℕ → List ℕ
share_in a number = share_of a.settings.width (slice_get a.boxes number)
