-- The helper's state, read from its stores.
use Rattle.std.specs.Prelude.{◌≡◌, ℕ, ◌≤◌, List, length, slice_get, All}
use Rattle.express_words.specs.declared.settings.Settings.{Settings}
use Rattle.link_order.specs.Link.{Carried, IsCarried}
use Rattle.frame_rules.specs.Spelling.{spelling, IsFrame}
use Rattle.server_boxes.specs.Held.{Holdings, share_of}
use Rattle.step_rules.specs.Boxes.{addresses_of}
use Rattle.step_rules.specs.Helper as steps
use Rattle.helper_core.specs.declared.helper.LinkTurn.{LinkTurn}
use Rattle.helper_core.specs.declared.helper.LinkTurn.TheVariants as turn
use Rattle.helper_core.specs.declared.slot.HelperSlot.{HelperSlot}
use Rattle.helper_core.specs.Slots.{rows_in, IsHelperSlot}

abbrev pub server_in : Settings → Holdings → List HelperSlot → ℕ → List ℕ → steps.Server
server_in settings held slots draws seed =
    record { settings = settings; boxes = held.boxes; rows = rows_in slots; draws = draws; seed = seed }

-- the boxes and the slots have the settings' sizes, and a slot for each lane
pub record IsServer (settings : Settings) (held : Holdings) (slots : List HelperSlot) : Type 0 where
  pub limit : held.limit ≡ settings.boxes
  pub within : length held.boxes ≤ settings.boxes
  pub width : held.width ≡ settings.width
  pub lanes : length slots ≡ settings.lanes
  pub rows : All (IsHelperSlot settings.width settings.boxes (addresses_of held.boxes)) slots

-- the link keeps replies of frames up to the window, and no more draws were taken than commands carried
pub record IsHelper (server : steps.Server) (link : Carried) (masked : List ℕ) : Type 0 where
  pub window : link.window ≡ server.settings.window
  pub size : link.size ≡ 8213
  pub kept : IsCarried link
  pub draws : server.draws ≤ link.carried
  pub mask : length masked ≡ server.settings.width

abbrev pub helper_in : steps.Server → Carried → steps.Helper
helper_in server link = record { server = server; carried = link.carried; replies = link.replies }

-- the share of a box; zeros where there is none
abbrev pub share_in : steps.Server → ℕ → List ℕ
share_in h number = share_of h.settings.width (slice_get h.boxes number)

-- an answer to the leader, by its kind and its length
abbrev pub turned : steps.Answer → LinkTurn
turned (steps.Carried reply) = turn.Carried (length (spelling reply))
turned (steps.Repeated bytes) = turn.Repeated (length bytes)
turned steps.Ignored = turn.Ignored

-- the reply to a command that is carried out is a frame
abbrev pub IsCarriedFrame : steps.Answer → Type 0
IsCarriedFrame (steps.Carried reply) = IsFrame reply
IsCarriedFrame (steps.Repeated bytes) = Unit {0}
IsCarriedFrame steps.Ignored = Unit {0}
