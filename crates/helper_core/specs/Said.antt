-- What the helper says to a command, as the body of its reply, and what the command leaves.
use Rattle.std.specs.Prelude.{◌≡◌, ◌+◌, ◌≤◌, ℕ, Bool, List, Result, Ok, Err, slice_get}
use Rattle.express_words.specs.declared.refusal.Refusal.TheVariants as refusal
use Rattle.box_registry.specs.declared.fault.RegFault.{RegFault}
use Rattle.box_registry.specs.declared.fault.RegFault.TheVariants.{Taken, Full}
use Rattle.frame_rules.specs.Frames as frame
use Rattle.frame_rules.specs.Frames.{PlainFrame, PlainBody}
use Rattle.server_boxes.specs.Held.{Holdings}
use Rattle.step_rules.specs.Boxes.{Box}
use Rattle.step_rules.specs.Helper as steps
use Rattle.step_rules.specs.HelperCommands.{Effect, done, read_at, stage_for}
use Rattle.lane_table.specs.declared.row.Want.TheVariants.{Read}
use Rattle.helper_core.specs.declared.said.SaidToLeader.{SaidToLeader}
use Rattle.helper_core.specs.declared.said.SaidToLeader.TheVariants as said

-- the body of the reply, where these are the masked bytes
abbrev pub said_in : SaidToLeader → List ℕ → PlainBody
said_in (said.Registered n) masked = frame.LinkReply (frame.ReplyRegistered n)
said_in (said.Begun count draw) masked = frame.LinkBegun count draw
said_in (said.Audited opened closed) masked = frame.LinkReply (frame.ReplyAudited opened closed)
said_in said.Accepted masked = frame.LinkReply frame.ReplyAccepted
said_in said.Rejected masked = frame.LinkReply frame.ReplyRejected
said_in said.Masked masked = frame.LinkReply (frame.ReplyMasked masked)
said_in (said.Refused r) masked = frame.LinkReply (frame.ReplyRefused r)

-- what is said of an address that was to be registered
abbrev pub added_in : Result ℕ RegFault → SaidToLeader
added_in (Ok n) = said.Registered n
added_in (Err (Taken n)) = said.Refused (refusal.Taken n)
added_in (Err (Full limit)) = said.Refused (refusal.Full limit)

-- what a command leaves of the server, and what is said
abbrev pub effect_in : steps.Server → SaidToLeader → List ℕ → Effect
effect_in server s masked = record { server = server; body = said_in s masked }

-- a command has this effect, whatever masked bytes lie elsewhere
abbrev pub HasEffect : Effect → steps.Server → SaidToLeader → Type 0
HasEffect effect server s = (masked : List ℕ) → effect ≡ effect_in server s masked

-- a command leaves the settings as they were, and takes one draw at most
pub record KeepsSettings (old new : steps.Server) : Type 0 where
  pub settings : new.settings ≡ old.settings
  pub draws : new.draws ≤ old.draws + 1

-- how far the request of a command has come: its lane's stage, or Idle where its serial is another
abbrev pub stage_at : steps.Server → PlainFrame → steps.Stage
stage_at h f = stage_for (steps.row_at h f.lane) f.serial

-- ---- a read

-- what holds of each helper with these boxes, whose messages have their width
abbrev pub AtBoxes : Holdings → (steps.Server → Type 0) → Type 0
AtBoxes held P = (h : steps.Server) → h.boxes ≡ held.boxes → h.settings.width ≡ held.width → P h

-- the read of the box of this number by this token, or its retiring
abbrev pub read_by : steps.Server → PlainFrame → (stays : Bool) → (number token : ℕ) → Effect
read_by h f stays number token = read_at h f stays number token (slice_get h.boxes number)

-- what a read leaves, whose request is done, and what is said
abbrev pub reading_in : steps.Server → PlainFrame → List Box → SaidToLeader → List ℕ → Effect
reading_in h f boxes s masked = effect_in (record (done h f Read) { boxes = boxes }) s masked
