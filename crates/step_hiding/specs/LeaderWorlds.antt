-- The leader in a world: it steps as the tables say, but that leaves and masks are the world's.
use Rattle.std.specs.Prelude.{◌≡◌, ℕ, nat_le, ◌==◌, ◌&&◌, if◌then◌else◌, Bool, true, false, List, [], ◌∷◌}
use Rattle.std.specs.Prelude.{Option, Some, None, slice_get, Result, Ok, Err}
use Rattle.express_words.specs.declared.audit.ProofShare.{ProofShare}
use Rattle.express_words.specs.declared.refusal.Refusal.{Refusal}
use Rattle.express_words.specs.declared.refusal.Refusal.TheVariants as refusal
use Rattle.frame_rules.specs.Frames as frame
use Rattle.frame_rules.specs.Frames.{PlainFrame, PlainBody}
use Rattle.frame_rules.specs.Whole.{whole, is_reply, linked}
use Rattle.frame_rules.specs.Spelling.{spelling}
use Rattle.lane_table.specs.Gates.{closing_gate}
use Rattle.lane_table.specs.declared.gate.Gate.{Gate}
use Rattle.lane_table.specs.declared.gate.Gate.TheVariants.{New, Same}
use Rattle.lane_table.specs.declared.row.Want.TheVariants.{Write as Writes, Read}
use Rattle.audit_rules.specs.Audit.{accepts}
use Rattle.audit_rules.specs.Values.{Write}
use Rattle.step_rules.specs.Boxes.{Box, with_read}
use Rattle.step_rules.specs.Leader.{Leader, Stage, Challenged, Auditing, Settling, Turn, Ack, ToLane, Settles}
use Rattle.step_rules.specs.Leader.{Ignored, AckTurn, row_at, door, refuses, refuses_bytes, written}
use Rattle.step_rules.specs.LeaderClients.{counted, sigma, if_room, issues_drawn, proof_in, proof_at, by_kind}
use Rattle.step_rules.specs.LeaderClients.{on_client}
use Rattle.step_rules.specs.LeaderReplies.{done, accepted, if_settled, if_read, by_command, refusal_in, fits}
use Rattle.step_rules.specs.LeaderReplies.{if_fits, ignored, on_reply_bytes, resent}
use Rattle.step_hiding.specs.Worlds.{World, real, opens_in, written_in, masked_in, Event}
use Rattle.step_hiding.specs.Worlds.{FromClient, FromLink, LinkUp}

-- ---- frames of clients: what an audit opens

abbrev pub audits_in : World → Leader → PlainFrame → Write → ProofShare → Turn
audits_in world a f w share =
    let opened = opens_in (world.leaf f.lane f.serial) w (counted a w) share (sigma a) in
    issues_drawn a f (frame.LinkAudit (sigma a) opened) (Auditing a.next w share (sigma a) opened)

unfoldable pub proof_world : World → Leader → PlainFrame → ProofShare → Stage → Turn
proof_world world a f share (Challenged w kept) = if_room a f (audits_in world a f w share)
proof_world world a f share stage = proof_in a f share stage

unfoldable pub gate_in : World → Leader → PlainFrame → ProofShare → Gate → Turn
gate_in world a f share Same = proof_world world a f share (row_at a f.lane).stage
gate_in world a f share New = proof_world world a f share (row_at a f.lane).stage
gate_in world a f share gate = proof_at a f share gate

unfoldable pub kind_in : World → Leader → PlainFrame → PlainBody → Turn
kind_in world a f (frame.Proof share) =
    if nat_le a.settings.lanes f.lane then refuses a f (refusal.Lane a.settings.lanes) else
    gate_in world a f share (closing_gate (door (row_at a f.lane)) f.serial)
kind_in world a f body = by_kind a f body

unfoldable pub whole_in : World → Leader → Result PlainFrame Refusal → Turn
whole_in world a (Err why) = refuses_bytes a why
whole_in world a (Ok f) = kind_in world a f f.body

abbrev pub on_client_in : World → Leader → List ℕ → Turn
on_client_in world a bytes = whole_in world a (whole bytes)

-- ---- replies of the helper: what an accepted write adds, and the mask of a read

unfoldable pub accepted_in : World → Leader → PlainFrame → Stage → Option AckTurn
accepted_in world a c (Settling number w own other) =
    if accepts own other
    then Some (done (record a { boxes = written_in (world.leaf c.lane c.serial) w a.boxes }) c Writes
    frame.Accepted)
    else None
accepted_in world a c stage = accepted a c stage

abbrev pub settled_in : World → Leader → PlainFrame → Stage → PlainBody → Option AckTurn
settled_in world a c stage (frame.LinkReply frame.ReplyAccepted) = accepted_in world a c stage
settled_in world a c stage body = if_settled a c stage body

unfoldable pub box_in : World → Leader → PlainFrame → Bool → ℕ → Option Box → List ℕ → Option AckTurn
box_in world a c stays number None helpers = None
box_in world a c stays number (Some box) helpers =
    Some (done (record a { boxes = with_read a.settings.width stays number box a.boxes }) c Read
    (frame.Message (masked_in world c.lane c.serial a.settings.width box) helpers))

abbrev pub reads_in : World → Leader → PlainFrame → Bool → ℕ → PlainBody → Option AckTurn
reads_in world a c stays number (frame.LinkReply (frame.ReplyMasked share)) =
    box_in world a c stays number (slice_get a.boxes number) share
reads_in world a c stays number body = if_read a c stays number body

unfoldable pub command_in : World → Leader → PlainFrame → PlainBody → Stage → PlainBody → Option AckTurn
command_in world a c (frame.LinkSettle own) stage body = settled_in world a c stage body
command_in world a c (frame.LinkRead number) stage body = reads_in world a c true number body
command_in world a c (frame.LinkRetire number) stage body = reads_in world a c false number body
command_in world a c command stage body = by_command a c command stage body

unfoldable pub fits_in : World → Leader → PlainFrame → PlainBody → Option Refusal → Option AckTurn
fits_in world a c body (Some why) = fits a c body (Some why)
fits_in world a c body None = command_in world a c c.body (row_at a c.lane).stage body

unfoldable pub answers_in : World → Leader → PlainFrame → Option PlainFrame → AckTurn
answers_in world a f None = ignored a
answers_in world a f (Some c) =
    if (f.link == c.link) && ((f.lane == c.lane) && (f.serial == c.serial))
    then if_fits a (fits_in world a c f.body (refusal_in f.body))
    else ignored a

unfoldable pub if_reply_in : World → Leader → Option PlainFrame → AckTurn
if_reply_in world a (Some f) = answers_in world a f (slice_get a.outstanding 0)
if_reply_in world a None = ignored a

abbrev pub on_reply_in : World → Leader → List ℕ → AckTurn
on_reply_in world a bytes = if_reply_in world a (linked is_reply a.settings.width bytes)

-- in the program's world it is the tables
pub record LeadersAreReal : Type 0 where
  pub clients : (a : Leader) (bytes : List ℕ) → on_client_in (real 0) a bytes ≡ on_client a bytes
  pub replies : (a : Leader) (bytes : List ℕ) → on_reply_in (real 0) a bytes ≡ on_reply_bytes a bytes

-- ---- a run

abbrev pub leader_after : World → Leader → Event → Leader
leader_after world a (FromClient bytes) = (on_client_in world a bytes).leader
leader_after world a (FromLink bytes) = (on_reply_in world a bytes).leader
leader_after world a LinkUp = a

-- what the leader sends at it
abbrev pub told : Ack → List ℕ
told (ToLane lane reply) = spelling reply
told (Settles number command) = spelling command
told Ignored = []

abbrev pub again : Option PlainFrame → List ℕ
again (Some command) = spelling command
again None = []

abbrev pub leader_says : World → Leader → Event → List ℕ
leader_says world a (FromClient bytes) = written (on_client_in world a bytes).answer
leader_says world a (FromLink bytes) = told (on_reply_in world a bytes).ack
leader_says world a LinkUp = again (resent a)

-- all that it sends in a run, to clients and to the helper
unfoldable pub leader_sight : World → Leader → List Event → List (List ℕ)
leader_sight world a [] = []
leader_sight world a (event ∷ events) =
    leader_says world a event ∷ leader_sight world (leader_after world a event) events
