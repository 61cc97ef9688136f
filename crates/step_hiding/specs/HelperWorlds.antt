-- The helper in a world: it steps as the tables say, but that leaves and masks are the world's.
use Rattle.std.specs.Prelude.{◌≡◌, ℕ, ◌+◌, nat_le, ◌==◌, if◌then◌else◌, true, false, List, [], ◌∷◌}
use Rattle.std.specs.Prelude.{Option, Some, None, slice_get}
use Rattle.express_words.specs.declared.audit.ProofShare.{ProofShare}
use Rattle.express_words.specs.declared.audit.Openings.{Openings}
use Rattle.express_words.specs.declared.audit.Closing.{Closing}
use Rattle.express_words.specs.declared.refusal.Refusal.TheVariants as refusal
use Rattle.frame_rules.specs.Frames as frame
use Rattle.frame_rules.specs.Frames.{PlainFrame, PlainBody}
use Rattle.frame_rules.specs.Whole.{is_command, linked}
use Rattle.frame_rules.specs.Spelling.{spelling}
use Rattle.lane_table.specs.declared.row.Want.TheVariants.{Write as Writes}
use Rattle.audit_rules.specs.Audit.{accepts}
use Rattle.audit_rules.specs.Values.{Write}
use Rattle.step_rules.specs.Boxes.{Box}
use Rattle.step_rules.specs.Helper.{Helper, Server, Stage, LinkTurn, Ignored, row_at, written}
use Rattle.step_rules.specs.HelperClients.{on_client}
use Rattle.step_rules.specs.HelperCommands.{Effect, effect, replies_with, refuses, done, stage_for, counted}
use Rattle.step_rules.specs.HelperCommands.{held_proof, held_closing, held_token, audited, audit, settle}
use Rattle.step_rules.specs.HelperCommands.{read, command, carried_with, arrives, on_link_bytes}
use Rattle.step_hiding.specs.Worlds.{World, real, values_in, written_in, masked_in, Event}
use Rattle.step_hiding.specs.Worlds.{FromClient, FromLink, LinkUp}

unfoldable pub audit_in : World → Server → PlainFrame → ℕ → Openings → Option (Option (Write × ProofShare))
    → Effect
audit_in world h f sigma other (Some (Some p)) =
    audited h f p.0 (values_in (world.leaf f.lane f.serial) 1 p.0 (counted h p.0) p.1 sigma other)
audit_in world h f sigma other held = audit h f sigma other held

unfoldable pub settle_in : World → Server → PlainFrame → Closing → Option (Write × Closing) → Effect
settle_in world h f leaders (Some a) =
    if accepts leaders a.1
    then
    replies_with
    (record (done h f Writes) { boxes = written_in (world.leaf f.lane f.serial) a.0 h.boxes })
    frame.ReplyAccepted
    else replies_with (done h f Writes) frame.ReplyRejected
settle_in world h f leaders None = settle h f leaders None

-- a box's share, where that is the reply
unfoldable pub body_in : World → Server → PlainFrame → Option Box → PlainBody → PlainBody
body_in world h f (Some box) (frame.LinkReply (frame.ReplyMasked share)) =
    frame.LinkReply (frame.ReplyMasked (masked_in world f.lane f.serial h.settings.width box))
body_in world h f found body = body

abbrev pub read_in : World → Server → PlainFrame → ℕ → Effect → Effect
read_in world h f number e = effect e.server (body_in world h f (slice_get h.boxes number) e.body)

unfoldable pub command_in : World → Server → PlainFrame → PlainBody → Stage → Effect
command_in world h f (frame.LinkAudit sigma opened) stage = audit_in world h f sigma opened (held_proof stage)
command_in world h f (frame.LinkSettle leaders) stage = settle_in world h f leaders (held_closing stage)
command_in world h f (frame.LinkRead number) stage =
    read_in world h f number (read h f true number (held_token stage))
command_in world h f (frame.LinkRetire number) stage =
    read_in world h f number (read h f false number (held_token stage))
command_in world h f body stage = command h f body stage

unfoldable pub carries_in : World → Server → PlainFrame → Effect
carries_in world h f =
    if nat_le h.settings.lanes f.lane then refuses h (refusal.Lane h.settings.lanes) else
    command_in world h f f.body (stage_for (row_at h f.lane) f.serial)

-- what isn't carried out is no matter of worlds
unfoldable pub arrives_in : World → Helper → PlainFrame → LinkTurn
arrives_in world h f =
    if f.link == h.carried + 1 then carried_with h f (carries_in world h.server f) else arrives h f

unfoldable pub if_command_in : World → Helper → Option PlainFrame → LinkTurn
if_command_in world h (Some f) = arrives_in world h f
if_command_in world h None = record { helper = h; answer = Ignored }

abbrev pub on_link_in : World → Helper → List ℕ → LinkTurn
on_link_in world h bytes = if_command_in world h (linked is_command h.server.settings.width bytes)

-- in the program's world it is the table
abbrev pub HelpersAreReal : Type 0
HelpersAreReal = (h : Helper) (bytes : List ℕ) → on_link_in (real 1) h bytes ≡ on_link_bytes h bytes

-- ---- a run

abbrev pub helper_after : World → Helper → Event → Helper
helper_after world h (FromClient bytes) = (on_client h bytes).helper
helper_after world h (FromLink bytes) = (on_link_in world h bytes).helper
helper_after world h LinkUp = h

-- what the helper sends at it
abbrev pub helper_says : World → Helper → Event → List ℕ
helper_says world h (FromClient bytes) = spelling (on_client h bytes).reply
helper_says world h (FromLink bytes) = written (on_link_in world h bytes).answer
helper_says world h LinkUp = []

-- all that it sends in a run, to clients and to the leader
unfoldable pub helper_sight : World → Helper → List Event → List (List ℕ)
helper_sight world h [] = []
helper_sight world h (event ∷ events) =
    helper_says world h event ∷ helper_sight world (helper_after world h event) events
