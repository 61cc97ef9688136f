-- In the program's world a server is the tables.
use Rattle.std.specs.Prelude.{◌≡◌, ℕ, ◌+◌, ◌&&◌, Bool, true, false, cond, nat_le, nat_eq, refl, List, Option, Some, None, Result, Ok, Err, slice_get}
use Rattle.std.proofs.Common.{ap}
use Rattle.express_words.specs.declared.audit.ProofShare.{ProofShare}
use Rattle.express_words.specs.declared.audit.Openings.{Openings}
use Rattle.express_words.specs.declared.audit.Closing.{Closing}
use Rattle.express_words.specs.declared.refusal.Refusal.{Refusal}
use Rattle.express_words.specs.declared.refusal.Refusal.TheVariants as refusal
use Rattle.frame_rules.specs.Frames as frame
use Rattle.frame_rules.specs.Frames.{PlainFrame, PlainBody}
use Rattle.frame_rules.specs.Whole.{whole, linked, is_command, is_reply}
use Rattle.lane_table.specs.Gates.{closing_gate}
use Rattle.lane_table.specs.declared.gate.Gate.{Gate}
use Rattle.lane_table.specs.declared.gate.Gate.TheVariants.{New, Same}
use Rattle.lane_table.specs.declared.row.Want.TheVariants.{Read}
use Rattle.dpf_rules.specs.Expansion.{token}
use Rattle.audit_rules.specs.Values.{Write, values, opens, sums_at}
use Rattle.step_rules.specs.Boxes.{Box, with_write}
use Rattle.step_rules.specs.Helper as helper
use Rattle.step_rules.specs.Helper.{Server, Helper, row_at, Ignored}
use Rattle.step_rules.specs.HelperCommands as steps
use Rattle.step_rules.specs.HelperCommands.{Effect, done, stage_for, held_proof, held_closing, held_token, audit, settle, read_live, read_at, read, command, carries_out, carried_with, arrives, if_command, on_link_bytes}
use Rattle.step_rules.specs.Leader as leader
use Rattle.step_rules.specs.Leader.{Leader, Stage, Idle, Waiting, Challenged, Auditing, Settling, Done}
use Rattle.step_rules.specs.LeaderClients.{proof_in, proof_at, on_proof, by_kind, on_whole}
use Rattle.step_rules.specs.LeaderReplies as replies
use Rattle.step_rules.specs.LeaderReplies.{accepted, if_settled, if_read, by_command, refusal_in, fits, answers, if_fits, if_reply, on_reply_bytes}
use Rattle.step_hiding.specs.Worlds.{real, sums_in, opens_in, values_in, written_in}
use Rattle.step_hiding.specs.HelperWorlds as helper_worlds
use Rattle.step_hiding.specs.HelperWorlds.{audit_in, settle_in, body_in, carries_in, arrives_in, if_command_in, HelpersAreReal}
use Rattle.step_hiding.specs.LeaderWorlds as leader_worlds
use Rattle.step_hiding.specs.LeaderWorlds.{proof_world, gate_in, kind_in, whole_in, accepted_in, settled_in, box_in, reads_in, fits_in, answers_in, if_reply_in, LeadersAreReal}

-- ---- the helper

module _ (h : Server) (f : PlainFrame) where
  audits : (sigma : ℕ) (other : Openings) (held : Option (Option (Write × ProofShare))) → audit_in (real 1) h f sigma other held ≡ audit h f sigma other held
  unfolding audit_in audit real values_in opens_in sums_in values opens sums_at
  audits sigma other (Some (Some p)) = refl
  audits sigma other (Some None) = refl
  audits sigma other None = refl

  settles : (leaders : Closing) (held : Option (Write × Closing)) → settle_in (real 1) h f leaders held ≡ settle h f leaders held
  unfolding settle_in settle real written_in with_write
  settles leaders (Some a) = refl
  settles leaders None = refl

  abbrev Fine : Option Box → Effect → Type 0
  Fine found e = steps.effect e.server (body_in (real 1) h f found e.body) ≡ e

  fine_either : (found : Option Box) (b : Bool) (d e : Effect) → Fine found d → Fine found e → Fine found (cond b d e)
  fine_either found true d e p q = p
  fine_either found false d e p q = q

  refused : (found : Option Box) (s : Server) (why : Refusal) → Fine found (steps.refuses s why)
  unfolding body_in
  refused (Some box) s why = refl
  refused None s why = refl

  reads_live : (stays : Bool) (number held : ℕ) (box : Box) → Fine (Some box) (read_live h f stays number held box)
  unfolding read_live body_in real
  reads_live stays number held box =
      fine_either (Some box) (nat_eq held (token box.key f.lane f.serial)) _ _ refl (refused (Some box) (done h f Read) (refusal.BadToken number))

  reads_at : (stays : Bool) (number held : ℕ) (found : Option Box) → Fine found (read_at h f stays number held found)
  unfolding read_at
  reads_at stays number held None = refused None (done h f Read) (refusal.NoBox number)
  reads_at stays number held (Some box) =
      fine_either (Some box) box.live _ _ (reads_live stays number held box) (refused (Some box) (done h f Read) (refusal.NoBox number))

  reads : (stays : Bool) (number : ℕ) (held : Option ℕ) → Fine (slice_get h.boxes number) (read h f stays number held)
  unfolding read
  reads stays number (Some held) = reads_at stays number held (slice_get h.boxes number)
  reads stays number None = refused (slice_get h.boxes number) h refusal.NoDeposit

  commands : (body : PlainBody) (x : helper.Stage) → helper_worlds.command_in (real 1) h f body x ≡ command h f body x
  unfolding helper_worlds.command_in command
  commands (frame.LinkAudit sigma opened) x = audits sigma opened (held_proof x)
  commands (frame.LinkSettle leaders) x = settles leaders (held_closing x)
  commands (frame.LinkRead number) x = reads true number (held_token x)
  commands (frame.LinkRetire number) x = reads false number (held_token x)
  commands body x = refl

  carries : carries_in (real 1) h f ≡ carries_out h f
  unfolding carries_in carries_out
  carries =
      ap (λ e. cond (nat_le h.settings.lanes f.lane) (steps.refuses h (refusal.Lane h.settings.lanes)) e)
      (commands f.body (stage_for (row_at h f.lane) f.serial))

arrival : (h : Helper) (f : PlainFrame) → arrives_in (real 1) h f ≡ arrives h f
unfolding arrives_in arrives
arrival h f = by (nat_eq f.link (h.carried + 1)) _
  where
    by : (next : Bool) (rest : helper.LinkTurn) → cond next (carried_with h f (carries_in (real 1) h.server f)) (cond next (carried_with h f (carries_out h.server f)) rest) ≡ cond next (carried_with h f (carries_out h.server f)) rest
    by true rest = ap (carried_with h f) (carries h.server f)
    by false rest = refl

found_real : (h : Helper) (found : Option PlainFrame) → if_command_in (real 1) h found ≡ if_command h found
unfolding if_command_in if_command
found_real h (Some f) = arrival h f
found_real h None = refl

pub helpers_are_real : HelpersAreReal
helpers_are_real h bytes = found_real h (linked is_command h.server.settings.width bytes)

-- ---- the leader

module _ (a : Leader) where
  proofs_in : (f : PlainFrame) (share : ProofShare) (x : Stage) → proof_world (real 0) a f share x ≡ proof_in a f share x
  unfolding proof_world proof_in real opens_in sums_in opens sums_at
  proofs_in f share (Challenged w kept) = refl
  proofs_in f share x = refl

  gates : (f : PlainFrame) (share : ProofShare) (gate : Gate) → gate_in (real 0) a f share gate ≡ proof_at a f share gate
  unfolding gate_in proof_at
  gates f share Same = proofs_in f share (leader.row_at a f.lane).stage
  gates f share New = proofs_in f share (leader.row_at a f.lane).stage
  gates f share gate = refl

  kinds : (f : PlainFrame) (body : PlainBody) → kind_in (real 0) a f body ≡ by_kind a f body
  unfolding kind_in by_kind on_proof
  kinds f (frame.Proof share) =
      ap (λ t. cond (nat_le a.settings.lanes f.lane) (leader.refuses a f (refusal.Lane a.settings.lanes)) t)
      (gates f share (closing_gate (leader.door (leader.row_at a f.lane)) f.serial))
  kinds f body = refl

  wholes : (found : Result PlainFrame Refusal) → whole_in (real 0) a found ≡ on_whole a found
  unfolding whole_in on_whole
  wholes (Err why) = refl
  wholes (Ok f) = kinds f f.body

  module _ (c : PlainFrame) where
    accepts_it : (x : Stage) → accepted_in (real 0) a c x ≡ accepted a c x
    unfolding accepted_in accepted real written_in with_write
    accepts_it (Settling n w own other) = refl
    accepts_it x = refl

    settled : (x : Stage) (body : PlainBody) → settled_in (real 0) a c x body ≡ if_settled a c x body
    settled x (frame.LinkReply frame.ReplyAccepted) = accepts_it x
    settled x body = refl

    boxes : (stays : Bool) (number : ℕ) (found : Option Box) (share : List ℕ) → box_in (real 0) a c stays number found share ≡ replies.read a c stays number found share
    unfolding box_in replies.read real
    boxes stays number (Some box) share = refl
    boxes stays number None share = refl

    replied : (stays : Bool) (number : ℕ) (body : PlainBody) → reads_in (real 0) a c stays number body ≡ if_read a c stays number body
    replied stays number (frame.LinkReply (frame.ReplyMasked share)) = boxes stays number (slice_get a.boxes number) share
    replied stays number body = refl

    by_commands : (command : PlainBody) (x : Stage) (body : PlainBody) → leader_worlds.command_in (real 0) a c command x body ≡ by_command a c command x body
    unfolding leader_worlds.command_in by_command
    by_commands (frame.LinkSettle own) x body = settled x body
    by_commands (frame.LinkRead number) x body = replied true number body
    by_commands (frame.LinkRetire number) x body = replied false number body
    by_commands command x body = refl

    fitting : (body : PlainBody) (why : Option Refusal) → fits_in (real 0) a c body why ≡ fits a c body why
    unfolding fits_in fits
    fitting body (Some why) = refl
    fitting body None = by_commands c.body (leader.row_at a c.lane).stage body

  oldest : (f : PlainFrame) (found : Option PlainFrame) → answers_in (real 0) a f found ≡ answers a f found
  unfolding answers_in answers
  oldest f None = refl
  oldest f (Some c) =
      ap (λ found. cond ((nat_eq f.link c.link) && ((nat_eq f.lane c.lane) && (nat_eq f.serial c.serial))) (if_fits a found) (replies.ignored a))
      (fitting c f.body (refusal_in f.body))

  found_reply : (found : Option PlainFrame) → if_reply_in (real 0) a found ≡ if_reply a found
  unfolding if_reply_in if_reply
  found_reply (Some f) = oldest f (slice_get a.outstanding 0)
  found_reply None = refl

pub leaders_are_real : LeadersAreReal
leaders_are_real = record {
  clients = λ a bytes. wholes a (whole bytes);
  replies = λ a bytes. found_reply a (linked is_reply a.settings.width bytes);
}
