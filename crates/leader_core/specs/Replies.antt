-- Commands that wait for their replies, and what the replies say.
use Rattle.std.specs.Prelude.{◌≡◌, ℕ, ◌+◌, Bool, true, false, List, [], ◌∷◌, ◌++◌, drop, Option, Some, None}
use Rattle.express_words.specs.declared.audit.Openings.{Openings}
use Rattle.express_words.specs.declared.audit.Closing.{Closing}
use Rattle.frame_rules.specs.Frames as frame
use Rattle.frame_rules.specs.Frames.{PlainFrame, PlainBody}
use Rattle.frame_rules.specs.Whole.{answer, on_link}
use Rattle.lane_table.specs.declared.row.Want.{Want}
use Rattle.lane_table.specs.declared.row.Want.TheVariants.{Register, Write as Writes, Read}
use Rattle.server_boxes.specs.declared.room.Begun.{Begun}
use Rattle.server_boxes.specs.declared.room.Proof.{Proof}
use Rattle.step_rules.specs.Leader as steps
use Rattle.step_rules.specs.LeaderReplies.{acknowledged}
use Rattle.leader_core.specs.declared.asked.Asked.TheVariants as asked
use Rattle.leader_core.specs.declared.issued.CommandOrder.{CommandOrder}
use Rattle.leader_core.specs.declared.issued.CommandOrder.TheVariants as order
use Rattle.leader_core.specs.declared.applied.Applied.{Applied}
use Rattle.leader_core.specs.declared.applied.Applied.TheVariants as effect
use Rattle.leader_core.specs.declared.slot.LeaderStage.{LeaderStage}
use Rattle.leader_core.specs.declared.slot.LeaderStage.TheVariants as stage
use Rattle.leader_core.specs.Slots.{kept_of}

-- ---- what a command orders

abbrev pub want_of_order : Option CommandOrder → Want
want_of_order (Some (order.Register address)) = Register
want_of_order (Some (order.Read number)) = Read
want_of_order (Some (order.Retire number)) = Read
want_of_order other = Writes

-- ---- what a stage waits for

abbrev pub key_at : LeaderStage → Option (List ℕ)
key_at (stage.Waiting n (asked.Registering address key)) = Some key
key_at stage = None

abbrev pub writing_at : LeaderStage → Option (ℕ × List ℕ)
writing_at (stage.Waiting n (asked.Writing root draw)) = Some (root, draw)
writing_at stage = None

abbrev pub auditing_at : LeaderStage → Option (Begun × Proof × Openings)
auditing_at (stage.Auditing n b proof opened) = Some (b, proof, opened)
auditing_at stage = None

abbrev pub settling_at : LeaderStage → Option (Begun × Closing × Closing)
settling_at (stage.Settling n b ours theirs) = Some (b, ours, theirs)
settling_at stage = None

-- ---- what a reply says

abbrev pub begun_in : PlainBody → Option (ℕ × List ℕ)
begun_in (frame.LinkBegun count draw) = Some (count, draw)
begun_in body = None

abbrev pub audited_in : PlainBody → Option (Openings × Closing)
audited_in (frame.LinkReply (frame.ReplyAudited opened closed)) = Some (opened, closed)
audited_in body = None

abbrev pub verdict_in : PlainBody → Option Bool
verdict_in (frame.LinkReply frame.ReplyAccepted) = Some true
verdict_in (frame.LinkReply frame.ReplyRejected) = Some false
verdict_in body = None

abbrev pub masked_in : PlainBody → Option (List ℕ)
masked_in (frame.LinkReply (frame.ReplyMasked share)) = Some share
masked_in body = None

-- ---- what a reply that fits leaves: the lane's kept reply is given

abbrev pub told : steps.Leader → PlainFrame → steps.AckTurn
told a c = record {
  leader = acknowledged a;
  ack = steps.ToLane c.lane (answer c (kept_of (steps.row_at a c.lane).stage));
}

abbrev pub applied : steps.Leader → PlainFrame → Bool → Option steps.AckTurn
applied a c true = Some (told a c)
applied a c false = None

-- the settle of a row that waits for it is issued
abbrev pub settled_with : steps.Leader → PlainFrame → Closing → steps.AckTurn
settled_with a c own =
    let command = on_link c a.next (frame.LinkSettle own) in
    record {
      leader = record a { outstanding = drop 1 a.outstanding ++ command ∷ []; next = a.next + 1 };
      ack = steps.Settles a.next command;
    }

abbrev pub applied_settle : steps.Leader → PlainFrame → Option Closing → Option steps.AckTurn
applied_settle a c (Some own) = Some (settled_with a c own)
applied_settle a c None = None

abbrev pub applied_as : steps.Leader → PlainFrame → Applied → Option steps.AckTurn
applied_as a c effect.Nothing = None
applied_as a c effect.Kept = Some (told a c)
applied_as a c (effect.Settles own) = Some (settled_with a c own)

-- a settle follows an audit alone
abbrev pub IsAuditFor : Option CommandOrder → Applied → Type 0
IsAuditFor o (effect.Settles own) = o ≡ Some order.Audit
IsAuditFor o other = Unit {0}
