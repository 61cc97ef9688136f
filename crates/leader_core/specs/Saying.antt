-- What is said to a client where no command is issued.
use Rattle.std.specs.Prelude.{◌≡◌, ℕ, List, Option, Some, None, Result, Ok, Err}
use Rattle.express_words.specs.declared.audit.ProofShare.{ProofShare}
use Rattle.frame_rules.specs.Frames.{PlainFrame, plain_body}
use Rattle.frame_rules.specs.Whole.{IsAnswer}
use Rattle.lane_table.specs.declared.row.Want.{Want}
use Rattle.server_boxes.specs.Held.{write_in}
use Rattle.server_boxes.specs.declared.room.Begun.{Begun}
use Rattle.step_rules.specs.Leader as steps
use Rattle.step_rules.specs.LeaderClients.{Named, audits, if_named, if_room, issued_for, on_submission}
use Rattle.leader_core.specs.declared.slot.LeaderSlot.{LeaderSlot}
use Rattle.leader_core.specs.declared.said.SaidToClient.{SaidToClient}
use Rattle.leader_core.specs.declared.said.SaidToClient.TheVariants as said
use Rattle.leader_core.specs.Slots.{row_in}

abbrev pub IsSaid : SaidToClient → Type 0
IsSaid (said.Reply body) = IsAnswer (plain_body body)
IsSaid (said.Waiting n) = Unit {0}

abbrev pub said_in : steps.Leader → PlainFrame → SaidToClient → steps.Turn
said_in a f (said.Reply body) = steps.says a f (plain_body body)
said_in a f (said.Waiting n) = steps.turn a (steps.StillWaiting n)

-- what is said, or else what is issued
abbrev pub or_said : steps.Leader → PlainFrame → Option SaidToClient → steps.Turn → steps.Turn
or_said a f None issued = issued
or_said a f (Some s) issued = said_in a f s

-- the command that is asked for, where there is room for one
abbrev pub ordered : steps.Leader → PlainFrame → steps.Asked → steps.Turn
ordered a f asked = if_room a f (issued_for a f asked)

-- ---- a submission

-- what is said, or else the command that is asked for, where it names a box rightly or none
abbrev pub submitted : steps.Leader → PlainFrame → steps.Asked → Option Named → Option SaidToClient →
    steps.Turn
submitted a f asked named s = or_said a f s (if_named a f named (ordered a f asked))

-- a step of the leader at a submission
abbrev pub SubmissionStep : Type 0
SubmissionStep = steps.Leader → PlainFrame → steps.Asked → Option Named → steps.Turn

-- at each leader and each submission the step is that
abbrev pub TakesSubmissions : SubmissionStep → Option SaidToClient → Type 0
TakesSubmissions step s =
    (a : steps.Leader) (f : PlainFrame) (asked : steps.Asked) (named : Option Named) →
    step a f asked named ≡ submitted a f asked named s

-- so where the frame's lane has the row of this slot
abbrev pub TakesSubmissionsAt : LeaderSlot → SubmissionStep → Option SaidToClient → Type 0
TakesSubmissionsAt slot step s =
    (a : steps.Leader) (f : PlainFrame) (asked : steps.Asked) (named : Option Named) →
    steps.row_at a f.lane ≡ row_in slot → step a f asked named ≡ submitted a f asked named s

-- a submission of this want, with the box that it names, comes to what is said, or else to its command
abbrev pub Admits : steps.Leader → PlainFrame → Want → Option Named → Option SaidToClient → Type 0
Admits a f want named s =
    (asked : steps.Asked) → want ≡ steps.want_in asked →
    on_submission a f asked named ≡ or_said a f s (ordered a f asked)

-- what the gate lets through is issued, or else this is said
abbrev pub LetsThrough : steps.Leader → PlainFrame → (steps.Turn → steps.Turn) → Option SaidToClient → Type 0
LetsThrough a f gate s = (issued : steps.Turn) → gate issued ≡ or_said a f s issued

-- ---- a proof share

-- the audit of the write with this part, or what is said
abbrev pub audit_or_said : steps.Leader → PlainFrame → ProofShare → List ℕ → Result Begun SaidToClient →
    steps.Turn
audit_or_said a f share part (Ok b) = if_room a f (audits a f (write_in b part) share)
audit_or_said a f share part (Err s) = said_in a f s

-- a step of the leader at a proof share
abbrev pub ProofStep : Type 0
ProofStep = steps.Leader → PlainFrame → ProofShare → steps.Turn

-- at each leader and each proof share the step is the audit of the write in this slot, or what is said
abbrev pub TakesProofs : LeaderSlot → ProofStep → Result Begun SaidToClient → Type 0
TakesProofs slot step b =
    (a : steps.Leader) (f : PlainFrame) (share : ProofShare) →
    step a f share ≡ audit_or_said a f share slot.room.part.items b

-- so where the frame's lane has the row of this slot
abbrev pub TakesProofsAt : LeaderSlot → ProofStep → Result Begun SaidToClient → Type 0
TakesProofsAt slot step b =
    (a : steps.Leader) (f : PlainFrame) (share : ProofShare) → steps.row_at a f.lane ≡ row_in slot →
    step a f share ≡ audit_or_said a f share slot.room.part.items b
