-- What a reply of the helper leaves of the stores, by the frame of its command.
use Rattle.std.specs.Prelude.{◌≡◌, Bool, Option}
use Rattle.express_words.specs.declared.audit.Closing.{Closing}
use Rattle.frame_rules.specs.Frames.{PlainFrame}
use Rattle.step_rules.specs.Leader as steps
use Rattle.leader_core.specs.declared.applied.Applied.{Applied}
use Rattle.leader_core.specs.declared.issued.Issued.{Issued}
use Rattle.leader_core.specs.declared.stores.LeaderStores.{LeaderStores}
use Rattle.leader_core.specs.Commands.{IsIssued}
use Rattle.leader_core.specs.Replies.{applied, applied_as, applied_settle}
use Rattle.leader_core.specs.State.{leader_in}

-- the stage of the row that waits for the command
abbrev pub stage_at : steps.Leader → PlainFrame → steps.Stage
stage_at a c = (steps.row_at a c.lane).stage

-- a step of the leader at a reply, by its command; None where the reply doesn't fit
abbrev pub ReplyStep : Type 0
ReplyStep = steps.Leader → PlainFrame → Option steps.AckTurn

-- at the frame of this command the step from the old stores comes to what is made of the new ones
abbrev pub StepsTo : ReplyStep → (old : LeaderStores) → Issued → (new : LeaderStores) → ReplyStep → Type 0
StepsTo step old i new made =
    (c : PlainFrame) → IsIssued c i → step (leader_in old) c ≡ made (leader_in new) c

-- the reply fits or it doesn't; where it does, the lane's client is told the kept reply
abbrev pub Applies : ReplyStep → (old : LeaderStores) → Issued → (new : LeaderStores) → (fits : Bool) → Type 0
Applies step old i new fits = StepsTo step old i new (λ a c. applied a c fits)

-- where it fits, the settle with this closing is issued
abbrev pub AppliesSettle : ReplyStep → (old : LeaderStores) → Issued → (new : LeaderStores) →
    Option Closing → Type 0
AppliesSettle step old i new own = StepsTo step old i new (λ a c. applied_settle a c own)

-- one of these
abbrev pub AppliesAs : ReplyStep → (old : LeaderStores) → Issued → (new : LeaderStores) → Applied → Type 0
AppliesAs step old i new effect = StepsTo step old i new (λ a c. applied_as a c effect)
