-- A client with what it remembers, read from what holds it.
use Rattle.std.specs.Prelude.{◌≡◌, ◌≢◌, ◌^◌, ◌<◌, ◌++◌, ℕ, List, [], ◌∷◌, length, map, None, vec_capacity}
use Rattle.express_words.specs.Limits.{IsWidth}
use Rattle.step_rules.specs.Client as steps
use Rattle.client_core.specs.declared.progress.Outcome.{Outcome}
use Rattle.client_core.specs.declared.progress.Outcome.TheVariants as outcome
use Rattle.client_restart.specs.declared.ended.Ended.{Ended}
use Rattle.client_restart.specs.declared.ended.KeptOutcome.{KeptOutcome}
use Rattle.client_restart.specs.declared.ended.KeptOutcome.TheVariants as kept
use Rattle.client_restart.specs.declared.errand.Errand.{Errand}
use Rattle.client_restart.specs.declared.owned_box.OwnedBox.{OwnedBox}
use Rattle.client_restart.specs.declared.standing.ClientCore.{ClientCore}
use Rattle.client_restart.specs.Notes.{Noted, Heard, Owned, Remark}
use Rattle.client_restart.specs.Steps.{CoreState, EndedRequest}

abbrev pub outcome_in : KeptOutcome → steps.Outcome
outcome_in (kept.Registered number) = steps.Registered number
outcome_in kept.Accepted = steps.Accepted
outcome_in (kept.Message bytes) = steps.Message bytes.items
outcome_in (kept.Refused refusal) = steps.Refused refusal

-- the outcome, with this message where it is one of a read
abbrev pub with_message : Outcome → List ℕ → steps.Outcome
with_message (outcome.Registered number) message = steps.Registered number
with_message outcome.Accepted message = steps.Accepted
with_message outcome.Message message = steps.Message message
with_message (outcome.Refused refusal) message = steps.Refused refusal

-- a request that ended, with this message where it is a read
abbrev pub ended_by : ℕ → Errand → Outcome → List ℕ → EndedRequest
ended_by serial errand outcome message =
    record { serial = serial; errand = errand; outcome = with_message outcome message }

-- behind the others the box, where one was registered
abbrev pub boxes_of : List OwnedBox → ℕ → Outcome → List OwnedBox
boxes_of boxes serial (outcome.Registered number) = boxes ++ record { number = number; serial = serial } ∷ []
boxes_of boxes serial other = boxes

abbrev pub ended_in : Ended → EndedRequest
ended_in e = record { serial = e.serial; errand = e.errand; outcome = outcome_in e.outcome }

abbrev pub core_in : ClientCore → CoreState
core_in k = record {
  client = k.client;
  untold = map ended_in k.untold.items;
  boxes = k.boxes.items;
  remarks = map (λ words. words.items) k.remarks.items;
}

-- the width is the client's and within the limits, and a current request has a serial
pub record IsCore (k : ClientCore) : Type 0 where
  pub limits : IsWidth k.width
  pub width : k.client.width ≡ k.width
  pub unspent : k.client.current ≢ None → k.client.serial < 2 ^ 32

-- room for a note: of a reply that may end a request, one message, one outcome and one box; of a remark the
-- words and one place for them, of a box one place
abbrev pub HasRoomFor : ClientCore → Noted → List ℕ → Type 0
HasRoomFor k (Heard frame) room =
    (length room ≡ k.width) × (length k.untold.items < vec_capacity k.untold)
    × (length k.boxes.items < vec_capacity k.boxes)
HasRoomFor k (Owned number serial) room = length k.boxes.items < vec_capacity k.boxes
HasRoomFor k (Remark words) room = (room ≡ words) × (length k.remarks.items < vec_capacity k.remarks)
HasRoomFor k note room = Unit {0}

-- the note needs memory
abbrev pub TakesMemory : Noted → Type 0
TakesMemory (Heard frame) = Unit {0}
TakesMemory (Owned number serial) = Unit {0}
TakesMemory (Remark words) = Unit {0}
TakesMemory note = ⊥
