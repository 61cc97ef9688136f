-- A client with what it remembers, and what each note does to it.
use Rattle.std.specs.Prelude.{ℕ, List, [], ◌∷◌, ◌++◌, drop, Option, Some, None, Result, Ok, Err}
use Rattle.mailbox_rules.specs.Requests.{Request, Register, Write, Read, Retire}
use Rattle.step_rules.specs.Client.{Client, Current, Fault, Outcome, Registered, Progress, Finished}
use Rattle.step_rules.specs.Client.{opened_client}
use Rattle.step_rules.specs.ClientAsks as asks
use Rattle.step_rules.specs.ClientReplies.{on_reply}
use Rattle.client_core.specs.GivingUp as giving_up
use Rattle.client_restart.specs.declared.errand.Errand.{Errand}
use Rattle.client_restart.specs.declared.errand.Errand.TheVariants as errand
use Rattle.client_restart.specs.declared.opening.ClientOpening.{ClientOpening}
use Rattle.client_restart.specs.declared.owned_box.OwnedBox.{OwnedBox}
use Rattle.client_restart.specs.Notes.{Noted, Asked, Heard, Told, GivenUp, Owned, Remark}

-- a request without the message of a write
abbrev pub errand_of : Request → Errand
errand_of (Register address) = errand.Register address
errand_of (Write target message) = errand.Write target
errand_of (Read own) = errand.Read own
errand_of (Retire own) = errand.Retire own

-- how a request ended: its serial, what it was, and its outcome with the message of a read
pub record EndedRequest : Type 0 where
  pub serial : ℕ
  pub errand : Errand
  pub outcome : Outcome

-- A client, the outcomes that weren't told yet, oldest first, its boxes in the order in which it got them,
-- each with its number and the serial that registered it, and the words of the program above.
pub record CoreState : Type 0 where
  pub client : Client
  pub untold : List EndedRequest
  pub boxes : List OwnedBox
  pub remarks : List (List ℕ)

abbrev pub opened : ClientOpening → CoreState
opened o = record {
  client = opened_client o.lane o.seed o.width o.capacity o.first_serial;
  untold = [];
  boxes = [];
  remarks = [];
}

-- ---- a request

abbrev pub client_or : Client → Result Client Fault → Client
client_or c (Ok taken) = taken
client_or c (Err fault) = c

abbrev pub asked : CoreState → Request → CoreState
asked k request = record k { client = client_or k.client (asks.asked k.client request) }

-- ---- a reply

abbrev pub ended : ℕ → Current → Outcome → EndedRequest
ended serial now outcome = record { serial = serial; errand = errand_of now.request; outcome = outcome }

-- behind the others the outcome, where the current request is finished
abbrev pub untold_with : List EndedRequest → ℕ → Option Current → Progress → List EndedRequest
untold_with untold serial (Some now) (Finished outcome) = untold ++ ended serial now outcome ∷ []
untold_with untold serial now progress = untold

-- behind the others the box, where one was registered
abbrev pub boxes_with : List OwnedBox → ℕ → Progress → List OwnedBox
boxes_with boxes serial (Finished (Registered number)) =
    boxes ++ record { number = number; serial = serial } ∷ []
boxes_with boxes serial progress = boxes

abbrev pub heard : CoreState → List ℕ → CoreState
heard k frame =
    let turn = on_reply k.client frame in
    record {
      client = turn.client;
      untold = untold_with k.untold k.client.serial k.client.current turn.progress;
      boxes = boxes_with k.boxes k.client.serial turn.progress;
      remarks = k.remarks;
    }

-- ---- a box of an earlier journal

-- nothing where a request is current or no box more has room
abbrev pub owned_with : CoreState → OwnedBox → Option Current → Option Client → CoreState
owned_with k b None (Some more) = record k { client = more; boxes = k.boxes ++ b ∷ [] }
owned_with k b now more = k

abbrev pub owned : CoreState → ℕ → ℕ → CoreState
owned k number serial =
    owned_with k (record { number = number; serial = serial }) k.client.current
    (asks.owning k.client number serial)

-- ---- any note

abbrev pub step_of : CoreState → Noted → CoreState
step_of k (Asked request) = asked k request
step_of k (Heard frame) = heard k frame
step_of k Told = record k { untold = drop 1 k.untold }
step_of k GivenUp = record k { client = giving_up.given_up k.client }
step_of k (Owned number serial) = owned k number serial
step_of k (Remark words) = record k { remarks = k.remarks ++ words ∷ [] }

abbrev pub fold_from : CoreState → List Noted → CoreState
fold_from k [] = k
fold_from k (n ∷ notes) = fold_from (step_of k n) notes

-- the client that an opening and notes give
abbrev pub fold : ClientOpening → List Noted → CoreState
fold o notes = fold_from (opened o) notes
