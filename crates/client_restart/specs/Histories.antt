-- What happens to a client that remembers: calls, crashes and reopenings.
use Rattle.std.specs.Prelude.{◌≡◌, ℕ, ◌+◌, List, [], ◌∷◌, ◌++◌, Option, Some, None}
use Rattle.mailbox_rules.specs.Requests.{Request}
use Rattle.step_rules.specs.Client.{Client, Step}
use Rattle.client_restart.specs.declared.opening.ClientOpening.{ClientOpening}
use Rattle.client_restart.specs.Notes.{Noted, Told, Asked, Heard, GivenUp, Owned as OwnedNote, Remark}
use Rattle.client_restart.specs.Steps.{CoreState, fold}

-- A call noted something and answered Ok. Or there was a crash, in a call or between two, and the client was
-- opened again: with the note of the call under way, or without one.
pub data Happening : Type 0 where
  Called : Noted → Happening
  Crashed : Option Noted → Happening

abbrev pub noted_by : Happening → List Noted
noted_by (Called n) = n ∷ []
noted_by (Crashed (Some n)) = n ∷ []
noted_by (Crashed None) = []

-- the notes that stand on the disk after all of this
abbrev pub notes_of : List Happening → List Noted
notes_of [] = []
notes_of (h ∷ happened) = noted_by h ++ notes_of happened

abbrev pub after : ClientOpening → List Happening → CoreState
after o happened = fold o (notes_of happened)

-- ---- one serial, one request

-- Both send for one request, at whichever steps, with one lane and seed: so of the same words.
pub record AreOfOne (c d : Client) : Type 0 where
  pub request : Request
  pub first : Step
  pub later : Step
  pub at_first : c.current ≡ Some (record { request = request; step = first })
  pub at_later : d.current ≡ Some (record { request = request; step = later })
  pub lane : d.lane ≡ c.lane
  pub seed : d.seed ≡ c.seed

-- ---- outcomes

abbrev pub told_by : Noted → ℕ
told_by Told = 1
told_by (Asked request) = 0
told_by (Heard frame) = 0
told_by GivenUp = 0
told_by (OwnedNote number serial) = 0
told_by (Remark words) = 0

-- how many outcomes were told
abbrev pub told_in : List Noted → ℕ
told_in [] = 0
told_in (n ∷ notes) = told_by n + told_in notes
