-- The laws of a client that remembers, over any calls, crashes and reopenings.
use Rattle.std.specs.Prelude.{◌≡◌, ◌≤◌, ◌<◌, ◌-◌, ◌++◌, ◌∷◌, [], ℕ, List, Some, slice_get}
use Rattle.step_rules.specs.Client.{Current, Outcome, Finished}
use Rattle.step_rules.specs.ClientAsks.{Sent, sends}
use Rattle.step_rules.specs.ClientReplies.{on_reply}
use Rattle.client_restart.specs.declared.opening.ClientOpening.{ClientOpening}
use Rattle.client_restart.specs.Histories.{AreOfOne, Happening, after, noted_by, notes_of, told_in}
use Rattle.client_restart.specs.Notes.{GivenUp, Heard}
use Rattle.client_restart.specs.Steps.{EndedRequest, ended}

-- serials only rise
abbrev pub SerialsRise : Type 0
SerialsRise = (o : ClientOpening) (happened more : List Happening)
    → (after o happened).client.serial ≤ (after o (happened ++ more)).client.serial

-- all frames that are ever sent under one serial are frames of one request
abbrev pub FramesAreOfOneRequest : Type 0
FramesAreOfOneRequest = (o : ClientOpening) (happened more : List Happening) (s t : Sent)
    → sends (after o happened).client ≡ Some s → sends (after o (happened ++ more)).client ≡ Some t
    → t.frame.serial ≡ s.frame.serial
    → AreOfOne (after o happened).client (after o (happened ++ more)).client

-- the serial of a request that was given up never comes again
abbrev pub GivenUpNeverComesAgain : Type 0
GivenUpNeverComesAgain =
    (o : ClientOpening) (happened more : List Happening) (x : Happening) (now : Current)
    → (after o happened).client.current ≡ Some now → noted_by x ≡ GivenUp ∷ []
    → (after o happened).client.serial < (after o (happened ++ x ∷ more)).client.serial

-- the outcome of a request that ends is put behind those that weren't told
abbrev pub EndedIsUntold : Type 0
EndedIsUntold =
    (o : ClientOpening) (happened : List Happening) (x : Happening) (frame : List ℕ) (now : Current)
    (outcome : Outcome) → noted_by x ≡ Heard frame ∷ [] → (after o happened).client.current ≡ Some now
    → (on_reply (after o happened).client frame).progress ≡ Finished outcome
    → (after o (happened ++ x ∷ [])).untold
    ≡ (after o happened).untold ++ ended (after o happened).client.serial now outcome ∷ []

-- An outcome stands, with its message, until it was told: the one at place i goes by the i + 1st note that
-- the oldest was told, and not before.
abbrev pub OutcomesStand : Type 0
OutcomesStand = (o : ClientOpening) (happened more : List Happening) (i : ℕ) (e : EndedRequest)
    → slice_get (after o happened).untold i ≡ Some e → told_in (notes_of more) ≤ i
    → slice_get (after o (happened ++ more)).untold (i - told_in (notes_of more)) ≡ Some e
