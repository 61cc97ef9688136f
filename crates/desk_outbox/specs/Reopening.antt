-- What stands on a disk.
use Rattle.std.specs.Prelude.{◌≡◌, ◌⊎◌, ◌∷◌, ◌++◌, [], ℕ, List}
use Rattle.node_journal.specs.Records.{content}
use Rattle.client_restart.specs.Kept.{HoldsNotes, StandsByNotes}
use Rattle.client_restart.specs.Notes.{Noted}
use Rattle.client_restart.specs.Openings.{IsClientOpening}
use Rattle.client_restart.specs.Records.{AllNotes, IsForeign}
use Rattle.client_restart.specs.Steps.{CoreState, fold}
use Rattle.client_restart.specs.declared.opening.ClientOpening.{ClientOpening}
use Rattle.desk_texts.specs.declared.sheet.Sheet.{Sheet}
use Rattle.desk_texts.specs.Spelling.{SpellsSheet}
use Rattle.desk_outbox.specs.Outboxes.{OutboxState, IsTry, IsWrite}
use Rattle.desk_outbox.specs.Places.{IsNoted, place_record}
use Rattle.desk_outbox.specs.declared.place.Place.{Place}
use Rattle.desk_outbox.specs.declared.reopening.Reopened.{Reopened}
use Rattle.desk_outbox.specs.declared.reopening.Reopened.TheVariants.{Whole, Nothing}

abbrev pub IfWhole : {D : Type 0} → (OutboxState D → Type 0) → Reopened D → Type 0
IfWhole P (Whole o) = P o
IfWhole P (Nothing d) = Unit {0}

abbrev pub IfNothing : {D : Type 0} → (D → Type 0) → Reopened D → Type 0
IfNothing P (Whole o) = Unit {0}
IfNothing P (Nothing d) = P d

-- ---- what remarks tell

-- the first and the last of at least two
pub record HasEnds (first last : List ℕ) (remarks : List (List ℕ)) : Type 0 where
  pub between : List (List ℕ)
  pub is : remarks ≡ first ∷ (between ++ last ∷ [])

-- the first is the card's text, and the last where the try stands
pub record Tells (remarks : List (List ℕ)) (card : Sheet) (place : Place) : Type 0 where
  pub text : List ℕ
  pub ends : HasEnds text (place_record place) remarks
  pub spells : SpellsSheet card text
  pub noted : IsNoted place.next

abbrev pub SpellsNoSheet : List ℕ → Type 0
SpellsNoSheet text = (card : Sheet) → SpellsSheet card text → ⊥

abbrev pub TellNothing : List (List ℕ) → Type 0
TellNothing remarks = (card : Sheet) (place : Place) → Tells remarks card place → ⊥

-- ---- what a client holds

-- no write is current, so nothing was sent and nothing will be
abbrev pub IsNoTry : CoreState → Type 0
IsNoTry core = (width : ℕ) → IsWrite width core.client.current → ⊥

abbrev pub IsNoTryOf : ClientOpening → CoreState → Type 0
IsNoTryOf o core = IsNoTry core

-- no card and place of a whole try stand there
abbrev pub IsNoWhole : ClientOpening → CoreState → Type 0
IsNoWhole o core = (card : Sheet) (place : Place) → Tells core.remarks card place
    → IsTry o card place core.client.current → ⊥

-- Nothing was begun on the disk: its first record is no opening, or a client stands there, without a try.
abbrev pub IsUnbegun : (List ℕ → Type 0) → Type 0
IsUnbegun reads = ((c : List ℕ) → reads c → IsForeign 0 (content c))
    ⊎ ((o : ClientOpening) × (core : CoreState) × StandsByNotes o core reads × IsNoTry core)

-- whatever client the disk gives is so
abbrev pub HoldsOnly : (ClientOpening → CoreState → Type 0) → (List ℕ → Type 0) → Type 0
HoldsOnly P reads = (o : ClientOpening) (notes : List Noted) (c : List ℕ) → reads c → IsClientOpening o
    → AllNotes notes → HoldsNotes o notes reads → P o (fold o notes)
