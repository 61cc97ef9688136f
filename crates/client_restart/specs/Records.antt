-- The records of a client's journal.
use Rattle.std.specs.Prelude.{◌≡◌, ℕ, ◌+◌, ◌⊎◌, List, [], ◌∷◌, ◌++◌, length, map}
use Rattle.client_restart.specs.declared.opening.ClientOpening.{ClientOpening}
use Rattle.client_restart.specs.Openings.{IsClientOpening, opening_record}
use Rattle.client_restart.specs.Notes.{Noted, IsNote, IsNoNote, note_record}

abbrev pub AllNotes : List Noted → Type 0
AllNotes [] = Unit {0}
AllNotes (n ∷ notes) = IsNote n × AllNotes notes

-- the records of an opening and of these notes
abbrev pub records_of : ClientOpening → List Noted → List (List ℕ)
records_of o notes = opening_record o ∷ map note_record notes

-- ---- records of another form

-- no opening stands first
abbrev pub LacksOpening : List (List ℕ) → Type 0
LacksOpening records =
    (o : ClientOpening) (rest : List (List ℕ)) → IsClientOpening o → records ≡ opening_record o ∷ rest → ⊥

-- Those before record n are an opening's and notes', and record n is no note's.
pub record HasForeignNote (n : ℕ) (records : List (List ℕ)) : Type 0 where
  pub opening : ClientOpening
  pub is_opening : IsClientOpening opening
  pub notes : List Noted
  pub whole : AllNotes notes
  pub foreign : List ℕ
  pub no_note : IsNoNote foreign
  pub rest : List (List ℕ)
  pub split : records ≡ records_of opening notes ++ foreign ∷ rest
  pub place : n ≡ length notes + 1

-- record n is the first that isn't of the form, or is record 0 and missing
abbrev pub IsForeign : ℕ → List (List ℕ) → Type 0
IsForeign n records = ((n ≡ 0) × LacksOpening records) ⊎ HasForeignNote n records
