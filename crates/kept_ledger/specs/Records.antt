-- Bytes with which no record of a kind begins.
use Rattle.std.specs.Prelude.{◌≡◌, List, ℕ, ◌∷◌, ◌++◌, true, Option, IfSome}
use Rattle.desk_texts.specs.Days.{IsDay}
use Rattle.desk_texts.specs.declared.day.Day.{Day}
use Rattle.kept_ledger.specs.Notes.{Wanted, Noted, IsNote, IsWanted, Opening, IsOpening, day_bytes}
use Rattle.kept_ledger.specs.Notes.{named_bytes, note_record, opening_record, until_bytes, wanted_bytes}
use Rattle.kept_ledger.specs.Names.{is_name}

-- no day of the calendar stands first
abbrev pub HasNoDay : List ℕ → Type 0
HasNoDay bytes = (d : Day) (rest : List ℕ) → IsDay d → bytes ≡ day_bytes d ++ rest → ⊥

-- four zeros don't stand first
abbrev pub HasNoZeros : List ℕ → Type 0
HasNoZeros bytes = (rest : List ℕ) → bytes ≡ 0 ∷ 0 ∷ 0 ∷ 0 ∷ rest → ⊥

-- neither a day of the calendar stands first nor four zeros
abbrev pub HasNoUntil : List ℕ → Type 0
HasNoUntil bytes =
    (until : Option Day) (rest : List ℕ) → IfSome until IsDay → bytes ≡ until_bytes until ++ rest → ⊥

abbrev pub IsNoNamed : List ℕ → Type 0
IsNoNamed bytes = (w : Wanted) → IsWanted w → bytes ≡ named_bytes w → ⊥

abbrev pub IsNoWanted : List ℕ → Type 0
IsNoWanted bytes = (w : Wanted) → IsWanted w → bytes ≡ wanted_bytes w → ⊥

abbrev pub IsNoClosed : List ℕ → Type 0
IsNoClosed bytes = (name : List ℕ) (day : Day) → is_name name ≡ true → IsDay day
    → bytes ≡ day_bytes day ++ name → ⊥

-- the record is no note's
abbrev pub IsNoNote : List ℕ → Type 0
IsNoNote bytes = (n : Noted) → IsNote n → bytes ≡ note_record n → ⊥

-- the record is no opening's
abbrev pub IsNoOpening : List ℕ → Type 0
IsNoOpening bytes = (o : Opening) → IsOpening o → bytes ≡ opening_record o → ⊥
