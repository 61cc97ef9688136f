-- A machine that its records give.
use Rattle.std.specs.Prelude.{◌≡◌, ◌⊎◌, ℕ, List, [], ◌∷◌, ◌++◌, length}

-- Which bytes are records of it, and what each of them makes of it.
pub record Rules (M : Type 0) : Type 1 where
  -- the form of a first record and of a later one
  pub is_opening : List ℕ → Type 0
  pub is_record : List ℕ → Type 0
  -- the machine as a first record opens it, and the one that a later record makes of another
  pub opens : List ℕ → M → Type 0
  pub steps : List ℕ → M → M → Type 0
  -- the second is the first, but for memory that was taken ahead
  pub is_same : M → M → Type 0
  -- the step of this record needs memory, and the machine has taken it
  pub wants_memory : List ℕ → Type 0
  pub has_memory : M → List ℕ → Type 0
  -- what is so of the machine from its opening on
  pub is_sound : M → Type 0

-- What holds of them.
pub record RulesHold {M : Type 0} (rules : Rules M) : Type 0 where
  pub itself : (a : M) → rules.is_same a a
  pub then_same : (a b c : M) → rules.is_same a b → rules.is_same b c → rules.is_same a c
  pub then_steps : (bytes : List ℕ) (a b c : M) → rules.is_same a b → rules.steps bytes b c
      → rules.steps bytes a c

-- ---- a list of records

abbrev pub All : (List ℕ → Type 0) → List (List ℕ) → Type 0
All Is [] = Unit {0}
All Is (bytes ∷ records) = Is bytes × All Is records

-- one record after another makes the second of the first
abbrev pub Runs : {M : Type 0} → Rules M → M → List (List ℕ) → M → Type 0
Runs rules before [] now = now ≡ before
Runs {M} rules before (bytes ∷ records) now =
    (then : M) × rules.steps bytes before then × Runs rules then records now

-- The records of a machine: how it was opened, and those behind.
pub record IsForm {M : Type 0} (rules : Rules M) (records : List (List ℕ)) : Type 0 where
  pub first : List ℕ
  pub is_opening : rules.is_opening first
  pub later : List (List ℕ)
  pub are_records : All rules.is_record later
  pub split : records ≡ first ∷ later

-- The records give the machine.
pub record Gives {M : Type 0} (rules : Rules M) (records : List (List ℕ)) (machine : M) : Type 0 where
  pub form : IsForm rules records
  pub opened : M
  pub opens : rules.opens form.first opened
  pub stepped : M
  pub runs : Runs rules opened form.later stepped
  pub same : rules.is_same stepped machine

-- ---- records of another form

-- no opening stands first
abbrev pub LacksOpening : {M : Type 0} → Rules M → List (List ℕ) → Type 0
LacksOpening rules records =
    (first : List ℕ) (later : List (List ℕ)) → rules.is_opening first → records ≡ first ∷ later → ⊥

-- Those before record n are a machine's, and record n is none of its.
pub record HasForeign {M : Type 0} (rules : Rules M) (n : ℕ) (records : List (List ℕ)) : Type 0 where
  pub before : List (List ℕ)
  pub form : IsForm rules before
  pub foreign : List ℕ
  pub no_record : rules.is_record foreign → ⊥
  pub rest : List (List ℕ)
  pub split : records ≡ before ++ foreign ∷ rest
  pub place : n ≡ length before

-- record n is the first that isn't of the form, or is record 0 and missing
abbrev pub IsForeign : {M : Type 0} → Rules M → ℕ → List (List ℕ) → Type 0
IsForeign rules n records = ((n ≡ 0) × LacksOpening rules records) ⊎ HasForeign rules n records
