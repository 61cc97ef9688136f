-- Steps, one after another.

-- From the one to the other by steps that are R, one after another; by none it stays.
pub data Chain {A : Type 0} (R : A → A → Type 0) (before : A) : A → Type 0 where
  stays : Chain R before before
  goes : (mid now : A) → Chain R before mid → R mid now → Chain R before now

-- the same, behind whatever such steps were made before
abbrev pub GoesOnBy : {A : Type 0} → (A → A → Type 0) → (before now : A) → Type 0
GoesOnBy {A} R before now = (start : A) → Chain R start before → Chain R start now
