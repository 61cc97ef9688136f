-- What a source gives and a sink takes.
use Rattle.std.specs.Prelude.{◌≡◌, ℕ, List, [], ◌++◌, Option, Some, None, IfSome}

-- What a source has given so far, and what it has left, where it knows that: a file in memory does, a terminal and
-- a socket don't.
pub record Stream : Type 0 where
  pub given : List ℕ
  pub left : Option (List ℕ)

-- From old to new these bytes went from the front of what is left, where that was known.
abbrev pub Leaves : Option (List ℕ) → Option (List ℕ) → List ℕ → Type 0
Leaves None new bytes = Unit {0}
Leaves (Some old) None bytes = ⊥
Leaves (Some old) (Some new) bytes = old ≡ bytes ++ new

-- From old to new a source gave these bytes. Of a source that didn't tell its content nothing is said.
abbrev pub Gave : Option Stream → Option Stream → List ℕ → Type 0
Gave None new bytes = Unit {0}
Gave (Some old) None bytes = ⊥
Gave (Some old) (Some new) bytes = Leaves old.left new.left bytes × (new.given ≡ old.given ++ bytes)

-- what a source has left, where it tells its content and knows that
abbrev pub left_in : Option Stream → Option (List ℕ)
left_in None = None
left_in (Some now) = now.left

-- nothing is left, where that is told
abbrev pub IsAtEnd : Option Stream → Type 0
IsAtEnd content = IfSome (left_in content) (λ left. left ≡ [])

-- nothing was given yet, where the source tells
abbrev pub IsAtStart : Option Stream → Type 0
IsAtStart None = Unit {0}
IsAtStart (Some now) = now.given ≡ []

-- From old to new a sink took these bytes. Of a sink that didn't tell its content nothing is said.
abbrev pub Took : Option (List ℕ) → Option (List ℕ) → List ℕ → Type 0
Took None new bytes = Unit {0}
Took (Some old) None bytes = ⊥
Took (Some old) (Some new) bytes = new ≡ old ++ bytes

-- From old to new a sink took a prefix of these bytes.
abbrev pub TookPrefix : Option (List ℕ) → Option (List ℕ) → List ℕ → Type 0
TookPrefix old new bytes = (front : List ℕ) × (rest : List ℕ) × (bytes ≡ front ++ rest) × Took old new front

-- nothing was written yet, where the sink tells
abbrev pub IsBlank : Option (List ℕ) → Type 0
IsBlank None = Unit {0}
IsBlank (Some bytes) = bytes ≡ []
