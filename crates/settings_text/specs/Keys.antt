-- Keys in an order: each gives a value, or else its name.
use Rattle.std.specs.Prelude.{ℕ, List, Option, Some, None, Result, Ok, Err}
use Rattle.std.specs.Option.{ok_or}
use Rattle.toml.specs.Data.{Data, Members, get_member}
use Rattle.settings_text.specs.Values.{at_key}

-- one key, and then the next
infixl 10 ◌>>=◌
abbrev pub ◌>>=◌ : {A B : Type 0} → Result A (List ℕ) → (A → Result B (List ℕ)) → Result B (List ℕ)
(Ok x) >>= f = f x
(Err key) >>= f = Err key

-- a key that is needed
abbrev pub needed : {A : Type 0} → List ℕ → (Data → Option A) → Members → Result A (List ℕ)
needed key read table = ok_or (at_key key read table) key

-- a key that may be missing, and then gives this
abbrev pub given_or : {A : Type 0} → A → List ℕ → (Data → Option A) → Option Data → Result A (List ℕ)
given_or default key read None = Ok default
given_or default key read (Some value) = ok_or (read value) key

abbrev pub optional : {A : Type 0} → A → List ℕ → (Data → Option A) → Members → Result A (List ℕ)
optional default key read table = given_or default key read (get_member key table)
