-- Keys in an order: each gives a value, or else what is wrong.
use Rattle.std.specs.Prelude.{ℕ, List, if◌then◌else◌, Option, Some, None, is_some, Result, Ok, Err}
use Rattle.std.specs.Option.{ok_or}
use Rattle.toml.specs.Data.{Data, Members, no_members, member, get_member}
use Rattle.server_settings.specs.declared.fault.BadSettings.{BadSettings}
use Rattle.server_settings.specs.declared.fault.BadSettings.TheVariants.{Unknown, Missing, Wrong}
use Rattle.server_settings.specs.declared.key.Key.{Key}
use Rattle.server_settings.specs.Faults.{found_in}
use Rattle.server_settings.specs.Keys.{key_name, key_of}

-- one key, and then the next
infixl 10 ◌>>=◌
abbrev pub ◌>>=◌ : {A B : Type 0} → Result A BadSettings → (A → Result B BadSettings) → Result B BadSettings
(Ok a) >>= f = f a
(Err wrong) >>= f = Err wrong

-- the value under a key that is needed
abbrev pub stands : Key → Members → Result Data BadSettings
stands key keys = ok_or (get_member (key_name key) keys) (Missing key)

-- what was read of it, if anything was
abbrev pub read_or_wrong : {A : Type 0} → Key → Data → Option A → Result A BadSettings
read_or_wrong key value read = ok_or read (Wrong key (found_in value))

abbrev pub needed : {A : Type 0} → Key → (Data → Option A) → Members → Result A BadSettings
needed key read keys = stands key keys >>= λ value. read_or_wrong key value (read value)

-- a key that may be missing, and then gives this
abbrev pub given_or : {A : Type 0} → A → Key → (Data → Option A) → Option Data → Result A BadSettings
given_or default key read None = Ok default
given_or default key read (Some value) = read_or_wrong key value (read value)

abbrev pub optional : {A : Type 0} → A → Key → (Data → Option A) → Members → Result A BadSettings
optional default key read keys = given_or default key read (get_member (key_name key) keys)

-- the first name that no key has
abbrev pub unknown_in : Members → Option (List ℕ)
unknown_in no_members = None
unknown_in (member name value keys) = if is_some (key_of name) then unknown_in keys else Some name

abbrev pub none_unknown : Option (List ℕ) → Result (Unit {0}) BadSettings
none_unknown (Some name) = Err (Unknown name)
none_unknown None = Ok tt

-- each name is a key's
unfoldable pub known : Members → Result (Unit {0}) BadSettings
known keys = none_unknown (unknown_in keys)
