-- The values of a table, each as one of some kind.
use Rattle.std.specs.Prelude.{ℕ, ℤ, pos, negsuc, nat_le, ◌%◌, ◌==◌, ◌&&◌, if◌then◌else◌}
use Rattle.std.specs.Prelude.{List, [], ◌∷◌, length, Option, Some, None, option_map, option_and_then}
use Rattle.toml.specs.Data.{Data, Items, no_items, item, Members, get_member, as_integer, as_str, as_array}
use Rattle.express_texts.specs.LineFields.{◌>>=◌, spelled_word, seed_of, message_of}

-- what the value under a key means
abbrev pub at_key : {A : Type 0} → List ℕ → (Data → Option A) → Members → Option A
at_key key read table = option_and_then read (get_member key table)

-- a whole number within these bounds
unfoldable pub number_within : ℕ → ℕ → ℤ → Option ℕ
number_within low high (pos n) = if nat_le low n && nat_le n high then Some n else None
number_within low high (negsuc n) = None

unfoldable pub number_in : ℕ → ℕ → Data → Option ℕ
number_in low high value = option_and_then (number_within low high) (as_integer value)

-- a multiple of 16 from some number, which is 16 or more, to 4,096
unfoldable pub width_in : ℕ → Data → Option ℕ
width_in least value = number_in least 4096 value >>= (λ width. if width % 16 == 0 then Some width else None)

-- a text of 32 hexadecimal digits, the most significant first, and one of 64
unfoldable pub address_in : Data → Option ℕ
address_in value = option_and_then spelled_word (as_str value)

unfoldable pub seed_in : Data → Option (List ℕ)
seed_in value = option_and_then seed_of (as_str value)

-- a message of a width, in twice as many hexadecimal digits
unfoldable pub message_in : ℕ → Data → Option (List ℕ)
message_in width value = option_and_then (message_of width) (as_str value)

-- the values of a list
abbrev pub elements : Items → List Data
elements no_items = []
elements (item value values) = value ∷ elements values

unfoldable pub elements_in : Data → Option (List Data)
elements_in value = option_map elements (as_array value)

abbrev pub if_within : ℕ → ℕ → List Data → Option (List Data)
if_within low high values =
    if nat_le low (length values) && nat_le (length values) high then Some values else None

-- and of one that has as many as these bounds allow
unfoldable pub list_within : ℕ → ℕ → Data → Option (List Data)
list_within low high value = elements_in value >>= if_within low high

-- what each of them means
unfoldable pub every : {A : Type 0} → (Data → Option A) → List Data → Option (List A)
every read [] = Some []
every read (value ∷ values) = read value >>= (λ a. option_map (λ rest. a ∷ rest) (every read values))
