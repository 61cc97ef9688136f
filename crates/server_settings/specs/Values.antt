-- The values of a settings file, each as one of some kind.
use Rattle.std.specs.Prelude.{ℕ, ℤ, pos, negsuc, nat_lt, nat_le, ◌%◌, ◌==◌, ◌&&◌, ◌||◌, if◌then◌else◌}
use Rattle.std.specs.Prelude.{Bool, List, length, codes, Option, Some, None, option_and_then, bytes_eq}
use Rattle.toml.specs.Data.{Data, as_integer, as_str}
use Rattle.desk_texts.specs.Places.{is_place, is_port}
use Rattle.express_texts.specs.LineFields.{after}
use Rattle.express_words.specs.declared.role.Role.{Role}
use Rattle.express_words.specs.declared.role.Role.TheVariants.{Leader, Helper}
use Rattle.http_door.specs.Values.{is_value}

-- the value, if it passes
abbrev pub if_so : {A : Type 0} → (A → Bool) → A → Option A
if_so test a = if test a then Some a else None

abbrev pub role_of : List ℕ → Option Role
role_of name =
    if bytes_eq name (codes "leader") then Some Leader
    else if bytes_eq name (codes "helper") then Some Helper
    else None

unfoldable pub role_in : Data → Option Role
role_in value = option_and_then role_of (as_str value)

-- a whole number within these bounds
unfoldable pub number_within : ℕ → ℕ → ℤ → Option ℕ
number_within low high (pos n) = if nat_le low n && nat_le n high then Some n else None
number_within low high (negsuc n) = None

unfoldable pub number_in : ℕ → ℕ → Data → Option ℕ
number_in low high value = option_and_then (number_within low high) (as_integer value)

-- a multiple of 16 from 16 to 4,096
unfoldable pub width_in : Data → Option ℕ
width_in value = option_and_then (if_so (λ width. width % 16 == 0)) (number_in 16 4096 value)

-- HOST:PORT
abbrev pub address_of : List ℕ → Option (List ℕ)
address_of = if_so is_place

unfoldable pub address_in : Data → Option (List ℕ)
address_in value = option_and_then address_of (as_str value)

-- this host, and a port
abbrev pub has_host : (host text : List ℕ) → Bool
has_host host text = is_port (after host text)

abbrev pub is_loopback : List ℕ → Bool
is_loopback text = has_host (codes "127.0.0.1:") text || has_host (codes "[::1]:") text

unfoldable pub loopback_in : Data → Option (List ℕ)
loopback_in value = option_and_then (if_so is_loopback) (address_in value)

-- a path, of one byte or more
unfoldable pub folder_in : Data → Option (List ℕ)
folder_in value = option_and_then (if_so (λ path. nat_lt 0 (length path))) (as_str value)

-- the value of a header field
unfoldable pub origin_in : Data → Option (List ℕ)
origin_in value = option_and_then (if_so is_value) (as_str value)
