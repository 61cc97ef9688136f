-- The requests of a client.
use Rattle.std.specs.Prelude.{◌≡◌, ℕ, ◌≤◌, if◌then◌else◌, List, length, codes}
use Rattle.std.specs.Prelude.{Option, Some, None, option_map}
use Rattle.std.specs.Str.{bytes_eq}
use Rattle.express_texts.specs.LineFields.{◌>>=◌}
use Rattle.toml.specs.Data.{Data, Members, as_str, as_table}
use Rattle.settings_text.specs.declared.requests.Asking.{Asking}
use Rattle.settings_text.specs.declared.requests.Asking.TheVariants.{Register, Write, Read, Retire}
use Rattle.settings_text.specs.declared.requests.Kind.{Kind}
use Rattle.settings_text.specs.declared.requests.Kind.TheVariants as kind
use Rattle.settings_text.specs.Values.{at_key, number_in, address_in, message_in, list_within, every}

abbrev pub kind_of : List ℕ → Option Kind
kind_of name =
    if bytes_eq name (codes "register") then Some kind.Register
    else if bytes_eq name (codes "write") then Some kind.Write
    else if bytes_eq name (codes "read") then Some kind.Read
    else if bytes_eq name (codes "retire") then Some kind.Retire
    else None

unfoldable pub write_of : ℕ → Members → Option Asking
write_of width table = do
  address ← at_key (codes "address") address_in table
  message ← at_key (codes "message") (message_in width) table
  Some (Write address message)

abbrev pub own_of : Members → Option ℕ
own_of table = at_key (codes "own") (number_in 0 4095) table

unfoldable pub asking_of : ℕ → Kind → Members → Option Asking
asking_of width kind.Register table = option_map Register (at_key (codes "address") address_in table)
asking_of width kind.Write table = write_of width table
asking_of width kind.Read table = option_map Read (own_of table)
asking_of width kind.Retire table = option_map Retire (own_of table)

unfoldable pub asking_in : ℕ → Data → Option Asking
asking_in width value = do
  table ← as_table value
  name ← at_key (codes "kind") as_str table
  kind ← kind_of name
  asking_of width kind table

-- a list of 1 to 1,000 requests
unfoldable pub requests_in : ℕ → Data → Option (List Asking)
requests_in width value = list_within 1 1000 value >>= every (asking_in width)

-- what holds of each request that is read
abbrev pub IsAsking : ℕ → Asking → Type 0
IsAsking width (Register address) = Unit {0}
IsAsking width (Write address message) = length message ≡ width
IsAsking width (Read own) = own ≤ 4095
IsAsking width (Retire own) = own ≤ 4095
