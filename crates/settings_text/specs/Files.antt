-- A file to send, and where its parts go.
use Rattle.std.specs.Prelude.{ℕ, ◌-◌, nat_le, ◌==◌, not, Bool, if◌then◌else◌, List, [], ◌∷◌, ◌++◌, length}
use Rattle.std.specs.Prelude.{Option, Some, None}
use Rattle.std.specs.List.{list_any}
use Rattle.express_texts.specs.LineFields.{◌>>=◌, any_bytes_of, wanted}
use Rattle.file_carry.specs.Parts.{count_of}
use Rattle.toml.specs.Data.{Data, as_str}
use Rattle.settings_text.specs.Values.{number_in, address_in, list_within}

-- a number below 2^63
unfoldable pub id_in : Data → Option ℕ
id_in = number_in 0 9223372036854775807

-- how many messages of a width a file takes, if those are at most 4,096
unfoldable pub few_parts : ℕ → List ℕ → Option ℕ
few_parts width file =
    let count = count_of (length file) (width - 16) in if nat_le count 4096 then Some count else None

-- a file, and how many parts it has
unfoldable pub file_in : ℕ → Data → Option (List ℕ × ℕ)
file_in width value = do
  digits ← as_str value
  file ← any_bytes_of digits
  count ← few_parts width file
  Some (file, count)

-- whether an address isn't among those before it
abbrev pub is_new : List ℕ → ℕ → Bool
is_new before address = not (list_any (λ other. address == other) before)

-- the addresses of these values behind those that were read, all different
unfoldable pub addresses_on : List ℕ → List Data → Option (List ℕ)
addresses_on before [] = Some before
addresses_on before (value ∷ values) =
    address_in value >>= (λ address.
    wanted (is_new before address) >>= (λ _. addresses_on (before ++ address ∷ []) values))

unfoldable pub addresses_in : ℕ → Data → Option (List ℕ)
addresses_in count value = list_within count count value >>= addresses_on []
