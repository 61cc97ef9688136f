-- The table that a text spells, as toml reads it.
use Rattle.std.specs.Prelude.{ℕ, if◌then◌else◌, List, codes, None, Result}
use Rattle.std.specs.Option.{ok_or}
use Rattle.std.specs.Str.{is_utf8}
use Rattle.toml.specs.Data.{Members}
use Rattle.toml.specs.Parse.{parse_document}
use Rattle.settings_text.specs.Keys.{◌>>=◌}

-- a text that is UTF-8 and a document of TOML
unfoldable pub read_table : List ℕ → Result Members (List ℕ)
read_table text = ok_or (if is_utf8 text then parse_document text else None) (codes "toml")

-- the settings of its table, or the key to name
abbrev pub judged : {A : Type 0} → (Members → Result A (List ℕ)) → List ℕ → Result A (List ℕ)
judged settings_of text = read_table text >>= settings_of
