-- The keys of a server's settings, in the order in which they are judged.
use Rattle.std.specs.Prelude.{ℕ, if◌then◌else◌, List, [], codes}
use Rattle.std.specs.Prelude.{Option, Some, None, option_and_then, Result, Ok, Err}
use Rattle.std.specs.Str.{bytes_eq}
use Rattle.toml.specs.Data.{Data, Members, as_str}
use Rattle.express_words.specs.Settled.{settled}
use Rattle.express_words.specs.declared.settings.Settings.{Settings}
use Rattle.settings_text.specs.declared.serve.ServeSettings.{ServeSettings}
use Rattle.express_words.specs.declared.role.Role.{Role}
use Rattle.express_words.specs.declared.role.Role.TheVariants.{Leader, Helper}
use Rattle.settings_text.specs.Keys.{◌>>=◌, needed}
use Rattle.settings_text.specs.Values.{number_in, width_in}

abbrev pub role_of : List ℕ → Option Role
role_of name =
    if bytes_eq name (codes "leader") then Some Leader
    else if bytes_eq name (codes "helper") then Some Helper
    else None

unfoldable pub role_in : Data → Option Role
role_in value = option_and_then role_of (as_str value)

-- a leader needs its helper's place, and a helper doesn't look at it
unfoldable pub peer_of : Role → Members → Result (List ℕ) (List ℕ)
peer_of Leader table = needed (codes "peer") as_str table
peer_of Helper table = Ok []

-- settings, which the numbers within these bounds always make
abbrev pub of_numbers : Option Settings → Result Settings (List ℕ)
of_numbers (Some settings) = Ok settings
of_numbers None = Err (codes "width")

unfoldable pub settings_of : Members → Result Settings (List ℕ)
settings_of table = do
  width ← needed (codes "width") (width_in 16) table
  boxes ← needed (codes "boxes") (number_in 1 4096) table
  lanes ← needed (codes "lanes") (number_in 1 256) table
  window ← needed (codes "window") (number_in 1 32) table
  of_numbers (settled width boxes lanes window)

unfoldable pub serve_of : Members → Result ServeSettings (List ℕ)
serve_of table = do
  role ← needed (codes "role") role_in table
  listen ← needed (codes "listen") as_str table
  peer ← peer_of role table
  settings ← settings_of table
  connections ← needed (codes "connections") (number_in 1 1000000) table
  Ok (record { role = role; listen = listen; peer = peer; settings = settings; connections = connections })
