-- A settings file: its keys, in the order in which they are judged.
use Rattle.std.specs.Prelude.{◌≢◌, IfSome, ℕ, ◌+◌, if◌then◌else◌, Bool, false, List, Option, Some, None, option_map, Result, Ok, Err, bytes_eq}
use Rattle.std.specs.Option.{ok_or}
use Rattle.std.specs.Str.{is_utf8}
use Rattle.toml.specs.Data.{Data, Members}
use Rattle.toml.specs.Parse.{parse_document}
use Rattle.express_words.specs.Settled.{settled}
use Rattle.express_words.specs.declared.settings.Settings.{Settings}
use Rattle.server_settings.specs.declared.doors.Doors.{Doors}
use Rattle.server_settings.specs.declared.fault.BadSettings.{BadSettings}
use Rattle.server_settings.specs.declared.fault.BadSettings.TheVariants.{NotToml, Lanes, Same}
use Rattle.server_settings.specs.declared.key.Key.TheVariants as key
use Rattle.server_settings.specs.declared.server.ServerSettings.{ServerSettings}
use Rattle.server_settings.specs.declared.sizes.Sizes.{Sizes}
use Rattle.server_settings.specs.Lookups.{◌>>=◌, needed, optional, known}
use Rattle.server_settings.specs.Values.{role_in, width_in, number_in, address_in, loopback_in, folder_in, origin_in}

-- the sizes that these settings and lanes are
abbrev pub sizes_with : (owners strangers : ℕ) → Settings → Sizes
sizes_with owners strangers settings = record {
  settings = settings;
  gate = record { owners = owners; strangers = strangers };
}

-- owners' and strangers' lanes together keep the limit of lanes, and the other sizes keep theirs
unfoldable pub sizes_of : Members → Result Sizes BadSettings
sizes_of keys = do
  width ← needed key.Width width_in keys
  boxes ← needed key.Boxes (number_in 1 4096) keys
  owners ← needed key.Owners (number_in 0 256) keys
  strangers ← needed key.Strangers (number_in 0 256) keys
  window ← needed key.Window (number_in 1 32) keys
  ok_or (option_map (sizes_with owners strangers) (settled width boxes (owners + strangers) window))
      (Lanes owners strangers)

abbrev pub is_at : Option (List ℕ) → List ℕ → Bool
is_at (Some door) address = bytes_eq door address
is_at None address = false

-- the doors, if no two are one
unfoldable pub apart : Doors → Result Doors BadSettings
apart doors =
    if bytes_eq doors.link doors.clients then Err (Same key.Clients key.Link doors.clients)
    else if is_at doors.status doors.clients then Err (Same key.Clients key.Status doors.clients)
    else if is_at doors.status doors.link then Err (Same key.Link key.Status doors.link)
    else Ok doors

-- no two doors are one
abbrev pub AreApart : Doors → Type 0
AreApart doors = (doors.link ≢ doors.clients)
    × IfSome doors.status (λ status. (status ≢ doors.clients) × (status ≢ doors.link))

abbrev pub status_in : Data → Option (Option (List ℕ))
status_in value = option_map Some (loopback_in value)

unfoldable pub doors_of : Members → Result Doors BadSettings
doors_of keys = do
  clients ← needed key.Clients address_in keys
  link ← needed key.Link address_in keys
  status ← optional None key.Status status_in keys
  apart (record { clients = clients; link = link; status = status })

abbrev pub origin_given : Data → Option (Option (List ℕ))
origin_given value = option_map Some (origin_in value)

unfoldable pub server_of : Members → Result ServerSettings BadSettings
server_of keys = do
  _ ← known keys
  role ← needed key.Role role_in keys
  sizes ← sizes_of keys
  doors ← doors_of keys
  folder ← needed key.Folder folder_in keys
  places ← optional 1024 key.Places (number_in 16 4096) keys
  origin ← optional None key.Origin origin_given keys
  Ok (record { role = role; sizes = sizes; doors = doors; folder = folder; places = places; origin = origin })

-- a text that is UTF-8 and a document of TOML
unfoldable pub table_in : List ℕ → Result Members BadSettings
table_in text = ok_or (if is_utf8 text then parse_document text else None) NotToml

-- the settings that a text spells, or the first thing that is wrong
abbrev pub judged : List ℕ → Result ServerSettings BadSettings
judged text = table_in text >>= server_of
