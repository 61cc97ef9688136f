-- The keys of a client's settings, in the order in which they are judged.
use Rattle.std.specs.Prelude.{ℕ, List, [], codes}
use Rattle.std.specs.Prelude.{Option, Some, None, option_map, Result, Ok}
use Rattle.toml.specs.Data.{Data, Members, as_str}
use Rattle.settings_text.specs.declared.account.Account.{Account}
use Rattle.settings_text.specs.declared.client.ClientSettings.{ClientSettings}
use Rattle.settings_text.specs.declared.requests.Asking.{Asking}
use Rattle.settings_text.specs.Keys.{◌>>=◌, needed, optional}
use Rattle.settings_text.specs.Owned.{owned_in}
use Rattle.settings_text.specs.Requests.{requests_in}
use Rattle.settings_text.specs.Values.{number_in, width_in, seed_in}

abbrev pub optional_seed : Data → Option (Option (List ℕ))
optional_seed value = option_map Some (seed_in value)

-- who asks, and of which servers; the width isn't below some number
unfoldable pub account_of : ℕ → Members → Result Account (List ℕ)
account_of least table = do
  lane ← needed (codes "lane") (number_in 0 255) table
  leader ← needed (codes "leader") as_str table
  helper ← needed (codes "helper") as_str table
  width ← needed (codes "width") (width_in least) table
  boxes ← needed (codes "boxes") (number_in 1 4096) table
  serial ← needed (codes "serial") (number_in 1 4294967295) table
  seed ← optional None (codes "seed") optional_seed table
  owned ← optional [] (codes "owned") (owned_in boxes) table
  Ok (record {
    lane = lane;
    leader = leader;
    helper = helper;
    width = width;
    boxes = boxes;
    serial = serial;
    seed = seed;
    owned = owned;
  })

abbrev pub client_with : Account → List Asking → ClientSettings
client_with account requests = record {
  lane = account.lane;
  leader = account.leader;
  helper = account.helper;
  width = account.width;
  boxes = account.boxes;
  serial = account.serial;
  seed = account.seed;
  owned = account.owned;
  requests = requests;
}

unfoldable pub client_of : Members → Result ClientSettings (List ℕ)
client_of table = do
  account ← account_of 16 table
  requests ← needed (codes "request") (requests_in account.width) table
  Ok (client_with account requests)
