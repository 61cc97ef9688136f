-- The keys of a carrier's settings, in the order in which they are judged.
use Rattle.std.specs.Prelude.{◌≡◌, ◌≢◌, ℕ, ◌-◌, ◌<◌, ◌≤◌, ◌^◌, ◌==◌, if◌then◌else◌}
use Rattle.std.specs.Prelude.{List, length, codes, AllPairs}
use Rattle.std.specs.Prelude.{Option, Some, None, option_and_then, Result, Ok, Err}
use Rattle.std.specs.Str.{bytes_eq}
use Rattle.file_carry.specs.Parts.{count_of}
use Rattle.toml.specs.Data.{Data, Members, as_str}
use Rattle.settings_text.specs.declared.account.Account.{Account}
use Rattle.settings_text.specs.declared.carry.CarryJob.{CarryJob}
use Rattle.settings_text.specs.declared.carry.CarryJob.TheVariants.{Send, Fetch}
use Rattle.settings_text.specs.declared.carry.CarrySettings.{CarrySettings}
use Rattle.settings_text.specs.declared.carry.Mode.{Mode}
use Rattle.settings_text.specs.declared.carry.Mode.TheVariants as mode
use Rattle.settings_text.specs.declared.owned.OwnedBox.{OwnedBox}
use Rattle.settings_text.specs.Client.{account_of}
use Rattle.settings_text.specs.Files.{id_in, file_in, addresses_in}
use Rattle.settings_text.specs.Keys.{◌>>=◌, needed}

abbrev pub mode_of : List ℕ → Option Mode
mode_of name =
    if bytes_eq name (codes "send") then Some mode.Send
    else if bytes_eq name (codes "fetch") then Some mode.Fetch
    else None

unfoldable pub mode_in : Data → Option Mode
mode_in value = option_and_then mode_of (as_str value)

unfoldable pub send_of : ℕ → Members → Result CarryJob (List ℕ)
send_of width table = do
  id ← needed (codes "id") id_in table
  file ← needed (codes "file") (file_in width) table
  addresses ← needed (codes "addresses") (addresses_in file.1) table
  Ok (Send id file.0 addresses)

-- a fetch needs an owned box
unfoldable pub job_of : ℕ → List OwnedBox → Mode → Members → Result CarryJob (List ℕ)
job_of width owned mode.Send table = send_of width table
job_of width owned mode.Fetch table = if length owned == 0 then Err (codes "owned") else Ok Fetch

abbrev pub carry_with : Account → CarryJob → CarrySettings
carry_with account job = record {
  lane = account.lane;
  leader = account.leader;
  helper = account.helper;
  width = account.width;
  boxes = account.boxes;
  serial = account.serial;
  seed = account.seed;
  owned = account.owned;
  job = job;
}

unfoldable pub carry_of : Members → Result CarrySettings (List ℕ)
carry_of table = do
  account ← account_of 32 table
  mode ← needed (codes "mode") mode_in table
  job ← job_of account.width account.owned mode table
  Ok (carry_with account job)

-- what holds of each job that is read
abbrev pub IsJob : ℕ → List OwnedBox → CarryJob → Type 0
IsJob width owned (Send id file addresses) =
    (id < 2 ^ 63) × (length addresses ≡ count_of (length file) (width - 16)) × (length addresses ≤ 4096)
    × AllPairs (λ p q. p ≢ q) addresses
IsJob width owned Fetch = 1 ≤ length owned
