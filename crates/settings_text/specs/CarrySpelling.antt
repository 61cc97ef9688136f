-- The grammar of a carrier's settings, key by key.
use Rattle.std.specs.Prelude.{◌≡◌, ◌≢◌, ◌⊎◌, ℕ, ◌-◌, ◌≤◌, List, [], length, codes, AllPairs, Ok}
use Rattle.hex.specs.Hex.{decode_of}
use Rattle.file_carry.specs.Parts.{count_of}
use Rattle.toml.specs.Data as toml
use Rattle.toml.specs.Data.{Data, Members}
use Rattle.settings_text.specs.Carry.{carry_with}
use Rattle.settings_text.specs.declared.account.Account.{Account}
use Rattle.settings_text.specs.declared.carry.CarryJob.{CarryJob}
use Rattle.settings_text.specs.declared.carry.CarryJob.TheVariants.{Send, Fetch}
use Rattle.settings_text.specs.declared.carry.CarrySettings.{CarrySettings}
use Rattle.settings_text.specs.declared.carry.Mode.{Mode}
use Rattle.settings_text.specs.declared.carry.Mode.TheVariants as mode
use Rattle.settings_text.specs.declared.owned.OwnedBox.{OwnedBox}
use Rattle.settings_text.specs.AccountSpelling.{FaultOfAccount, HasAccount}
use Rattle.settings_text.specs.Meanings.{SpellsTable, Has, FaultIn, FaultUnder, NoneIs, FaultOfText}
use Rattle.settings_text.specs.Meanings.{MeansAddress, MeansList, MeansNumber}

abbrev pub MeansMode : Mode → Data → Type 0
MeansMode mode.Send value = value ≡ toml.string (codes "send")
MeansMode mode.Fetch value = value ≡ toml.string (codes "fetch")

-- any bytes in twice as many hexadecimal digits, and how many messages of a width they take, at most 4,096
abbrev pub MeansFile : ℕ → List ℕ × ℕ → Data → Type 0
MeansFile width file value =
    (digits : List ℕ) × (value ≡ toml.string digits) × (decode_of digits ≡ Ok file.0)
    × (file.1 ≡ count_of (length file.0) (width - 16)) × (file.1 ≤ 4096)

-- so many addresses, all different
abbrev pub MeansAddresses : ℕ → List ℕ → Data → Type 0
MeansAddresses count addresses value =
    MeansList count count MeansAddress addresses value × AllPairs (λ p q. p ≢ q) addresses

-- what a job's own keys have: an address for each part of the file, or a box to fetch from
abbrev pub HasJob : ℕ → List OwnedBox → Members → CarryJob → Type 0
HasJob width owned keys (Send id file addresses) =
    Has (codes "mode") MeansMode keys mode.Send
    × Has (codes "id") (MeansNumber 0 9223372036854775807) keys id
    × Has (codes "file") (MeansFile width) keys (file, length addresses)
    × Has (codes "addresses") (MeansAddresses (length addresses)) keys addresses
HasJob width owned keys Fetch = Has (codes "mode") MeansMode keys mode.Fetch × (owned ≢ [])

-- what stands under each key
pub record HasCarry (keys : Members) (s : CarrySettings) : Type 0 where
  pub account : Account
  pub has_account : HasAccount 32 keys account
  pub job : HasJob account.width account.owned keys s.job
  pub is : s ≡ carry_with account s.job

-- the text spells the settings
abbrev pub SpellsCarry : CarrySettings → List ℕ → Type 0
SpellsCarry s text = (keys : Members) × SpellsTable keys text × HasCarry keys s

-- The keys of a job; a fetch without a box to fetch from names `owned`.
abbrev pub FaultOfJob : ℕ → List OwnedBox → Members → Mode → List ℕ → Type 0
FaultOfJob width owned keys mode.Send =
    FaultUnder (codes "id") (MeansNumber 0 9223372036854775807) keys (λ id.
    FaultUnder (codes "file") (MeansFile width) keys (λ file.
    FaultUnder (codes "addresses") (MeansAddresses file.1) keys (λ addresses. NoneIs)))
FaultOfJob width owned keys mode.Fetch = λ named. (named ≡ codes "owned") × (owned ≡ [])

-- Each key before this one is right, and this one is missing or wrong.
abbrev pub FaultOfCarry : Members → List ℕ → Type 0
FaultOfCarry keys =
    FaultIn (FaultOfAccount 32 keys) (HasAccount 32 keys) (λ account.
    FaultUnder (codes "mode") MeansMode keys (λ mode.
    FaultOfJob account.width account.owned keys mode))

-- this is the key that is named
abbrev pub IsBadCarryKey : List ℕ → List ℕ → Type 0
IsBadCarryKey = FaultOfText FaultOfCarry
