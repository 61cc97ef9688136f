-- The grammar of a client's settings, key by key.
use Rattle.std.specs.Prelude.{◌≡◌, ℕ, List, codes}
use Rattle.toml.specs.Data as toml
use Rattle.toml.specs.Data.{Data, Members}
use Rattle.settings_text.specs.Client.{client_with}
use Rattle.settings_text.specs.declared.account.Account.{Account}
use Rattle.settings_text.specs.declared.client.ClientSettings.{ClientSettings}
use Rattle.settings_text.specs.declared.requests.Asking.{Asking}
use Rattle.settings_text.specs.declared.requests.Asking.TheVariants.{Register, Write, Read, Retire}
use Rattle.settings_text.specs.AccountSpelling.{FaultOfAccount, HasAccount}
use Rattle.settings_text.specs.Meanings.{SpellsTable, Has, FaultIn, FaultUnder, NoneIs, FaultOfText}
use Rattle.settings_text.specs.Meanings.{MeansAddress, MeansBytes, MeansList, MeansNumber, MeansText}

-- what the table of a request has, for messages of a width
abbrev pub HasAsking : ℕ → Members → Asking → Type 0
HasAsking width keys (Register address) =
    Has (codes "kind") MeansText keys (codes "register")
    × Has (codes "address") MeansAddress keys address
HasAsking width keys (Write address message) =
    Has (codes "kind") MeansText keys (codes "write")
    × Has (codes "address") MeansAddress keys address
    × Has (codes "message") (MeansBytes width) keys message
HasAsking width keys (Read own) =
    Has (codes "kind") MeansText keys (codes "read") × Has (codes "own") (MeansNumber 0 4095) keys own
HasAsking width keys (Retire own) =
    Has (codes "kind") MeansText keys (codes "retire") × Has (codes "own") (MeansNumber 0 4095) keys own

abbrev pub MeansAsking : ℕ → Asking → Data → Type 0
MeansAsking width asking value =
    (keys : Members) × (value ≡ toml.table keys) × HasAsking width keys asking

-- what stands under each key
pub record HasClient (keys : Members) (s : ClientSettings) : Type 0 where
  pub account : Account
  pub has_account : HasAccount 16 keys account
  pub request : Has (codes "request") (MeansList 1 1000 (MeansAsking account.width)) keys s.requests
  pub is : s ≡ client_with account s.requests

-- the text spells the settings
abbrev pub SpellsClient : ClientSettings → List ℕ → Type 0
SpellsClient s text = (keys : Members) × SpellsTable keys text × HasClient keys s

-- Each key before this one is right, and this one is missing or wrong.
abbrev pub FaultOfClient : Members → List ℕ → Type 0
FaultOfClient keys =
    FaultIn (FaultOfAccount 16 keys) (HasAccount 16 keys) (λ account.
    FaultUnder (codes "request") (MeansList 1 1000 (MeansAsking account.width)) keys (λ requests. NoneIs))

-- this is the key that is named
abbrev pub IsBadClientKey : List ℕ → List ℕ → Type 0
IsBadClientKey = FaultOfText FaultOfClient
