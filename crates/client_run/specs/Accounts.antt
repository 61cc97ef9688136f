-- Who asks, of which servers, and what, as settings have it.
use Rattle.std.specs.Prelude.{◌≡◌, ℕ, ◌+◌, ◌≤◌, List, length, map, All, Option, Some, None}
use Rattle.express_words.specs.Limits.{IsWidth}
use Rattle.mailbox_rules.specs.Requests as rules
use Rattle.mailbox_rules.specs.Requests.{Request}
use Rattle.step_rules.specs.Client.{Client, opened_client}
use Rattle.step_rules.specs.ClientAsks.{owned_by}
use Rattle.node_client.specs.declared.peers.Peers.{Peers}
use Rattle.settings_text.specs.declared.client.ClientSettings.{ClientSettings}
use Rattle.settings_text.specs.declared.owned.OwnedBox.{OwnedBox}
use Rattle.settings_text.specs.declared.requests.Asking.{Asking}
use Rattle.settings_text.specs.declared.requests.Asking.TheVariants as asking
use Rattle.settings_text.specs.Requests.{IsAsking}
use Rattle.client_run.specs.declared.account.Account.{Account as Lent}

-- what a client is opened with
pub record Account : Type 0 where
  pub lane : ℕ
  pub seed : List ℕ
  pub width : ℕ
  pub boxes : ℕ
  pub serial : ℕ
  pub owned : List OwnedBox

abbrev pub account_in : Lent → Account
account_in a = record {
  lane = a.lane;
  seed = a.seed.now;
  width = a.width;
  boxes = a.boxes;
  serial = a.serial;
  owned = a.owned.now;
}

-- the seed that settings have, or else this one
abbrev pub seed_or : Option (List ℕ) → List ℕ → List ℕ
seed_or None seed = seed
seed_or (Some own) seed = own

-- A client with room for a box more than the servers have, which owns the boxes of its earlier runs in order,
-- each with the keys of its serial.
unfoldable pub opened : Account → Client
opened a =
    let fresh = opened_client a.lane a.seed a.width (a.boxes + 1) a.serial in
    record fresh { owned = map (λ b. owned_by fresh b.box_number b.serial) a.owned }

-- ---- a client's settings

-- what holds of a client's settings that are read
pub record IsClient (settings : ClientSettings) : Type 0 where
  pub width : IsWidth settings.width
  pub boxes : settings.boxes ≤ 4096
  pub serial : 1 ≤ settings.serial
  pub owned : length settings.owned ≤ settings.boxes
  pub requests : All (IsAsking settings.width) settings.requests

abbrev pub client_account : ClientSettings → List ℕ → Account
client_account settings seed = record {
  lane = settings.lane;
  seed = seed_or settings.seed seed;
  width = settings.width;
  boxes = settings.boxes;
  serial = settings.serial;
  owned = settings.owned;
}

abbrev pub request_of : Asking → Request
request_of (asking.Register address) = rules.Register address
request_of (asking.Write target message) = rules.Write target message
request_of (asking.Read own) = rules.Read own
request_of (asking.Retire own) = rules.Retire own

-- ---- servers

-- a net dials the servers at these addresses
pub record AreAt (peers : Peers) (leader helper : List ℕ) : Type 0 where
  pub leads : peers.leader.now ≡ leader
  pub helps : peers.helper.now ≡ helper
