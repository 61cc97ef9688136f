-- The grammar of a server's settings, key by key.
use Rattle.std.specs.Prelude.{◌≡◌, ℕ, List, [], codes}
use Rattle.toml.specs.Data as toml
use Rattle.toml.specs.Data.{Data, Members}
use Rattle.express_words.specs.declared.settings.Settings.{Settings}
use Rattle.express_words.specs.declared.role.Role.{Role}
use Rattle.express_words.specs.declared.role.Role.TheVariants.{Leader, Helper}
use Rattle.settings_text.specs.declared.serve.ServeSettings.{ServeSettings}
use Rattle.settings_text.specs.Meanings.{SpellsTable, Has, FaultIn, FaultAt, FaultUnder, NoneIs, FaultOfText}
use Rattle.settings_text.specs.Meanings.{MeansNumber, MeansText, MeansWidth}

abbrev pub MeansRole : Role → Data → Type 0
MeansRole Leader value = value ≡ toml.string (codes "leader")
MeansRole Helper value = value ≡ toml.string (codes "helper")

-- a leader's peer is a text; a helper has none, whatever stands there
abbrev pub HasPeer : Role → Members → List ℕ → Type 0
HasPeer Leader keys peer = Has (codes "peer") MeansText keys peer
HasPeer Helper keys peer = peer ≡ []

-- what stands under each key of the limits
pub record HasLimits (keys : Members) (s : Settings) : Type 0 where
  pub width : Has (codes "width") (MeansWidth 16) keys s.width
  pub boxes : Has (codes "boxes") (MeansNumber 1 4096) keys s.boxes
  pub lanes : Has (codes "lanes") (MeansNumber 1 256) keys s.lanes
  pub window : Has (codes "window") (MeansNumber 1 32) keys s.window

-- and under each key of a server
pub record HasServe (keys : Members) (s : ServeSettings) : Type 0 where
  pub role : Has (codes "role") MeansRole keys s.role
  pub listen : Has (codes "listen") MeansText keys s.listen
  pub peer : HasPeer s.role keys s.peer
  pub limits : HasLimits keys s.settings
  pub connections : Has (codes "connections") (MeansNumber 1 1000000) keys s.connections

-- the text spells the settings
abbrev pub SpellsServe : ServeSettings → List ℕ → Type 0
SpellsServe s text = (keys : Members) × SpellsTable keys text × HasServe keys s

-- Each key before this one is right, and this one is missing or wrong: of the limits, and of a server.
abbrev pub FaultOfLimits : Members → List ℕ → Type 0
FaultOfLimits keys =
    FaultUnder (codes "width") (MeansWidth 16) keys (λ width.
    FaultUnder (codes "boxes") (MeansNumber 1 4096) keys (λ boxes.
    FaultUnder (codes "lanes") (MeansNumber 1 256) keys (λ lanes.
    FaultUnder (codes "window") (MeansNumber 1 32) keys (λ window. NoneIs))))

abbrev pub FaultOfServe : Members → List ℕ → Type 0
FaultOfServe keys =
    FaultUnder (codes "role") MeansRole keys (λ role.
    FaultUnder (codes "listen") MeansText keys (λ listen.
    FaultAt (codes "peer") (HasPeer role keys) (λ peer.
    FaultIn (FaultOfLimits keys) (HasLimits keys) (λ limits.
    FaultUnder (codes "connections") (MeansNumber 1 1000000) keys (λ connections. NoneIs)))))

-- this is the key that is named
abbrev pub IsBadServeKey : List ℕ → List ℕ → Type 0
IsBadServeKey = FaultOfText FaultOfServe
