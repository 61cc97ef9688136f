-- The keys that the settings of clients and carriers begin with.
use Rattle.std.specs.Prelude.{◌≡◌, ℕ, List, [], codes, Option, Some, None}
use Rattle.toml.specs.Data as toml
use Rattle.toml.specs.Data.{Data, Members}
use Rattle.settings_text.specs.declared.account.Account.{Account}
use Rattle.settings_text.specs.declared.owned.OwnedBox.{OwnedBox}
use Rattle.settings_text.specs.Meanings.{Has, HasOr, FaultAt, FaultUnder, NoneIs}
use Rattle.settings_text.specs.Meanings.{MeansNumber, MeansText, MeansWidth, MeansBytes, MeansList}

-- a seed that is there, in 64 hexadecimal digits
abbrev pub MeansSeed : Option (List ℕ) → Data → Type 0
MeansSeed None value = ⊥
MeansSeed (Some seed) value = MeansBytes 32 seed value

-- a box of an earlier run
abbrev pub MeansOwned : OwnedBox → Data → Type 0
MeansOwned owned value =
    (keys : Members) × (value ≡ toml.table keys)
    × Has (codes "box") (MeansNumber 0 4095) keys owned.box_number
    × Has (codes "serial") (MeansNumber 1 4294967295) keys owned.serial

-- the boxes of earlier runs, of which there may be none
abbrev pub HasOwned : ℕ → Members → List OwnedBox → Type 0
HasOwned boxes keys owned = HasOr [] (codes "owned") (MeansList 0 boxes MeansOwned) keys owned

-- what stands under each key
pub record HasAccount (least : ℕ) (keys : Members) (a : Account) : Type 0 where
  pub lane : Has (codes "lane") (MeansNumber 0 255) keys a.lane
  pub leader : Has (codes "leader") MeansText keys a.leader
  pub helper : Has (codes "helper") MeansText keys a.helper
  pub width : Has (codes "width") (MeansWidth least) keys a.width
  pub boxes : Has (codes "boxes") (MeansNumber 1 4096) keys a.boxes
  pub serial : Has (codes "serial") (MeansNumber 1 4294967295) keys a.serial
  pub seed : HasOr None (codes "seed") MeansSeed keys a.seed
  pub owned : HasOwned a.boxes keys a.owned

-- Each key before this one is right, and this one is missing or wrong.
abbrev pub FaultOfAccount : ℕ → Members → List ℕ → Type 0
FaultOfAccount least keys =
    FaultUnder (codes "lane") (MeansNumber 0 255) keys (λ lane.
    FaultUnder (codes "leader") MeansText keys (λ leader.
    FaultUnder (codes "helper") MeansText keys (λ helper.
    FaultUnder (codes "width") (MeansWidth least) keys (λ width.
    FaultUnder (codes "boxes") (MeansNumber 1 4096) keys (λ boxes.
    FaultUnder (codes "serial") (MeansNumber 1 4294967295) keys (λ serial.
    FaultAt (codes "seed") (HasOr None (codes "seed") MeansSeed keys) (λ seed.
    FaultAt (codes "owned") (HasOwned boxes keys) (λ owned. NoneIs))))))))
