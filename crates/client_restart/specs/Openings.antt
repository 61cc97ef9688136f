-- How a client is opened, and the record of it.
use Rattle.std.specs.Prelude.{◌≡◌, ◌<◌, ◌≤◌, ◌^◌, ℕ, List, ◌∷◌, ◌++◌, length}
use Rattle.std.specs.Int.{w16, w32, to_be_bytes}
use Rattle.express_words.specs.Limits.{IsWidth}
use Rattle.client_restart.specs.declared.opening.ClientOpening.{ClientOpening}

-- the record's tag, lane, width, capacity and first serial, and the seed
abbrev pub opening_record : ClientOpening → List ℕ
opening_record o =
    (3 ∷ to_be_bytes w16 o.lane) ++ to_be_bytes w32 o.width ++ to_be_bytes w32 o.capacity
    ++ to_be_bytes w32 o.first_serial ++ o.seed

-- a lane, a width, room for at most 4,097 boxes, a serial, and 32 bytes
pub record IsClientOpening (o : ClientOpening) : Type 0 where
  pub lane : o.lane < 2 ^ 16
  pub width : IsWidth o.width
  pub capacity : o.capacity ≤ 4097
  pub serial : (1 ≤ o.first_serial) × (o.first_serial < 2 ^ 32)
  pub seed : length o.seed ≡ 32
