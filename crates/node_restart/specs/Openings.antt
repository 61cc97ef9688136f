-- An opening, and the record of it.
use Rattle.std.specs.Prelude.{◌≡◌, ℕ, List, ◌∷◌, ◌++◌, length}
use Rattle.std.specs.Int.{w16, w32, to_be_bytes}
use Rattle.node_restart.specs.declared.opening.Opening.{Opening}
use Rattle.express_words.specs.declared.role.Role.{Role}
use Rattle.express_words.specs.declared.role.Role.TheVariants.{Leader, Helper}

abbrev pub role_number : Role → ℕ
role_number Leader = 0
role_number Helper = 1

-- the record's tag, the role, width, boxes, lanes and window, and the seed
abbrev pub opening_record : Opening → List ℕ
opening_record o =
    (0 ∷ role_number o.role ∷ to_be_bytes w32 o.settings.width) ++ to_be_bytes w32 o.settings.boxes
    ++ to_be_bytes w16 o.settings.lanes ++ o.settings.window ∷ o.seed

-- a seed of 32 bytes
pub record IsOpening (o : Opening) : Type 0 where
  pub seed : length o.seed ≡ 32
