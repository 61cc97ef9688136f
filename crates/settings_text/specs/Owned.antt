-- The boxes of an earlier run.
use Rattle.std.specs.Prelude.{ℕ, ◌≤◌, List, codes, Option, Some}
use Rattle.express_texts.specs.LineFields.{◌>>=◌}
use Rattle.toml.specs.Data.{Data, as_table}
use Rattle.settings_text.specs.declared.owned.OwnedBox.{OwnedBox}
use Rattle.settings_text.specs.Values.{at_key, number_in, list_within, every}

unfoldable pub owned_box_in : Data → Option OwnedBox
owned_box_in value = do
  table ← as_table value
  box_number ← at_key (codes "box") (number_in 0 4095) table
  serial ← at_key (codes "serial") (number_in 1 4294967295) table
  Some (record { box_number = box_number; serial = serial })

-- a list of at most so many boxes
unfoldable pub owned_in : ℕ → Data → Option (List OwnedBox)
owned_in most value = list_within 0 most value >>= every owned_box_in

-- what holds of each box that is read
pub record IsOwned (owned : OwnedBox) : Type 0 where
  pub box_number : owned.box_number ≤ 4095
  pub serial : 1 ≤ owned.serial
