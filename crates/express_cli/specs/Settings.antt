-- What it is to spell settings, by their format: one field a key, and the key that is named.
use Rattle.std.specs.Prelude.{◌↔◌, ℕ, List}
use Rattle.settings_text.specs.CarrySpelling as carrier
use Rattle.settings_text.specs.CarrySpelling.{IsBadCarryKey}
use Rattle.settings_text.specs.ClientSpelling as client
use Rattle.settings_text.specs.ClientSpelling.{IsBadClientKey}
use Rattle.settings_text.specs.ServeSpelling as server
use Rattle.settings_text.specs.ServeSpelling.{IsBadServeKey}
use Rattle.settings_text.specs.declared.carry.CarrySettings.{CarrySettings}
use Rattle.settings_text.specs.declared.client.ClientSettings.{ClientSettings}
use Rattle.settings_text.specs.declared.serve.ServeSettings.{ServeSettings}
use Rattle.express_cli.specs.Talking.{IsBadKey, Spells}
use Rattle.express_cli.specs.declared.words.NetCommand.{NetCommand}
use Rattle.express_cli.specs.declared.words.NetCommand.TheVariants.{Serve, Client, Carry}

-- each key before it is right, and this one is missing or wrong
abbrev pub IsFirstBadKey : NetCommand → List ℕ → List ℕ → Type 0
IsFirstBadKey Serve key text = IsBadServeKey key text
IsFirstBadKey Client key text = IsBadClientKey key text
IsFirstBadKey Carry key text = IsBadCarryKey key text

-- The settings that a text is read as are those that it spells, key by key, and the key that is named is the
-- first that is missing or wrong.
pub record SettingsAreSpelled : Type 0 where
  pub servers : (s : ServeSettings) (text : List ℕ) → Spells Serve s text ↔ server.SpellsServe s text
  pub clients : (s : ClientSettings) (text : List ℕ) → Spells Client s text ↔ client.SpellsClient s text
  pub carriers : (s : CarrySettings) (text : List ℕ) → Spells Carry s text ↔ carrier.SpellsCarry s text
  pub keys : (command : NetCommand) (key text : List ℕ)
      → IsBadKey command key text ↔ IsFirstBadKey command key text
