-- What was found under a key, and the words that are printed of a settings file that isn't taken.
use Rattle.std.specs.Prelude.{ℕ, List, ◌++◌, codes, true, false}
use Rattle.std.specs.Fmt.{decimal, signed_decimal}
use Rattle.toml.specs.Data as toml
use Rattle.toml.specs.Data.{Data}
use Rattle.server_settings.specs.declared.found.Found.{Found}
use Rattle.server_settings.specs.declared.found.Found.TheVariants as found
use Rattle.server_settings.specs.declared.fault.BadSettings.{BadSettings}
use Rattle.server_settings.specs.declared.fault.BadSettings.TheVariants.{NotToml, Unknown, Missing, Wrong, Lanes, Same}
use Rattle.server_settings.specs.declared.fault.SettingsFault.{SettingsFault}
use Rattle.server_settings.specs.declared.fault.SettingsFault.TheVariants.{Bad, NoMemory}
use Rattle.server_settings.specs.Keys.{key_name, key_takes}

abbrev pub found_in : Data → Found
found_in (toml.string text) = found.Text text
found_in (toml.integer number) = found.Number number
found_in (toml.float number) = found.Float
found_in (toml.boolean truth) = found.Truth truth
found_in (toml.datetime moment) = found.Moment
found_in (toml.array values) = found.List
found_in (toml.table keys) = found.Table

abbrev pub found_text : Found → List ℕ
found_text (found.Text text) = codes "\"" ++ (text ++ codes "\"")
found_text (found.Number number) = signed_decimal number
found_text found.Float = codes "a number that isn't whole"
found_text (found.Truth true) = codes "true"
found_text (found.Truth false) = codes "false"
found_text found.Moment = codes "a date or a time"
found_text found.List = codes "a list"
found_text found.Table = codes "a table"

abbrev pub bad_text : BadSettings → List ℕ
bad_text NotToml = codes "the settings aren't TOML in UTF-8"
bad_text (Unknown name) = codes "no key is called " ++ name
bad_text (Missing key) = key_name key ++ (codes " is missing, and takes " ++ key_takes key)
bad_text (Wrong key found) =
    key_name key ++ (codes " is " ++ (found_text found ++ (codes ", and takes " ++ key_takes key)))
bad_text (Lanes owners strangers) =
    codes "owners is " ++ (decimal owners ++ (codes " and strangers is " ++ (decimal strangers
    ++ codes ", and together they take 1 to 256")))
bad_text (Same one other address) =
    key_name one ++ (codes " and " ++ (key_name other ++ (codes " are both \"" ++ (address
    ++ codes "\", and take addresses that differ"))))

abbrev pub fault_text : SettingsFault → List ℕ
fault_text (Bad wrong) = codes "bad settings: " ++ bad_text wrong
fault_text NoMemory = codes "out of memory"
