-- What a reader's answer says: a value, or what is wrong.
use Rattle.std.specs.Prelude.{◌≡◌, Result, Ok, Err}
use Rattle.server_settings.specs.declared.fault.BadSettings.{BadSettings}
use Rattle.server_settings.specs.declared.fault.SettingsFault.{SettingsFault}
use Rattle.server_settings.specs.declared.fault.SettingsFault.TheVariants.{Bad, NoMemory}

-- Ok has what is read, and what is wrong is told where it is so. Want of memory says nothing.
abbrev pub Gives : {X Y : Type 0} → (X → Y) → Result X SettingsFault → Result Y BadSettings → Type 0
Gives view (Ok x) read = read ≡ Ok (view x)
Gives view (Err (Bad wrong)) read = read ≡ Err wrong
Gives view (Err NoMemory) read = Unit {0}

-- the fault is this one, or want of memory
abbrev pub Tells : BadSettings → SettingsFault → Type 0
Tells wrong (Bad told) = told ≡ wrong
Tells wrong NoMemory = Unit {0}
