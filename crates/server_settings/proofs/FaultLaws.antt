-- What is told is wrong.
use Rattle.std.proofs.Common.{◌≡◌, Result, Err, sym, ◌∙◌, ap}
use Rattle.server_settings.specs.declared.fault.BadSettings.{BadSettings}
use Rattle.server_settings.specs.declared.fault.SettingsFault.{SettingsFault}
use Rattle.server_settings.specs.declared.fault.SettingsFault.TheVariants.{Bad, NoMemory}
use Rattle.server_settings.specs.Judging.{Gives, Tells}

pub told : {X Y : Type 0} (view : X → Y) (wrong : BadSettings) (fault : SettingsFault) (read : Result Y BadSettings) → Tells wrong fault → read ≡ Err wrong → Gives view (Err fault) read
told view wrong (Bad found) read tells is = is ∙ ap Err (sym tells)
told view wrong NoMemory read tells is = tt
