-- A key that is named.
use Rattle.std.proofs.Common.{◌≡◌, ℕ, List, Result, Err, sym, ◌∙◌, ap}
use Rattle.express_texts.specs.declared.fault.TextFault.{TextFault}
use Rattle.express_texts.specs.declared.fault.TextFault.TheVariants.{Wrong, WrongKey, NoMemory}
use Rattle.settings_text.specs.Judging.{Gives, Names}

pub named : {X Y : Type 0} (view : X → Y) (key : List ℕ) (fault : TextFault) (read : Result Y (List ℕ)) → Names key fault → read ≡ Err key → Gives view (Err fault) read
named view key (Wrong n) read names is = absurd names
named view key (WrongKey found) read names is = is ∙ ap Err (sym names)
named view key NoMemory read names is = tt
