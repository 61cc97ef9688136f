-- What a reader's answer says of a reading.
use Rattle.std.specs.Prelude.{◌≡◌, ℕ, Result, Ok, Err}
use Rattle.schedule_text.specs.declared.fault.ReadFault.{ReadFault}
use Rattle.schedule_text.specs.declared.fault.ReadFault.TheVariants.{BadLine, NoMemory}

-- Ok has what is read, a bad line comes where that one is the first, and want of memory says nothing.
abbrev pub Gives : {X Y : Type 0} → (X → Y) → Result X ReadFault → Result Y ℕ → Type 0
Gives view (Ok x) read = read ≡ Ok (view x)
Gives view (Err (BadLine n)) read = read ≡ Err n
Gives view (Err NoMemory) read = Unit {0}
