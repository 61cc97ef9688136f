-- What a reader's answer says of the text.
use Rattle.std.specs.Prelude.{◌≡◌, ℕ, List, Result, Ok, Err}
use Rattle.express_texts.specs.declared.fault.TextFault.{TextFault}
use Rattle.express_texts.specs.declared.fault.TextFault.TheVariants.{Wrong, WrongKey, NoMemory}
use Rattle.express_texts.specs.declared.batch.BatchPairs.{BatchPairs}
use Rattle.express_texts.specs.Batch.{Batch}
use Rattle.express_texts.specs.Spelling.{SpellsBatch, IsFirstBadLine}

-- Ok has what is read, a wrong line comes where that one is the first, and want of memory says nothing. No
-- key is wrong.
abbrev pub Gives : {X Y : Type 0} → (X → Y) → Result X TextFault → Result Y ℕ → Type 0
Gives view (Ok x) read = read ≡ Ok (view x)
Gives view (Err (Wrong n)) read = read ≡ Err n
Gives view (Err (WrongKey key)) read = ⊥
Gives view (Err NoMemory) read = Unit {0}

abbrev pub batch_in : BatchPairs → Batch
batch_in pairs =
    record { seed = pairs.seed; pairs = record { zero = pairs.zero; one = pairs.one } }

-- Ok has the batch that the text spells, a wrong line is the first bad one, and want of memory says nothing.
abbrev pub Judges : List ℕ → Result BatchPairs TextFault → Type 0
Judges text (Ok pairs) = SpellsBatch (batch_in pairs) text
Judges text (Err (Wrong n)) = IsFirstBadLine n text
Judges text (Err (WrongKey key)) = ⊥
Judges text (Err NoMemory) = Unit {0}
