-- What a reader's answer says of the text.
use Rattle.std.specs.Prelude.{ℕ, List, Result, Ok, Err}
use Rattle.express_texts.specs.declared.fault.TextFault.{TextFault}
use Rattle.express_texts.specs.declared.fault.TextFault.TheVariants.{Wrong, WrongKey, NoMemory}
use Rattle.desk_texts.specs.declared.sheet.Sheet.{Sheet}
use Rattle.desk_texts.specs.Spelling.{SpellsSheet, IsFirstBadLine}

-- Ok has the sheet that the text spells, a wrong line is the first bad one, and want of memory says nothing.
abbrev pub Judges : List ℕ → Result Sheet TextFault → Type 0
Judges text (Ok sheet) = SpellsSheet sheet text
Judges text (Err (Wrong n)) = IsFirstBadLine n text
Judges text (Err (WrongKey key)) = ⊥
Judges text (Err NoMemory) = Unit {0}
