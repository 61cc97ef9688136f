-- What the answer of the reader of games says of the text.
use Rattle.std.specs.Prelude.{ℕ, List, Result, Ok, Err}
use Rattle.express_texts.specs.declared.fault.TextFault.{TextFault}
use Rattle.express_texts.specs.declared.fault.TextFault.TheVariants.{Wrong, WrongKey, NoMemory}
use Rattle.express_texts.specs.declared.cloak.CloakGame.{CloakGame}
use Rattle.express_texts.specs.GameSpelling.{SpellsGame, IsFirstBadGameLine}

-- Ok has the game that the text spells, a wrong line is the one to name, and want of memory says nothing.
abbrev pub JudgesGame : List ℕ → Result CloakGame TextFault → Type 0
JudgesGame text (Ok game) = SpellsGame game text
JudgesGame text (Err (Wrong n)) = IsFirstBadGameLine n text
JudgesGame text (Err (WrongKey key)) = ⊥
JudgesGame text (Err NoMemory) = Unit {0}
