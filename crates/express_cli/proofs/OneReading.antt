-- Words ask for at most one task, and bytes spell at most one value, or have one first bad line.
use Rattle.std.proofs.Common.{◌≡◌, ℕ, List, Result, Ok, Err, arith}
use Rattle.std.proofs.lemmas.Fmt.{decimal_injective}
use Rattle.clap.specs.Words.{Text}
use Rattle.schedule_text.specs.Spelling as schedules
use Rattle.express_texts.specs.Spelling as batches
use Rattle.express_texts.specs.GameSpelling.{SpellsGame, IsFirstBadGameLine}
use Rattle.express_cli.specs.CommandLine.{AskFor}
use Rattle.express_cli.specs.Ends.{IsOutput, IsBad}
use Rattle.express_cli.specs.declared.words.Command.{Command}
use Rattle.express_cli.specs.declared.words.Command.TheVariants.{Replay, Batch, Cloak}
use Rattle.express_cli.specs.declared.words.Task.{Task}

-- a text spells one value, or has one first bad line
pub record OneReading {A : Type 0} (Spells : A → List ℕ → Type 0) (IsFirst : ℕ → List ℕ → Type 0) : Type 0 where
  pub same_value : (text : List ℕ) (a b : A) → Spells a text → Spells b text → a ≡ b
  pub same_line : (text : List ℕ) (m n : ℕ) → IsFirst m text → IsFirst n text → m ≡ n
  pub not_both : (text : List ℕ) (a : A) (n : ℕ) → Spells a text → IsFirst n text → ⊥

-- since it is read as that
pub one_reading : {A : Type 0} {Spells : A → List ℕ → Type 0} {IsFirst : ℕ → List ℕ → Type 0} (read : List ℕ → Result A ℕ) → ((text : List ℕ) (a : A) → Spells a text → read text ≡ Ok a)
    → ((text : List ℕ) (n : ℕ) → IsFirst n text → read text ≡ Err n) → OneReading Spells IsFirst
one_reading read good bad = record {
  same_value = λ text a b one two. cc (good text a one, good text b two);
  same_line = λ text m n one two. cc (bad text m one, bad text n two);
  not_both = λ text a n one two. cc (good text a one, bad text n two);
}

pub record Reads : Type 0 where
  pub schedules : OneReading schedules.SpellsSchedule schedules.IsFirstBadLine
  pub pairs : OneReading batches.SpellsBatch batches.IsFirstBadLine
  pub games : OneReading SpellsGame IsFirstBadGameLine

-- no bytes have both an output and a bad line
pub not_both : Reads → (command : Command) (bytes text : List ℕ) (n : ℕ) → IsOutput command bytes text → IsBad command n bytes → ⊥
not_both law Replay bytes text n out bad = law.schedules.not_both bytes out.0 n out.1 bad
not_both law Batch bytes text n out bad = law.pairs.not_both bytes out.0 n out.1 bad
not_both law Cloak bytes text n out bad = law.games.not_both bytes out.0 n out.1 bad

-- one line is the first bad one
pub same_line : Reads → (command : Command) (bytes : List ℕ) (m n : ℕ) → IsBad command m bytes → IsBad command n bytes → m ≡ n
same_line law Replay bytes m n one two = law.schedules.same_line bytes m n one two
same_line law Batch bytes m n one two = law.pairs.same_line bytes m n one two
same_line law Cloak bytes m n one two = law.games.same_line bytes m n one two

-- words ask for at most one task
pub same_task : (words : List Text) (a b : Task) → AskFor words a → AskFor words b → a ≡ b
same_task words a b h k = grind (arith, decimal_injective)
