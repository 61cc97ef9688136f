-- What words ask for, by the values of COMMAND and NUMBER.
use Rattle.std.proofs.Common.{◌≡◌, ℕ, ◌≤◌, List, codes, Option, Some, None, Ok, Result, arith}
use Rattle.std.specs.Fmt.{decimal}
use Rattle.std.specs.Str.Parse.{ParsesUnsigned}
use Rattle.std.proofs.lemmas.Fmt.{parse-decimal}
use Rattle.std.proofs.lemmas.Slice.Eq.{bytes_eq-Decides}
use Rattle.clap.specs.Words.{Text}
use Rattle.express_cli.specs.CommandLine.{value_of, AreRead, Names, IsNamed, IsAsked}
use Rattle.express_cli.specs.declared.words.Task.{Task}

named_mill : (text : Text) (task : Task) → Names (Some (codes "mill")) (Some text) task → (n : ℕ) × (n ≤ 5000) × (text ≡ decimal n)
named_mill text task named = grind arith

-- digits that aren't those of a number up to 5,000 that they are read as name no mill
pub no_mill : {E : Type 0} (text : Text) (task : Task) (r : Result ℕ E) → ParsesUnsigned 16 10 text r
    → ((n : ℕ) → n ≤ 5000 → r ≡ Ok n → text ≡ decimal n → ⊥) → Names (Some (codes "mill")) (Some text) task → ⊥
no_mill text task r parses other named =
    let mill = named_mill text task named in
    other mill.0 mill.1 (parse-decimal 16 mill.0 text r (omega (arith, mill.1)) (omega (arith, mill.1)) mill.2 parses) mill.2

-- and what tells digits apart
pub ruleset other_digits = (no_mill, bytes_eq-Decides)

-- words that clap refuses ask for nothing
pub refused : (words : List Text) → (AreRead words → ⊥) → IsAsked words None
refused words bad = grind arith

pub asked : (words : List Text) (name number : Option Text) (task : Option Task) → name ≡ value_of (codes "COMMAND") words → number ≡ value_of (codes "NUMBER") words
    → AreRead words → IsNamed name number task → IsAsked words task
asked words name number task is_name is_number read named = grind arith
