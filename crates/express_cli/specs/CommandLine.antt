-- The command line: a required COMMAND and an optional NUMBER, with no flags, as clap reads it.
use Rattle.std.specs.Prelude.{◌≡◌, ◌≤◌, ℕ, List, [], codes, Option, Some, None, true}
use Rattle.std.specs.Fmt.{decimal}
use Rattle.clap.specs.Words.{App, Rule, Text, new_app, new_rule, with_rule, matches_of, first_of, fault_of}
use Rattle.express_cli.specs.declared.words.Command.{Command}
use Rattle.express_cli.specs.declared.words.Command.TheVariants.{Replay, Batch, Cloak}
use Rattle.express_cli.specs.declared.words.InputTask.{InputTask}
use Rattle.express_cli.specs.declared.words.InputTask.TheVariants.{Work, Net}
use Rattle.express_cli.specs.declared.words.NetCommand.{NetCommand}
use Rattle.express_cli.specs.declared.words.NetCommand.TheVariants.{Serve, Client, Carry}
use Rattle.express_cli.specs.declared.words.Task.{Task}
use Rattle.express_cli.specs.declared.words.Task.TheVariants.{OnInput, Mill}

abbrev pub command_rule : Rule
command_rule = record (new_rule (codes "COMMAND")) { required = true }

abbrev pub number_rule : Rule
number_rule = new_rule (codes "NUMBER")

abbrev pub plain_app : App
plain_app = record {
  top = record (new_app (codes "express")).top {
    no_binary_name = true;
    disable_help_flag = true;
    disable_version_flag = true;
  };
  subs = [];
}

abbrev pub express_app : App
express_app = with_rule (with_rule plain_app command_rule) number_rule

-- clap reads the words
unfoldable pub AreRead : List Text → Type 0
AreRead words = fault_of express_app words ≡ []

-- the first value of COMMAND or NUMBER in them
unfoldable pub value_of : Text → List Text → Option Text
value_of id words = first_of id (matches_of express_app words)

-- these values of COMMAND and NUMBER name a task
abbrev pub Names : Option Text → Option Text → Task → Type 0
Names name number (OnInput (Work Replay)) = (name ≡ Some (codes "replay")) × (number ≡ None)
Names name number (OnInput (Work Batch)) = (name ≡ Some (codes "batch")) × (number ≡ None)
Names name number (OnInput (Work Cloak)) = (name ≡ Some (codes "cloak")) × (number ≡ None)
Names name number (OnInput (Net Serve)) = (name ≡ Some (codes "serve")) × (number ≡ None)
Names name number (OnInput (Net Client)) = (name ≡ Some (codes "client")) × (number ≡ None)
Names name number (OnInput (Net Carry)) = (name ≡ Some (codes "carry")) × (number ≡ None)
Names name number (Mill n) = (name ≡ Some (codes "mill")) × (number ≡ Some (decimal n)) × (n ≤ 5000)

-- the task that they name, if any
abbrev pub IsNamed : Option Text → Option Text → Option Task → Type 0
IsNamed name number (Some task) = Names name number task
IsNamed name number None = (task : Task) → Names name number task → ⊥

-- Clap reads the words, and they name this task.
pub record AskFor (words : List Text) (task : Task) : Type 0 where
  pub read : AreRead words
  pub named : Names (value_of (codes "COMMAND") words) (value_of (codes "NUMBER") words) task

-- the words ask for this command
abbrev pub Asks : List Text → Command → Type 0
Asks words command = AskFor words (OnInput (Work command))

-- the words ask for this command over a net
abbrev pub AsksNet : List Text → NetCommand → Type 0
AsksNet words command = AskFor words (OnInput (Net command))

-- the words ask for the mill of this number
abbrev pub AsksMill : List Text → ℕ → Type 0
AsksMill words n = AskFor words (Mill n)

-- the words ask for work over a net
abbrev pub AskTalk : List Text → Type 0
AskTalk words = (command : NetCommand) × AsksNet words command

-- the words ask for work on the input, or over a net by the settings that are the input
abbrev pub AskSome : List Text → Type 0
AskSome words = (task : InputTask) × AskFor words (OnInput task)

-- the words ask for no task
abbrev pub AskNothing : List Text → Type 0
AskNothing words = (task : Task) → AskFor words task → ⊥

-- the task that they ask for, if any
abbrev pub IsAsked : List Text → Option Task → Type 0
IsAsked words (Some task) = AskFor words task
IsAsked words None = AskNothing words
