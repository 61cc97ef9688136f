-- The command line of a server, as clap reads it: a required WORD and two optional values.
use Rattle.std.specs.Prelude.{◌≡◌, ◌⊎◌, List, [], ◌∷◌, Option, Some, None, true}
use Rattle.std.specs.Prelude.{String, Vec, codes, map, string_bytes}
use Rattle.clap.specs.Words.{App, Rule, Text, new_app, new_rule, with_rule, matches_of, first_of, fault_of}
use Rattle.server_words.specs.declared.task.ServerTask.{ServerTask}
use Rattle.server_words.specs.declared.task.ServerTask.TheVariants.{Help, Version}
use Rattle.server_words.specs.Tasks.{task_of}

-- the bytes of each word
abbrev pub words_in : {Y Z : Type 0} → Vec (String Y) Z → List Text
words_in words = map string_bytes words.items

abbrev pub plain_app : App
plain_app = record {
  top = record (new_app (codes "express-server")).top {
    no_binary_name = true;
    disable_help_flag = true;
    disable_version_flag = true;
  };
  subs = [];
}

abbrev pub word_rule : Rule
word_rule = record (new_rule (codes "WORD")) { required = true }

abbrev pub server_app : App
server_app = with_rule (with_rule (with_rule plain_app word_rule) (new_rule (codes "FIRST")))
    (new_rule (codes "SECOND"))

abbrev pub value_of : Text → List Text → Option Text
value_of id words = first_of id (matches_of server_app words)

abbrev pub IsEither : (long short word : Text) → Type 0
IsEither long short word = (word ≡ long) ⊎ (word ≡ short)

-- one word alone, in its long form or its short one
abbrev pub AreAlone : (long short : Text) → List Text → Type 0
AreAlone long short words = (words ≡ long ∷ []) ⊎ (words ≡ short ∷ [])

abbrev pub WantHelp : List Text → Type 0
WantHelp = AreAlone (codes "--help") (codes "-h")

abbrev pub WantVersion : List Text → Type 0
WantVersion = AreAlone (codes "--version") (codes "-V")

-- the task of the words' values
abbrev pub named : List Text → Option ServerTask
named words = task_of (value_of (codes "WORD") words) (value_of (codes "FIRST") words)
    (value_of (codes "SECOND") words)

-- clap takes the words, and their values have this task
pub record Names (words : List Text) (task : ServerTask) : Type 0 where
  pub taken : fault_of server_app words ≡ []
  pub is : named words ≡ Some task

-- the words ask for this task
abbrev pub Asks : List Text → ServerTask → Type 0
Asks words task = (WantHelp words × (task ≡ Help)) ⊎ ((WantVersion words × (task ≡ Version)) ⊎ Names words task)

-- what the words ask for, if anything
abbrev pub IsAsked : List Text → Option ServerTask → Type 0
IsAsked words (Some task) = Asks words task
IsAsked words None = (task : ServerTask) → Asks words task → ⊥
