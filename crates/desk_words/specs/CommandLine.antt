-- The command line of a desk, as clap reads it: a required WORD, two optional values, --desk, --out, --proxy
-- and --until with a value each, and the flag --now.
use Rattle.std.specs.Prelude.{◌≡◌, ◌≤◌, ◌⊎◌, ℕ, List, [], ◌∷◌, Option, Some, None, Bool, true, false}
use Rattle.std.specs.Prelude.{IfSome, String, Vec, bytes_eq, codes, map, option_map, string_bytes}
use Rattle.std.specs.Fmt.{decimal}
use Rattle.clap.specs.Words.{App, Rule, Text, new_app, new_rule, with_rule, matches_of, first_of, fault_of}
use Rattle.clap.specs.declared.builder.action.ArgAction.TheVariants.{Set, SetTrue}
use Rattle.desk_texts.specs.Days.{IsDay, day_text}
use Rattle.desk_texts.specs.declared.day.Day.{Day}
use Rattle.desk_words.specs.declared.task.DeskTask.{DeskTask}
use Rattle.desk_words.specs.declared.task.DeskTask.TheVariants as task

-- the bytes of each word
abbrev pub words_in : {Y Z : Type 0} → Vec (String Y) Z → List Text
words_in words = map string_bytes words.items

abbrev pub plain_app : App
plain_app = record {
  top = record (new_app (codes "express-desk")).top {
    no_binary_name = true;
    disable_help_flag = true;
    disable_version_flag = true;
  };
  subs = [];
}

-- an option with a value
abbrev pub option_rule : (id name : Text) → Rule
option_rule id name = record (new_rule id) { long = Some name; action = Some Set }

-- an option that is there or not
abbrev pub flag_rule : (id name : Text) → Rule
flag_rule id name = record (new_rule id) { long = Some name; action = Some SetTrue }

abbrev pub word_rule : Rule
word_rule = record (new_rule (codes "WORD")) { required = true }

abbrev pub places_app : App
places_app = with_rule (with_rule (with_rule plain_app (option_rule (codes "DESK") (codes "desk")))
    (option_rule (codes "OUT") (codes "out"))) (option_rule (codes "PROXY") (codes "proxy"))

abbrev pub options_app : App
options_app = with_rule (with_rule places_app (option_rule (codes "UNTIL") (codes "until")))
    (flag_rule (codes "NOW") (codes "now"))

abbrev pub desk_app : App
desk_app = with_rule (with_rule (with_rule options_app word_rule) (new_rule (codes "FIRST")))
    (new_rule (codes "SECOND"))

abbrev pub value_of : Text → List Text → Option Text
value_of id words = first_of id (matches_of desk_app words)

-- a flag has a text as its value
abbrev pub is_true : Option Text → Bool
is_true (Some text) = bytes_eq text (codes "true")
is_true None = false

abbrev pub is_set : Text → List Text → Bool
is_set id words = is_true (value_of id words)

-- What stands at each place of the command line, but for --desk and --proxy.
pub record Said : Type 0 where
  pub word : Option Text
  pub first : Option Text
  pub second : Option Text
  pub out : Option Text
  pub until : Option Text
  pub at_once : Bool

abbrev pub said_in : List Text → Said
said_in words = record {
  word = value_of (codes "WORD") words;
  first = value_of (codes "FIRST") words;
  second = value_of (codes "SECOND") words;
  out = value_of (codes "OUT") words;
  until = value_of (codes "UNTIL") words;
  at_once = is_set (codes "NOW") words;
}

-- a word with these values behind it, and no --out, --until or --now
abbrev pub said : Text → Option Text → Option Text → Said
said word first second =
    record { word = Some word; first = first; second = second; out = None; until = None; at_once = false }

-- `letters` with this folder behind --out, or without it
abbrev pub said_letters : Option Text → Said
said_letters out = record (said (codes "letters") None None) { out = out }

-- `box` with a name and a number behind it, and this day behind --until, or without them
abbrev pub said_boxes : (name number until : Option Text) → Said
said_boxes name number until = record (said (codes "box") name number) { until = until }

-- `retire` with a name behind it, and with --now or without it
abbrev pub said_retire : Option Text → Bool → Said
said_retire name at_once = record (said (codes "retire") name None) { at_once = at_once }

-- a number from 1 on
abbrev pub IsUpTo : (most number : ℕ) → Type 0
IsUpTo most number = (1 ≤ number) × (number ≤ most)

-- a number of addresses that a card may have
abbrev pub IsCount : ℕ → Type 0
IsCount = IsUpTo 64

-- the number of addresses that these digits say, if there are any; else it is 16
abbrev pub SaysCount : Option Text → ℕ → Type 0
SaysCount (Some digits) count = (digits ≡ decimal count) × IsCount count
SaysCount None count = count ≡ 16

pub record NamesBoxes (s : Said) (name : Text) (count : ℕ) (until : Option Day) : Type 0 where
  pub values : s ≡ said_boxes (Some name) s.second (option_map day_text until)
  pub counted : SaysCount s.second count
  pub dated : IfSome until IsDay

-- a letter is named by its number, from 1 to 8, or by none
pub record NamesLetter (s : Said) (number : Option ℕ) : Type 0 where
  pub values : s ≡ said (codes "discard") (option_map decimal number) None
  pub numbered : IfSome number (IsUpTo 8)

-- These values name a task.
abbrev pub Names : Said → DeskTask → Type 0
Names s (task.Open pair) = s ≡ said (codes "open") (Some pair.now) None
Names s (task.Box name count until) = NamesBoxes s name.now count until
Names s (task.Card name) = s ≡ said (codes "card") (Some name.now) None
Names s (task.Letters out) = s ≡ said_letters (option_map (λ o. o.now) out)
Names s (task.Send card file) = s ≡ said (codes "send") (Some card.now) (option_map (λ f. f.now) file)
Names s (task.Discard number) = NamesLetter s number
Names s task.Resume = s ≡ said (codes "resume") None None
Names s task.Adopt = s ≡ said (codes "adopt") None None
Names s (task.Retire name at_once) = s ≡ said_retire (Some name.now) at_once
Names s task.Forget = s ≡ said (codes "forget") None None
Names s task.Status = s ≡ said (codes "status") None None
Names s task.Help = s ≡ said (codes "help") None None

-- Clap reads the words, and they name this task.
pub record Asks (words : List Text) (t : DeskTask) : Type 0 where
  pub read : fault_of desk_app words ≡ []
  pub named : Names (said_in words) t

abbrev pub IsHelpWord : Text → Type 0
IsHelpWord word = (word ≡ codes "--help") ⊎ (word ≡ codes "-h")

-- one word alone, which wants the help
abbrev pub WantHelp : List Text → Type 0
WantHelp words = (words ≡ codes "--help" ∷ []) ⊎ (words ≡ codes "-h" ∷ [])

-- the task that the words ask for, if any
abbrev pub IsAsked : List Text → Option DeskTask → Type 0
IsAsked words (Some t) = (WantHelp words × (t ≡ task.Help)) ⊎ Asks words t
IsAsked words None = (WantHelp words → ⊥) × ((t : DeskTask) → Asks words t → ⊥)

-- the words are those of a desk
abbrev pub AskSome : List Text → Type 0
AskSome words = (t : DeskTask) × IsAsked words (Some t)

-- The folder that words of a desk name: what stands at --desk. The help has none.
abbrev pub FolderIs : List Text → Option Text → Type 0
FolderIs words folder = (WantHelp words → folder ≡ None)
    × ((WantHelp words → ⊥) → folder ≡ value_of (codes "DESK") words)

-- The proxy that words of a desk name: what stands at --proxy. The help has none.
abbrev pub ProxyIs : List Text → Option Text → Type 0
ProxyIs words proxy = (WantHelp words → proxy ≡ None)
    × ((WantHelp words → ⊥) → proxy ≡ value_of (codes "PROXY") words)
