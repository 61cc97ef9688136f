-- What is seen of what stands around a word.
use Rattle.std.specs.Prelude.{ℕ, List, Option}
use Rattle.express_words.specs.Calls.{Call}
use Rattle.express_words.specs.Seen.{Seen}
use Rattle.desk_outside.specs.Calls.{FolderCall}
use Rattle.desk_around.specs.declared.around.Around.{Around}

-- the output's text, the calls on the net, and those on the folder, each where its object tells
pub record Scene (D : Type 0) : Type 0 where
  pub written : Option (List ℕ)
  pub calls : Option (List Call)
  pub files : Option (List (FolderCall D))

abbrev pub scene : {D S K N F P C : Type 0} → (K → Seen) → (N → Seen) → (F → Option (List (FolderCall D)))
    → Around S K N F P C → Scene D
scene outs nets files around = record {
  written = (outs around.out).written;
  calls = (nets around.net).calls;
  files = files around.folder;
}

-- R, of how a word ended and of what was seen before it and behind it
abbrev pub Between : {D S K N F P C E : Type 0} → (K → Seen) → (N → Seen)
    → (F → Option (List (FolderCall D))) → (old new : Around S K N F P C)
    → (E → Scene D → Scene D → Type 0) → E → Type 0
Between outs nets files old new R end = R end (scene outs nets files old) (scene outs nets files new)
