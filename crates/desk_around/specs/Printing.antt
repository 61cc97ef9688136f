-- What an output took.
use Rattle.std.specs.Prelude.{◌≡◌, ℕ, List, ◌++◌, Option, codes}
use Rattle.express_words.specs.Streams.{Took}

-- From old to new an output took a text of this form.
abbrev pub Prints : (List ℕ → Type 0) → Option (List ℕ) → Option (List ℕ) → Type 0
Prints Form old new = (text : List ℕ) × Form text × Took old new text

-- it took some text
abbrev pub PrintsSome : Option (List ℕ) → Option (List ℕ) → Type 0
PrintsSome old new = (text : List ℕ) × Took old new text

-- the line that tells of letters that met in a box of this name
unfoldable pub met_line : List ℕ → List ℕ
met_line name = codes "two letters met in box " ++ name ++ codes ": neither can be read\n"

-- a text with such a line in it
pub record TellsMet (text : List ℕ) : Type 0 where
  pub name : List ℕ
  pub before : List ℕ
  pub behind : List ℕ
  pub is : text ≡ before ++ (met_line name ++ behind)
