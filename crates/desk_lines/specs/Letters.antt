-- What is printed of a letter.
use Rattle.std.specs.Prelude.{◌≡◌, ℕ, List, ◌++◌, length, codes}
use Rattle.std.specs.Fmt.{decimal}
use Rattle.std.specs.Str.{IsUtf8}
use Rattle.desk_letters.specs.Screen.{shown_text}
use Rattle.desk_lines.specs.Moments.{IsMoment}

-- whose box it came from, and when it was read
unfoldable pub from_text : List ℕ → List ℕ → List ℕ
from_text name moment = codes "letter from box " ++ (name ++ (codes ", read " ++ moment))

-- what stands for a letter of so many bytes that is no text
unfoldable pub no_text : ℕ → List ℕ
no_text count =
    codes "(these " ++ (decimal count ++ codes " bytes are no text: letters --out FOLDER writes them to a file)\n\n")

-- what is printed of a letter's bytes: the text for a screen, where they are one
pub record ShowsText (text body : List ℕ) : Type 0 where
  pub shown : IsUtf8 text → body ≡ shown_text text ++ codes "\n\n"
  pub counted : (IsUtf8 text → ⊥) → body ≡ no_text (length text)

-- what is printed of a letter that was read in a box of this name at this moment
pub record ShowsLetter (name : List ℕ) (seconds : ℕ) (text printed : List ℕ) : Type 0 where
  pub moment : List ℕ
  pub is_moment : IsMoment seconds moment
  pub body : List ℕ
  pub shows : ShowsText text body
  pub is : printed ≡ from_text name moment ++ (codes "\n" ++ body)

-- ---- letters that met

-- how many readings of the boxes of a name aren't told apart
unfoldable pub met_line : List ℕ → ℕ → List ℕ
met_line name count = codes "letters met in box " ++ (name ++ (codes ": " ++ (decimal count
    ++ codes " readings can't be told apart yet, and are tried again at each later fetch\n")))

-- ---- files

-- a letter's file, by its box's name, its id and parts, and the desk's tag
unfoldable pub file_name : List ℕ → (id parts tag : ℕ) → List ℕ
file_name name id parts tag = name ++ (codes "-" ++ (decimal id ++ (codes "-" ++ (decimal parts ++ (codes "-"
    ++ (decimal tag ++ codes ".txt"))))))

-- where it lies
unfoldable pub place_text : List ℕ → List ℕ → List ℕ
place_text folder file = codes ": " ++ (folder ++ (codes "/" ++ (file ++ codes "\n")))

-- what is told of a letter that is in its file
pub record TellsFile (folder name : List ℕ) (seconds id parts tag : ℕ) (text : List ℕ) : Type 0 where
  pub moment : List ℕ
  pub is_moment : IsMoment seconds moment
  pub is : text ≡ from_text name moment ++ place_text folder (file_name name id parts tag)
