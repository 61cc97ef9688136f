-- What is told of the letters that stand in a ledger.
use Rattle.std.specs.Prelude.{◌≡◌, ◌≢◌, ◌⊎◌, ℕ, List, [], ◌++◌, Option, Some, None, if◌then◌else◌, codes}
use Rattle.std.specs.Fmt.{decimal}
use Rattle.std.specs.List.{list_any}
use Rattle.std.specs.Prelude.{drop}
use denote.Bor.{Bor}
use Rattle.desk_entries.specs.declared.entry.Entry.{Entry}
use Rattle.desk_entries.specs.declared.entry.Held.{Held}
use Rattle.desk_entries.specs.declared.entry.Held.TheVariants as held
use Rattle.desk_entries.specs.declared.entry.Reading.{Reading}
use Rattle.desk_entries.specs.Desks.{name_of}
use Rattle.desk_entries.specs.Letters.{letters_of, written_of}
use Rattle.desk_run.specs.declared.ending.WordEnd.{WordEnd}
use Rattle.desk_run.specs.declared.ending.WordEnd.TheVariants.{Done, Met}
use Rattle.desk_run.specs.Printing.{met_line}
use Rattle.desk_run.specs.Shown.{Each, ShowsReading, is_met, new_letters}

-- ---- letters that are written to files

-- a letter's file, by its box's name, the serial of the request that read it, and the desk's tag
unfoldable pub file_name : List ℕ → ℕ → ℕ → List ℕ
file_name name serial tag = name ++ codes "-" ++ decimal serial ++ codes "-" ++ decimal tag ++ codes ".txt"

-- where it lies
unfoldable pub place_text : List ℕ → List ℕ → List ℕ
place_text folder file = codes ": " ++ folder ++ codes "/" ++ file ++ codes "\n"

unfoldable pub file_line : List ℕ → List ℕ → List ℕ → List ℕ → List ℕ
file_line folder name moment file =
    codes "letter from box " ++ name ++ codes ", read " ++ moment ++ place_text folder file

-- This is told of what a box held, once a letter is in its file.
abbrev pub TellsFile : (folder : List ℕ) → (tag : ℕ) → (name : List ℕ) → (serial : ℕ) → Held → List ℕ → Type 0
TellsFile folder tag name serial held.Nothing text = text ≡ []
TellsFile folder tag name serial held.Met text = text ≡ met_line name
TellsFile folder tag name serial (held.Letter id bytes) text =
    (moment : List ℕ) × (text ≡ file_line folder name moment (file_name name serial tag))

-- the same of what was read in a box of this name
abbrev pub TellsRead : (folder : List ℕ) → (tag : ℕ) → (name : List ℕ) → Reading → List ℕ → Type 0
TellsRead folder tag name r = TellsFile folder tag name r.serial r.held

abbrev pub TellsReading : (folder : List ℕ) → (tag : ℕ) → List Entry → Reading → List ℕ → Type 0
TellsReading folder tag entries r text = TellsFile folder tag (name_of entries r.registered) r.serial r.held text

-- These are told one behind another, each under the name of its box.
abbrev pub TellsFiles : (folder : List ℕ) → (tag : ℕ) → List Entry → List Reading → List ℕ → Type 0
TellsFiles folder tag entries = Each (TellsReading folder tag entries)

-- the letters that weren't written to files
abbrev pub unwritten_letters : List Entry → List Reading
unwritten_letters entries = drop (written_of entries) (letters_of entries)

abbrev pub TellsUnwritten : (folder : List ℕ) → (tag : ℕ) → List Entry → List ℕ → Type 0
TellsUnwritten folder tag entries = TellsFiles folder tag entries (unwritten_letters entries)

-- ---- letters, as a word is to tell them

-- those that weren't shown; with a folder those that weren't written
abbrev pub told_of : Option (Bor (List ℕ)) → List Entry → List Reading
told_of None entries = new_letters entries
told_of (Some folder) entries = unwritten_letters entries

abbrev pub TellsOne : Option (Bor (List ℕ)) → (tag : ℕ) → List Entry → Reading → List ℕ → Type 0
TellsOne None tag entries = ShowsReading entries
TellsOne (Some folder) tag entries = TellsReading folder.now tag entries

-- each of them once, in order
abbrev pub TellsEach : Option (Bor (List ℕ)) → (tag : ℕ) → List Entry → List ℕ → Type 0
TellsEach out tag entries text = Each (TellsOne out tag entries) (told_of out entries) text

-- the same, or that there are none
abbrev pub TellsLetters : Option (Bor (List ℕ)) → (tag : ℕ) → List Entry → List ℕ → Type 0
TellsLetters out tag entries text = ((told_of out entries ≡ []) × (text ≡ codes "no new letters\n"))
    ⊎ ((told_of out entries ≢ []) × TellsEach out tag entries text)

-- the word is done, and where letters met it says so
abbrev pub end_of : List Reading → WordEnd
end_of readings = if list_any is_met readings then Met else Done
