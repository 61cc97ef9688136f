-- How a word ends, and what that says of the faults around it.
use Rattle.std.specs.Prelude.{◌≡◌, ◌≢◌, ◌⊎◌, ℕ, Result, Ok, Err}
use Rattle.express_words.specs.declared.refusal.Refusal.{Refusal}
use Rattle.desk_around.specs.declared.ending.WordEnd.{WordEnd}
use Rattle.desk_around.specs.declared.ending.WordEnd.TheVariants.{Done, NotWritten, Met}
use Rattle.desk_around.specs.declared.trouble.Trouble.{Trouble}
use Rattle.desk_around.specs.declared.trouble.Trouble.TheVariants as trouble

-- the status of a word that ends by a trouble
abbrev pub status_by : Trouble → ℕ
status_by trouble.NoLetters = 2
status_by (trouble.NoLetterAt number) = 2
status_by trouble.WhichLetter = 2
status_by (trouble.Name fault) = 2
status_by (trouble.BadLine path line) = 3
status_by (trouble.Earlier path) = 3
status_by (trouble.NoPairFile path) = 3
status_by (trouble.OtherWidth path) = 3
status_by (trouble.Swapped path) = 3
status_by (trouble.NoCard path) = 3
status_by (trouble.NoLetter fault) = 3
status_by (trouble.Old day) = 3
status_by trouble.InUse = 4
status_by _ = 1

abbrev pub status_of : Result WordEnd Trouble → ℕ
status_of (Ok Done) = 0
status_of (Ok NotWritten) = 1
status_of (Ok Met) = 5
status_of (Err t) = status_by t

-- ---- troubles

-- it is told as a word that isn't done
abbrev pub IsUndone : Trouble → Type 0
IsUndone t = status_by t ≡ 1

-- the same, and it is neither a fault of the output nor a refusal
pub record IsCause (t : Trouble) : Type 0 where
  pub undone : status_by t ≡ 1
  pub not_out : t ≢ trouble.Out
  pub not_refused : (r : Refusal) → t ≢ trouble.Refused r

-- the word isn't done, or a card, a pair file or a letter isn't right
abbrev pub IsOfPaper : Trouble → Type 0
IsOfPaper t = (status_by t ≡ 1) ⊎ (status_by t ≡ 3)

-- the word isn't done, or the name isn't taken, or no letter is of the number
abbrev pub IsOfName : Trouble → Type 0
IsOfName t = (status_by t ≡ 1) ⊎ (status_by t ≡ 2)

-- ---- faults

-- From old to new a count of faults rose only where the word ends as one that isn't done.
abbrev pub Unfailed : {T : Type 0} → ℕ → ℕ → Result T Trouble → Type 0
Unfailed old new (Ok x) = new ≡ old
Unfailed old new (Err t) = status_by t ≢ 1 → new ≡ old
