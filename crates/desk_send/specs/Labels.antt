-- By what a letter on its way is named in a line, and what such lines tell.
use Rattle.std.specs.Prelude.{ℕ, ◌+◌, ◌||◌, Bool, true, false, List, [], ◌++◌, codes}
use Rattle.std.specs.Fmt.{decimal}
use Rattle.desk_letters.specs.Naming.{first_words}
use Rattle.desk_outside.specs.declared.folder.Slot.{Slot}
use Rattle.desk_sheets.specs.Printing.{check_digits}
use Rattle.desk_steps.specs.declared.finding.Found.{Found}
use Rattle.desk_steps.specs.declared.finding.Found.TheVariants as found
use Rattle.kept_letter.specs.Letters.{LetterState}
use Rattle.letter_copies.specs.Copies.{may_be_written}

-- ---- a letter's name

unfoldable pub label_text : List ℕ → List ℕ → List ℕ
label_text words digits = codes "\"" ++ words ++ codes "\" (card " ++ digits ++ codes ")"

-- the first words of its text, and the digits at the end of its card
abbrev pub label_of : LetterState → List ℕ
label_of s = label_text (first_words s.text) (check_digits s.plan.card)

-- ---- as status tells it

-- the number of a place, as people count
abbrev pub number_of : Slot → ℕ
number_of slot = slot.number + 1

unfoldable pub waiting_line : ℕ → List ℕ → List ℕ
waiting_line number label = codes "letter " ++ decimal number ++ codes " on its way: " ++ label
    ++ codes "; run resume, or discard " ++ decimal number ++ codes "\n"

unfoldable pub unreadable_line : ℕ → List ℕ
unreadable_line number = codes "letter " ++ decimal number ++ codes " on its way can't be read; discard "
    ++ decimal number ++ codes " removes it\n"

abbrev pub waiting_text : {D : Type 0} → ℕ → Found D → List ℕ
waiting_text number found.Nothing = []
waiting_text number (found.Letter letter) = waiting_line number (label_of letter.machine.letter)
waiting_text number found.Unreadable = unreadable_line number

-- ---- given up

abbrev pub given_up_words : Bool → List ℕ
given_up_words true = codes "given up: it may have been written\n"
given_up_words false = codes "given up: it isn't written, and won't be\n"

unfoldable pub given_up_line : List ℕ → Bool → List ℕ
given_up_line label may_be = label ++ codes ": " ++ given_up_words may_be

-- of a letter whose folder was copied it isn't known what the other folder did
abbrev pub given_up_text : {D : Type 0} → (was_copied : Bool) → Found D → List ℕ
given_up_text was_copied found.Nothing = []
given_up_text was_copied (found.Letter letter) =
    given_up_line (label_of letter.machine.letter) (was_copied || may_be_written letter.machine.letter.copies)
given_up_text was_copied found.Unreadable = codes "a letter that can't be read: given up\n"
