-- By what a letter on its way is named in a line, and what such lines tell.
use Rattle.std.specs.Prelude.{◌≡◌, ℕ, ◌+◌, ◌||◌, Bool, true, false, List, [], ◌++◌, codes}
use Rattle.std.specs.Fmt.{decimal}
use Rattle.desk_letters.specs.Naming.{first_words}
use Rattle.desk_letters.specs.Opening.{Content, Empty, Letter, Met, Opens}
use Rattle.desk_outbox.specs.Outboxes.{OutboxState, message_in}
use Rattle.desk_outbox.specs.Works.{may_be_written}
use Rattle.desk_outside.specs.declared.folder.Slot.{Slot}
use Rattle.desk_texts.specs.Printing.{check_digits}
use Rattle.desk_run.specs.declared.finding.Found.{Found}
use Rattle.desk_run.specs.declared.finding.Found.TheVariants as found

-- ---- a letter's name

-- the text of a letter; where the bytes are none, the bytes
abbrev pub text_by : Content → List ℕ → List ℕ
text_by Empty bytes = bytes
text_by (Letter id text) bytes = text
text_by Met bytes = bytes

pub record HasText (bytes text : List ℕ) : Type 0 where
  pub content : Content
  pub opens : Opens content bytes
  pub is : text ≡ text_by content bytes

unfoldable pub label_text : List ℕ → List ℕ → List ℕ
label_text words digits = codes "\"" ++ words ++ codes "\" (card " ++ digits ++ codes ")"

-- the first words of the letter's text, and the digits at the end of its card
pub record Names {D : Type 0} (o : OutboxState D) (label : List ℕ) : Type 0 where
  pub text : List ℕ
  pub has_text : HasText (message_in o.kept.core.client.current) text
  pub is : label ≡ label_text (first_words text) (check_digits o.card)

-- ---- as status tells it

-- the number of a place, as people count
abbrev pub number_of : Slot → ℕ
number_of slot = slot.number + 1

unfoldable pub waiting_line : ℕ → List ℕ → List ℕ
waiting_line number label = codes "letter " ++ decimal number ++ codes " on its way: " ++ label
    ++ codes "; run resume, or discard " ++ decimal number ++ codes "\n"

unfoldable pub unreadable_line : ℕ → List ℕ
unreadable_line number = codes "letter " ++ decimal number ++ codes " on its way can't be read; discard "
    ++ decimal number ++ codes " removes it\n"

abbrev pub TellsWaiting : {D : Type 0} → ℕ → Found D → List ℕ → Type 0
TellsWaiting number found.Nothing line = line ≡ []
TellsWaiting number (found.Letter o) line = (label : List ℕ) × Names o label × (line ≡ waiting_line number label)
TellsWaiting number found.Unreadable line = line ≡ unreadable_line number

-- ---- given up

abbrev pub given_up_words : Bool → List ℕ
given_up_words true = codes "given up: it may have been written\n"
given_up_words false = codes "given up: it isn't written, and won't be\n"

unfoldable pub given_up_line : List ℕ → Bool → List ℕ
given_up_line label may_be = label ++ codes ": " ++ given_up_words may_be

-- of a letter whose folder was copied it isn't known what the other folder did
abbrev pub TellsGivenUp : {D : Type 0} → (was_copied : Bool) → Found D → List ℕ → Type 0
TellsGivenUp was_copied found.Nothing line = line ≡ []
TellsGivenUp was_copied (found.Letter o) line =
    (label : List ℕ) × Names o label × (line ≡ given_up_line label (was_copied || may_be_written o))
TellsGivenUp was_copied found.Unreadable line = line ≡ codes "a letter that can't be read: given up\n"
