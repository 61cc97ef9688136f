-- A letter that is worked off at its card's doors.
use Rattle.std.specs.Prelude.{◌≡◌, ◌++◌, ℕ, true, false, List, [], ◌∷◌, Option, Some, Result, Ok, Err, codes}
use Rattle.express_words.specs.Calls.{Call}
use Rattle.express_words.specs.Seen.{Seen}
use Rattle.express_words.specs.declared.role.Role.{Role}
use Rattle.http_door.specs.Values.{is_value}
use Rattle.kept_machine.specs.Kept.{KeptState}
use Rattle.node_journal.specs.Disk.{DiskSeen}
use Rattle.door_work.specs.Steps.{place_of, wanted}
use Rattle.door_work.specs.Texts.{halt_text, role_text}
use Rattle.door_work.specs.Works.{KeptStep, WorkedOff}
use Rattle.door_work.specs.declared.halt.Halt.{Halt}
use Rattle.door_work.specs.declared.places.Places.{Places}
use Rattle.letter_copies.specs.declared.copies.LetterEnd.{LetterEnd}
use Rattle.letter_copies.specs.Copies.{end_of}
use Rattle.kept_letter.specs.declared.machine.KeptLetter.{KeptLetter}
use Rattle.kept_letter.specs.declared.sending.Unsent.{Unsent}
use Rattle.kept_letter.specs.declared.sending.Unsent.TheVariants as unsent
use Rattle.kept_letter.specs.Asking.{letter_asking, letter_wants}
use Rattle.kept_letter.specs.Letters.{LetterState, is_text_whole, letter_after}
use Rattle.kept_letter.specs.Machines.{letter_rules}
use Rattle.kept_letter.specs.Notes.{Opening, Noted}
use Rattle.kept_letter.specs.declared.plan.Plan.{Plan}

-- the doors are those that the card names
pub record AreItsPlaces (plan : Plan) (places : Places) : Type 0 where
  pub leader : places.leader ≡ plan.card.leader
  pub helper : places.helper ≡ plan.card.helper

-- ---- whose requests go out

-- each of these steps is what some notes of a letter with this opening leave it to do
abbrev pub AreOfLetter : Opening → List KeptStep → Type 0
AreOfLetter o [] = Unit {0}
AreOfLetter o (made ∷ others) =
    ((notes : List Noted) × (letter_wants (letter_after o notes) ≡ wanted made.step)) × AreOfLetter o others

-- All steps are those of one letter, and so is the last one, which halted or had nothing left to do.
pub record IsOneLetter (made : List KeptStep) (last : LetterState) : Type 0 where
  pub opening : Opening
  pub steps : AreOfLetter opening made
  pub notes : List Noted
  pub came_to : last ≡ letter_after opening notes

-- It was worked off at the doors that its card names, and what was asked there is what the letter had to ask.
pub record WorkedThere {D : Type 0} (shows : D → DiskSeen) (counts : D → Seen)
    (old new : KeptState KeptLetter D) (result : Result (Unit {0}) Halt) (before now : Option (List Call))
    : Type 0 where
  pub places : Places
  pub are : AreItsPlaces old.machine.letter.plan places
  pub works : WorkedOff letter_rules letter_asking places shows counts old new result before now
  pub own : old.journal.closed ≡ false → IsOneLetter works.made works.last.machine.letter

-- ---- what came of it

abbrev pub card_place : Plan → Role → List ℕ
card_place plan server = place_of (record { leader = plan.card.leader; helper = plan.card.helper }) server

-- The letter came to this end, or it has no whole text; or the work halted; or the card names no door, or no
-- memory was found, and nothing was done.
abbrev pub SentBy : {D : Type 0} → (D → DiskSeen) → (D → Seen) → (old new : KeptState KeptLetter D)
    → Result LetterEnd Unsent → (before now : Option (List Call)) → Type 0
SentBy shows counts old new (Ok end) before now =
    WorkedThere shows counts old new (Ok tt) before now
    × (is_text_whole new.machine.letter ≡ true) × (end_of new.machine.letter.copies ≡ Some end)
SentBy shows counts old new (Err unsent.NoText) before now =
    WorkedThere shows counts old new (Ok tt) before now × (is_text_whole new.machine.letter ≡ false)
SentBy shows counts old new (Err (unsent.Halted why)) before now =
    WorkedThere shows counts old new (Err why) before now
SentBy shows counts old new (Err (unsent.NoPlace server)) before now =
    (is_value (card_place old.machine.letter.plan server) ≡ false) × (new ≡ old) × (now ≡ before)
SentBy shows counts old new (Err unsent.NoMemory) before now = (new ≡ old) × (now ≡ before)

-- the halt of the work, where that halted
abbrev pub work_of : Result LetterEnd Unsent → Result (Unit {0}) Halt
work_of (Ok end) = Ok tt
work_of (Err (unsent.Halted why)) = Err why
work_of (Err unsent.NoText) = Ok tt
work_of (Err (unsent.NoPlace server)) = Ok tt
work_of (Err unsent.NoMemory) = Ok tt

-- where a letter that rests stands: at its end, or without a whole text
abbrev pub EndsSo : LetterState → Result LetterEnd Unsent → Type 0
EndsSo s (Ok end) = (is_text_whole s ≡ true) × (end_of s.copies ≡ Some end)
EndsSo s (Err unsent.NoText) = is_text_whole s ≡ false
EndsSo s (Err other) = ⊥

-- ---- texts

abbrev pub unsent_text : Unsent → List ℕ
unsent_text unsent.NoText = codes "the letter's text isn't whole"
unsent_text (unsent.NoPlace server) =
    codes "the card's place of " ++ (role_text server ++ codes " is no door's")
unsent_text unsent.NoMemory = codes "out of memory"
unsent_text (unsent.Halted why) = halt_text why
