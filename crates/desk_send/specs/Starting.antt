-- How a letter is made, and gets on its way.
use Rattle.std.specs.Prelude.{◌≡◌, ℕ, false, List, Option}
use Rattle.express_words.specs.Seen.{Seen}
use Rattle.rand_core.specs.Stream.{Stream}
use Rattle.node_journal.specs.Disk.{DiskSeen}
use Rattle.kept_machine.specs.Keeps.{IsDurable, sight}
use Rattle.desk_outside.specs.Calls.{Adds, FolderCall, Placed}
use Rattle.desk_outside.specs.declared.folder.DeskFile.TheVariants.{NextOutbox, Outbox}
use Rattle.desk_outside.specs.declared.folder.Slot.{Slot}
use Rattle.desk_sheets.specs.declared.sheet.Card.{Card}
use Rattle.kept_letter.specs.Letters.{LetterState}
use Rattle.kept_letter.specs.Machines.{letter_rules}
use Rattle.desk_steps.specs.Files.{MakesFile}
use Rattle.desk_send.specs.declared.placed.OnItsWay.{OnItsWay}
use Rattle.desk_send.specs.Letters.{new_letter}
use Rattle.desk_send.specs.Searching.{IsFirstFree}

-- ---- at a place

-- A file is made anew, this letter is written whole into it, and it is put in this place.
pub record StartsAt {D : Type 0} (shows : D → DiskSeen) (counts : D → Seen) (letter : LetterState)
    (slot : Slot)
    (old new : Option (List (FolderCall D))) (sent : OnItsWay D) : Type 0 where
  pub at_slot : sent.slot ≡ slot
  pub is : sent.letter.machine.letter ≡ letter
  pub durable : IsDurable letter_rules (sight shows counts sent.letter)
  pub disk : D
  pub made : Option (List (FolderCall D))
  pub makes : MakesFile (NextOutbox slot) disk old made
  pub placed : Adds made new (Placed (NextOutbox slot) (Outbox slot) false)

-- That is the first free one, and the letter is made of this card, this text and these draws.
pub record StartsFree {D : Type 0} (shows : D → DiskSeen) (counts : D → Seen) (card : Card) (text : List ℕ)
    (draws : Stream) (old new : Option (List (FolderCall D))) (sent : OnItsWay D) : Type 0 where
  pub slot : Slot
  pub found : Option (List (FolderCall D))
  pub free : IsFirstFree shows old found slot
  pub starts : StartsAt shows counts (new_letter card text draws) slot found new sent
