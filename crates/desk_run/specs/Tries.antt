-- What becomes of a letter, try by try.
use Rattle.std.specs.Prelude.{◌≡◌, ◌⊎◌, ℕ, false, List, Option, Ok}
use Rattle.express_words.specs.Calls.{Call}
use Rattle.express_words.specs.Seen.{Seen}
use Rattle.node_journal.specs.Disk.{DiskSeen}
use Rattle.rand_core.specs.Stream.{Stream}
use Rattle.desk_texts.specs.declared.sheet.CardHead.{CardHead}
use Rattle.desk_texts.specs.declared.sheet.Head.TheVariants.{Card}
use Rattle.desk_texts.specs.declared.sheet.Sheet.{Sheet}
use Rattle.desk_tries.specs.declared.sending.LetterEnd.{LetterEnd}
use Rattle.desk_tries.specs.declared.sending.Next.{Next}
use Rattle.desk_tries.specs.declared.sending.Next.TheVariants.{NewTry, NextAddress, Stop}
use Rattle.desk_letters.specs.Letters.{Spells}
use Rattle.desk_outbox.specs.Outboxes.{OutboxState, message_in}
use Rattle.desk_outbox.specs.Trying.{Retries, Starts}
use Rattle.desk_outbox.specs.Works.{Works}
use Rattle.desk_outside.specs.Calls.{Adds, FolderCall, Placed}
use Rattle.desk_outside.specs.declared.folder.DeskFile.TheVariants.{NextOutbox, Outbox}
use Rattle.desk_outside.specs.declared.folder.Slot.{Slot}
use Rattle.desk_run.specs.Changes.{MakesFile}

-- ---- a letter

-- the bytes spell this text
abbrev pub HasLetter : (text bytes : List ℕ) → Type 0
HasLetter text bytes = (id : ℕ) × Spells id text bytes

-- it is on its way already: the try's bytes spell this text, and the card is the same
pub record Carries {D : Type 0} (card : Sheet) (text : List ℕ) (o : OutboxState D) : Type 0 where
  pub same_card : o.card ≡ card
  pub letter : HasLetter text (message_in o.kept.core.client.current)

-- or it is begun, at an address of the card that is drawn
pub record IsFirstTry {D : Type 0} (shows : D → DiskSeen) (card : Sheet) (text : List ℕ) (o : OutboxState D)
    : Type 0 where
  pub head : CardHead
  pub is_card : card.head ≡ Card head
  pub draws : Stream
  pub starts : Starts shows card head text draws o

-- ---- its file

-- A file is made anew for a try, and is put in the place of the letter.
pub record PutsTry {D : Type 0} (slot : Slot) (old new : Option (List (FolderCall D))) : Type 0 where
  pub disk : D
  pub made : Option (List (FolderCall D))
  pub makes : MakesFile (NextOutbox slot) disk old made
  pub placed : Adds made new (Placed (NextOutbox slot) (Outbox slot) false)

-- ---- its tries

-- the next try of the same letter, under a seed that is drawn
pub record TriesAgain {D : Type 0} (shows : D → DiskSeen) (old new : OutboxState D) : Type 0 where
  pub head : CardHead
  pub is_card : old.card.head ≡ Card head
  pub draws : Stream
  pub retries : Retries shows head old draws new

-- the calls on the net, and those on the folder
pub record Journey (D : Type 0) : Type 0 where
  pub calls : Option (List Call)
  pub files : Option (List (FolderCall D))

abbrev pub journey : {D N F : Type 0} → (N → Seen) → (F → Option (List (FolderCall D))) → N → F → Journey D
journey nets files net folder = record { calls = (nets net).calls; files = files folder }

-- One try after another is worked off at the card's servers, each after one that is to be followed; its file is in the
-- letter's place before anything of it goes out.
pub data Tries {D : Type 0} (shows : D → DiskSeen) (counts : D → Seen) (slot : Slot) (start : OutboxState D)
    (old : Journey D) : OutboxState D → Journey D → Type 0 where
  first : Tries shows counts slot start old start old
  next : (o worked new : OutboxState D) (n : Next) (mid : Journey D) (calls : Option (List Call))
      (files : Option (List (FolderCall D))) → Tries shows counts slot start old o mid
      → Works shows counts o worked (Ok n) mid.calls calls → (n ≡ NewTry) ⊎ (n ≡ NextAddress)
      → TriesAgain shows worked new → PutsTry slot mid.files files
      → Tries shows counts slot start old new (record { calls = calls; files = files })

-- the last of them has come to this end
pub record ComesToEnd {D : Type 0} (shows : D → DiskSeen) (counts : D → Seen) (slot : Slot)
    (start : OutboxState D) (e : LetterEnd) (old new : Journey D) : Type 0 where
  pub last : OutboxState D
  pub worked : OutboxState D
  pub mid : Option (List Call)
  pub tries : Tries shows counts slot start old last (record { calls = mid; files = new.files })
  pub works : Works shows counts last worked (Ok (Stop e)) mid new.calls
