-- What is told of a letter's end, and how a word ends then.
use Rattle.std.specs.Prelude.{◌≡◌, ◌⊎◌, Bool, true, false, ℕ, List, ◌++◌, Option, Ok, Err, codes}
use Rattle.express_words.specs.Calls.{Call}
use Rattle.express_words.specs.Seen.{Seen}
use Rattle.express_words.specs.Streams.{Took}
use Rattle.node_journal.specs.Disk.{DiskSeen}
use Rattle.desk_outside.specs.Calls.{Adds, FolderCall, Removed}
use Rattle.desk_outside.specs.declared.folder.DeskFile.TheVariants.{Outbox}
use Rattle.desk_outside.specs.declared.folder.Slot.{Slot}
use Rattle.kept_machine.specs.Kept.{KeptState}
use Rattle.letter_copies.specs.declared.copies.LetterEnd.{LetterEnd}
use Rattle.letter_copies.specs.declared.copies.LetterEnd.TheVariants.{Written, NotWritten, MaybeWritten}
use Rattle.kept_letter.specs.declared.machine.KeptLetter.{KeptLetter}
use Rattle.kept_letter.specs.declared.sending.Unsent.{Unsent}
use Rattle.kept_letter.specs.declared.sending.Unsent.TheVariants as unsent
use Rattle.kept_letter.specs.Sent.{SentBy}
use Rattle.desk_around.specs.Halts.{halted}
use Rattle.desk_around.specs.Scenes.{Scene}
use Rattle.desk_around.specs.declared.ending.WordEnd.{WordEnd}
use Rattle.desk_around.specs.declared.ending.WordEnd.TheVariants as word
use Rattle.desk_around.specs.declared.trouble.Trouble.{Trouble}
use Rattle.desk_around.specs.declared.trouble.Trouble.TheVariants as trouble
use Rattle.desk_steps.specs.Folder.{IsHere}
use Rattle.desk_send.specs.declared.placed.OnItsWay.{OnItsWay}
use Rattle.desk_send.specs.Labels.{label_of}

-- ---- worked off

-- it is worked off at its card's doors, and comes to this end
pub record ComesToEnd {D : Type 0} (shows : D → DiskSeen) (counts : D → Seen)
    (letter : KeptState KeptLetter D) (end : LetterEnd) (before now : Option (List Call)) : Type 0 where
  pub worked : KeptState KeptLetter D
  pub sent : SentBy shows counts letter worked (Ok end) before now

-- what is told where it doesn't come to its end: of one that has no whole text, or whose card names no
-- door, that it can't be read
abbrev pub unsent_trouble : Slot → Unsent → Trouble
unsent_trouble slot unsent.NoText = trouble.BadLetter slot
unsent_trouble slot (unsent.NoPlace server) = trouble.BadLetter slot
unsent_trouble slot unsent.NoMemory = trouble.NoMemory
unsent_trouble slot (unsent.Halted why) = halted why

-- it is worked off, and halts before its end
pub record HaltsBefore {D : Type 0} (shows : D → DiskSeen) (counts : D → Seen) (slot : Slot)
    (letter : KeptState KeptLetter D) (before now : Option (List Call)) (t : Trouble) : Type 0 where
  pub worked : KeptState KeptLetter D
  pub why : Unsent
  pub sent : SentBy shows counts letter worked (Err why) before now
  pub told : t ≡ unsent_trouble slot why

-- ---- told

abbrev pub end_text : LetterEnd → List ℕ
end_text Written = codes "written: the letter lies in the owner's boxes"
end_text NotWritten = codes "not written: the letter lies nowhere; send it again when you like"
end_text MaybeWritten =
    codes "it may have been written: that can't be found out; if you send the letter again, "
    ++ codes "the owner may have it twice"

-- whose letter it is, its name, and the end
unfoldable pub end_line : List ℕ → List ℕ → LetterEnd → List ℕ
end_line whose label end = whose ++ label ++ codes ": " ++ end_text end ++ codes "\n"

-- The letter is worked off and comes to this end. The end is printed, with the letter's name, and then the
-- file at its place is removed.
pub record EndsLetter {D : Type 0} (shows : D → DiskSeen) (counts : D → Seen) (whose : List ℕ)
    (sent : OnItsWay D) (end : LetterEnd) (old new : Scene D) : Type 0 where
  pub comes : ComesToEnd shows counts sent.letter end old.calls new.calls
  pub told : Took old.written new.written (end_line whose (label_of sent.letter.machine.letter) end)
  pub removed : Adds old.files new.files (Removed (Outbox sent.slot) false)

-- Where no end is told: nothing was asked on the net; or the letter was worked off and halted, and that is
-- told; or it came to its end, and that couldn't be told, or its file not be removed.
abbrev pub StaysOpen : {D : Type 0} → (D → DiskSeen) → (D → Seen) → OnItsWay D → Trouble → (old new : Scene D)
    → Type 0
StaysOpen shows counts sent t old new = (new.calls ≡ old.calls)
    ⊎ (HaltsBefore shows counts sent.slot sent.letter old.calls new.calls t
    ⊎ ((end : LetterEnd) × ComesToEnd shows counts sent.letter end old.calls new.calls))

-- the letter of which nothing could be told is in its place still
pub record IsStillHere {D : Type 0} (shows : D → DiskSeen)
    (files : Option (List (FolderCall D))) : Type 0 where
  pub slot : Slot
  pub letter : KeptState KeptLetter D
  pub here : IsHere shows slot letter files

-- where the output couldn't take its line
abbrev pub IfUntold : {D : Type 0} → (D → DiskSeen) → (files : Option (List (FolderCall D))) → Trouble
    → Type 0
IfUntold shows files t = t ≡ trouble.Out → IsStillHere shows files

-- the same, or nothing was done to the folder
abbrev pub IfUntoldSince : {D : Type 0} → (D → DiskSeen) → (old new : Option (List (FolderCall D)))
    → Trouble → Type 0
IfUntoldSince shows old new t = t ≡ trouble.Out → (new ≡ old) ⊎ IsStillHere shows new

-- ---- how the word ends

-- only where it is written the word is done
abbrev pub word_end : LetterEnd → WordEnd
word_end Written = word.Done
word_end NotWritten = word.NotWritten
word_end MaybeWritten = word.NotWritten

-- whether it is written
abbrev pub is_written : LetterEnd → Bool
is_written Written = true
is_written NotWritten = false
is_written MaybeWritten = false
