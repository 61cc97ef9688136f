-- What is told of a letter's end, and how the word ends then.
use Rattle.std.specs.Prelude.{ℕ, Bool, true, false, List, ◌++◌, Option, codes}
use Rattle.express_words.specs.Seen.{Seen}
use Rattle.express_words.specs.Streams.{Took}
use Rattle.node_journal.specs.Disk.{DiskSeen}
use Rattle.desk_outside.specs.Calls.{Adds, FolderCall, Removed}
use Rattle.desk_outside.specs.declared.folder.DeskFile.TheVariants.{Outbox}
use Rattle.desk_tries.specs.declared.sending.LetterEnd.{LetterEnd}
use Rattle.desk_tries.specs.declared.sending.LetterEnd.TheVariants.{Written, NotWritten, MaybeWritten}
use Rattle.desk_run.specs.declared.ending.WordEnd as ending
use Rattle.desk_run.specs.declared.ending.WordEnd.TheVariants as word
use Rattle.desk_run.specs.declared.finding.OnItsWay.{OnItsWay}
use Rattle.desk_run.specs.Labels.{Names}
use Rattle.desk_run.specs.Scenes.{Scene}
use Rattle.desk_run.specs.Tries.{ComesToEnd}

abbrev pub end_text : LetterEnd → List ℕ
end_text Written = codes "written: the letter lies in the owner's box"
end_text NotWritten = codes "not written: the letter lies nowhere; send it again when you like"
end_text MaybeWritten =
    codes "it may have been written: that can't be found out; if you send the letter again, the owner may have it "
    ++ codes "twice or, where both come to one box, not at all"

-- whose letter it is, its name, and the end
unfoldable pub end_line : List ℕ → List ℕ → LetterEnd → List ℕ
end_line whose label end = whose ++ label ++ codes ": " ++ end_text end ++ codes "\n"

-- One try after another of the letter is worked off, and its last one comes to this end. The end is printed, with the
-- letter's name, and then the file at its place is removed.
pub record EndsLetter {D : Type 0} (shows : D → DiskSeen) (counts : D → Seen) (whose : List ℕ)
    (letter : OnItsWay D) (end : LetterEnd) (old new : Scene D) : Type 0 where
  pub files : Option (List (FolderCall D))
  pub comes : ComesToEnd shows counts letter.slot letter.outbox end
      (record { calls = old.calls; files = old.files }) (record { calls = new.calls; files = files })
  pub label : List ℕ
  pub names : Names letter.outbox label
  pub told : Took old.written new.written (end_line whose label end)
  pub removed : Adds files new.files (Removed (Outbox letter.slot) false)

-- only where it is written the word is done
abbrev pub word_end : LetterEnd → ending.WordEnd
word_end Written = word.Done
word_end NotWritten = word.NotWritten
word_end MaybeWritten = word.NotWritten

-- whether it is written
abbrev pub is_written : LetterEnd → Bool
is_written Written = true
is_written NotWritten = false
is_written MaybeWritten = false

-- the same of all letters that were on their way
abbrev pub resume_end : (all_written : Bool) → ending.WordEnd
resume_end true = word.Done
resume_end false = word.NotWritten
