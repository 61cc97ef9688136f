-- What is told of a letter.
use Rattle.std.proofs.Common.{◌≡◌, ◌∙◌, ℕ, List, Option, ap, subst, sym}
use Rattle.express_words.specs.Streams.{Took}
use Rattle.node_journal.specs.Disk.{DiskSeen}
use Rattle.desk_outside.specs.Calls.{FolderCall}
use Rattle.desk_outside.specs.declared.folder.Slot.{Slot}
use Rattle.letter_copies.specs.declared.copies.LetterEnd.{LetterEnd}
use Rattle.kept_machine.specs.Kept.{KeptState}
use Rattle.kept_letter.specs.declared.machine.KeptLetter.{KeptLetter}
use Rattle.desk_around.specs.Ends.{IsCause}
use Rattle.desk_around.specs.declared.trouble.Trouble.{Trouble}
use Rattle.desk_steps.specs.Folder.{IsHere}
use Rattle.desk_send.specs.Ends.{IfUntold, IsStillHere, end_line}
use Rattle.desk_send.specs.Waiting.{IfUnsaid}

pub took_as : (old new : Option (List ℕ)) (a b : List ℕ) → a ≡ b → Took old new a → Took old new b
took_as old new a b is took = subst (λ (t : List ℕ). Took old new t) is took

-- the line has the letter's name, and is what is printed
pub told_as : (whose label words line shown : List ℕ) (end : LetterEnd) (old new : Option (List ℕ))
    → words ≡ label
    → line ≡ end_line whose words end → shown ≡ line → Took old new shown
    → Took old new (end_line whose label end)
told_as whose label words line shown end old new named lined is took =
    took_as old new shown (end_line whose label end)
    (is ∙ lined ∙ ap (λ (l : List ℕ). end_line whose l end) named) took

-- ---- where the output couldn't take it

pub cause_told : {D : Type 0} (shows : D → DiskSeen) (files : Option (List (FolderCall D))) (t : Trouble)
    → IsCause t → IfUntold shows files t
cause_told shows files t cause = λ is. absurd (cause.not_out is)

pub cause_said : {D : Type 0} (shows : D → DiskSeen) (files : Option (List (FolderCall D))) (t : Trouble)
    → IsCause t → IfUnsaid shows files t
cause_said shows files t cause = λ is. absurd (cause.not_out is)

pub still_here : {D : Type 0} (shows : D → DiskSeen) (slot : Slot) (letter : KeptState KeptLetter D)
    (old new : Option (List (FolderCall D))) → IsHere shows slot letter old → new ≡ old
    → IsStillHere shows new
still_here {D} shows slot letter old new here same = record {
  slot = slot;
  letter = letter;
  here = subst (λ (f : Option (List (FolderCall D))). IsHere shows slot letter f) (sym same) here;
}
