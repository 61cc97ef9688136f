-- What is told of a letter.
use Rattle.std.proofs.Common.{◌≡◌, ◌∙◌, ℕ, false, List, Option, ap, subst}
use Rattle.express_words.specs.Seen.{Seen}
use Rattle.express_words.specs.Streams.{Took}
use Rattle.node_journal.specs.Disk.{DiskSeen}
use Rattle.desk_outside.specs.Calls.{Adds, FolderCall, Removed}
use Rattle.desk_outside.specs.declared.folder.DeskFile.TheVariants.{Outbox}
use Rattle.desk_tries.specs.declared.sending.LetterEnd.{LetterEnd}
use Rattle.desk_run.specs.declared.finding.OnItsWay.{OnItsWay}
use Rattle.desk_run.specs.Labels.{Names}
use Rattle.desk_run.specs.LetterEnds.{EndsLetter, end_line}
use Rattle.desk_run.specs.Scenes.{Scene}
use Rattle.desk_run.specs.Tries.{ComesToEnd}

pub took_as : (old new : Option (List ℕ)) (a b : List ℕ) → a ≡ b → Took old new a → Took old new b
took_as old new a b is took = subst (λ (t : List ℕ). Took old new t) is took

-- the line has the letter's name, and is what is printed
pub ends_letter : {D : Type 0} (shows : D → DiskSeen) (counts : D → Seen) (whose : List ℕ) (letter : OnItsWay D) (end : LetterEnd)
    (old new : Scene D) (files : Option (List (FolderCall D))) (label words line shown : List ℕ)
    → ComesToEnd shows counts letter.slot letter.outbox end (record { calls = old.calls; files = old.files })
    (record { calls = new.calls; files = files })
    → Names letter.outbox label → words ≡ label → line ≡ end_line whose words end → shown ≡ line
    → Took old.written new.written shown → Adds files new.files (Removed (Outbox letter.slot) false)
    → EndsLetter shows counts whose letter end old new
ends_letter shows counts whose letter end old new files label words line shown comes names named lined is took removed = record {
  files = files;
  comes = comes;
  label = label;
  names = names;
  told = took_as old.written new.written shown (end_line whose label end) (is ∙ lined ∙ ap (λ (l : List ℕ). end_line whose l end) named) took;
  removed = removed;
}
