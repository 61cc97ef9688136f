-- What goes out of a letter, one part after another.
use Rattle.std.proofs.Common.{◌≡◌, ℕ, List, Option, Result, subst, sym}
use Rattle.express_words.specs.Calls.{Call}
use Rattle.express_words.specs.Seen.{Seen}
use Rattle.node_journal.specs.Disk.{DiskSeen}
use Rattle.kept_machine.specs.Kept.{KeptState}
use Rattle.letter_copies.specs.declared.copies.LetterEnd.{LetterEnd}
use Rattle.kept_letter.specs.declared.machine.KeptLetter.{KeptLetter}
use Rattle.kept_letter.specs.declared.sending.Unsent.{Unsent}
use Rattle.kept_letter.specs.Sent.{SentBy}
use Rattle.desk_around.specs.Chains.{Chain, goes}
use Rattle.desk_steps.specs.Net.{NetStep, letter}
use Rattle.express_words.specs.Streams.{Stream}
use Rattle.desk_send.specs.Cards.{ReadsText}

pub on_letter : {D : Type 0} (shows : D → DiskSeen) (counts : D → Seen) (old new : KeptState KeptLetter D)
    (result : Result LetterEnd Unsent) (a b : Option (List Call)) → SentBy shows counts old new result a b
    → (start : Option (List Call)) → Chain (NetStep shows counts) start a
    → Chain (NetStep shows counts) start b
on_letter shows counts old new result a b sent start s = goes a b s (letter old new result sent)

-- ---- the text that was read is the one that is left

pub read_as : {Q A S : Type 0} (papers : Q → Seen) (inputs : S → Seen) (file : Option A)
    (from : Option Stream)
    (mid new : S) (text shown : List ℕ) → new ≡ mid → shown ≡ text
    → ReadsText papers file from (inputs mid).content text
    → ReadsText papers file from (inputs new).content shown
read_as {Q} {A} {S} papers inputs file from mid new text shown same is read =
    subst (λ (i : S). ReadsText papers file from (inputs i).content shown) (sym same)
    (subst (λ (t : List ℕ). ReadsText papers file from (inputs mid).content t) (sym is) read)
