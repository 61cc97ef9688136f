-- What goes out on the net: a letter is worked off at its card's doors, the owner's ledger at its pair's, a
-- server is asked what it says of itself and of the desk's lane, and nothing else.
use Rattle.std.specs.Prelude.{◌≡◌, ◌⊎◌, ℕ, List, Option, Result}
use Rattle.express_words.specs.Calls.{Call}
use Rattle.express_words.specs.Seen.{Seen}
use Rattle.node_journal.specs.Disk.{DiskSeen}
use Rattle.frame_rules.specs.Frames.{PlainFrame}
use Rattle.door_exchange.specs.declared.exchanging.Broken.{Broken}
use Rattle.kept_machine.specs.Kept.{KeptState}
use Rattle.letter_copies.specs.declared.copies.LetterEnd.{LetterEnd}
use Rattle.kept_letter.specs.declared.machine.KeptLetter.{KeptLetter}
use Rattle.kept_letter.specs.declared.sending.Unsent.{Unsent}
use Rattle.kept_letter.specs.Sent.{SentBy}
use Rattle.kept_ledger.specs.declared.machine.KeptLedger.{KeptLedger}
use Rattle.kept_ledger.specs.declared.working.Unworked.{Unworked}
use Rattle.kept_ledger.specs.Worked.{LedgerWorked}
use Rattle.desk_sheets.specs.declared.sheet.OwnersServer.{OwnersServer}
use Rattle.owner_check.specs.declared.found.Found.{Found}
use Rattle.owner_check.specs.Answers.{Asks}
use Rattle.owner_check.specs.Questions.{helper_question, leader_question, width_question}
use Rattle.desk_around.specs.Chains.{GoesOnBy}

-- one of the questions that change nothing at a server
abbrev pub IsQuestion : PlainFrame → Type 0
IsQuestion q = ((lane : ℕ) × (q ≡ leader_question lane))
    ⊎ (((lane : ℕ) × (q ≡ helper_question lane)) ⊎ ((lane : ℕ) × (width : ℕ) × (q ≡ width_question lane width)))

pub data NetStep {D : Type 0} (shows : D → DiskSeen) (counts : D → Seen) (before now : Option (List Call))
    : Type 0 where
  letter : (old new : KeptState KeptLetter D) (result : Result LetterEnd Unsent)
      → SentBy shows counts old new result before now → NetStep shows counts before now
  ledger : (old new : KeptState KeptLedger D) (result : Result (Unit {0}) Unworked)
      → LedgerWorked shows counts old new result before now → NetStep shows counts before now
  question : (server : OwnersServer) (q : PlainFrame) (told : Result Found Broken) → IsQuestion q
      → Asks server q told before now → NetStep shows counts before now

-- behind whatever went out so before
abbrev pub SendsOn : {D : Type 0} → (D → DiskSeen) → (D → Seen) → (before now : Option (List Call)) → Type 0
SendsOn shows counts before now = GoesOnBy (NetStep shows counts) before now
