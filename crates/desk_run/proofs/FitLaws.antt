-- What a pair's servers are asked of themselves goes out as a question.
use Rattle.std.proofs.Common.{arith, ℕ, List, Option, Result, inl, inr, refl}
use Rattle.express_words.specs.Calls.{Call}
use Rattle.express_words.specs.Limits.{IsWidth}
use Rattle.express_words.specs.Seen.{Seen}
use Rattle.desk_texts.specs.Spelling.{HasRoom}
use Rattle.node_exchange.specs.declared.exchanging.Broken.{Broken}
use Rattle.node_journal.specs.Disk.{DiskSeen}
use Rattle.pair_check.specs.Answers.{Asks}
use Rattle.pair_check.specs.Questions.{helper_question, leader_question}
use Rattle.pair_check.specs.declared.found.Found.{Found}
use Rattle.desk_run.specs.Sends.{Sends}
use Rattle.desk_run.proofs.SendLaws.{on_question}

pub is_width : (width : ℕ) → HasRoom width → IsWidth width
is_width width room = (omega (arith, room.least), room.most, room.sixteens)

pub leader_on : {D : Type 0} (shows : D → DiskSeen) (counts : D → Seen) (place : List ℕ) (width : ℕ) (r : Result Found Broken)
    (a b : Option (List Call)) → Asks place (leader_question width) r a b → (start : Option (List Call))
    → Sends shows counts start a → Sends shows counts start b
leader_on shows counts place width r a b w = on_question shows counts place (leader_question width) r a b (inl (width, refl)) w

pub helper_on : {D : Type 0} (shows : D → DiskSeen) (counts : D → Seen) (place : List ℕ) (r : Result Found Broken)
    (a b : Option (List Call)) → Asks place helper_question r a b → (start : Option (List Call))
    → Sends shows counts start a → Sends shows counts start b
helper_on shows counts place r a b w = on_question shows counts place helper_question r a b (inr refl) w
