-- What goes out on the net: the steps of the desk's requests and of a letter's tries, what a pair's servers are asked of
-- themselves, and nothing else.
use Rattle.std.specs.Prelude.{ℕ, List, Option, Result}
use Rattle.express_words.specs.Calls.{Call}
use Rattle.express_words.specs.Seen.{Seen}
use Rattle.client_restart.specs.Steps.{CoreState}
use Rattle.node_journal.specs.Disk.{DiskSeen}
use Rattle.kept_errands.specs.declared.halt.Halt.{Halt}
use Rattle.desk_ledger.specs.declared.pair.Pair.{Pair}
use Rattle.desk_ledger.specs.Works.{WorksAt}
use Rattle.desk_outbox.specs.Outboxes.{OutboxState}
use Rattle.desk_outbox.specs.Works.{Works}
use Rattle.desk_tries.specs.declared.sending.Next.{Next}
use Rattle.node_exchange.specs.declared.exchanging.Broken.{Broken}
use Rattle.pair_check.specs.declared.found.Found.{Found}
use Rattle.pair_check.specs.Answers.{Asks}
use Rattle.pair_check.specs.Questions.{IsQuestion}
use Rattle.frame_rules.specs.Frames.{PlainFrame}

-- One request of a client that remembers after another, each at the servers of a pair or, for a try of a
-- letter, of its card; and questions, of which the server at a place says what it is, and which change no box,
-- lane or serial there.
pub data Sends {D : Type 0} (shows : D → DiskSeen) (counts : D → Seen) (before : Option (List Call))
    : Option (List Call) → Type 0 where
  nothing : Sends shows counts before before
  request : (pair : Pair) (old new : CoreState) (r : Result Unit Halt) (mid now : Option (List Call))
      → Sends shows counts before mid → WorksAt pair old new r mid now → Sends shows counts before now
  letter : (old new : OutboxState D) (r : Result Next Halt) (mid now : Option (List Call))
      → Sends shows counts before mid → Works shows counts old new r mid now → Sends shows counts before now
  question : (place : List ℕ) (q : PlainFrame) (r : Result Found Broken) (mid now : Option (List Call))
      → Sends shows counts before mid → IsQuestion q → Asks place q r mid now → Sends shows counts before now

-- The same behind whatever was sent so before.
abbrev pub SendsOn : {D : Type 0} → (D → DiskSeen) → (D → Seen) → (before now : Option (List Call)) → Type 0
SendsOn shows counts before now =
    (start : Option (List Call)) → Sends shows counts start before → Sends shows counts start now
