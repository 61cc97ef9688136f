-- What goes out, one part after another.
use Rattle.std.proofs.Common.{◌≡◌, ◌≢◌, ℕ, List, Option, Some, None, Result, refl, sym, subst}
use Rattle.express_words.specs.Calls.{Call}
use Rattle.express_words.specs.Seen.{Seen}
use Rattle.client_restart.specs.Steps.{CoreState}
use Rattle.node_journal.specs.Disk.{DiskSeen}
use Rattle.step_rules.specs.Client.{Current}
use Rattle.kept_errands.specs.declared.halt.Halt.{Halt}
use Rattle.desk_ledger.specs.declared.pair.Pair.{Pair}
use Rattle.desk_ledger.specs.Works.{WorksAt}
use Rattle.desk_outbox.specs.Outboxes.{OutboxState}
use Rattle.desk_outbox.specs.Works.{Works}
use Rattle.desk_tries.specs.declared.sending.Next.{Next}
use Rattle.frame_rules.specs.Frames.{PlainFrame}
use Rattle.node_exchange.specs.declared.exchanging.Broken.{Broken}
use Rattle.pair_check.specs.Answers.{Asks}
use Rattle.pair_check.specs.Questions.{IsQuestion}
use Rattle.pair_check.specs.declared.found.Found.{Found}
use Rattle.desk_run.specs.Sends.{Sends, nothing, question, request, letter}

pub sends_more : {D : Type 0} (shows : D → DiskSeen) (counts : D → Seen) (a b c : Option (List Call))
    → Sends shows counts a b → Sends shows counts b c → Sends shows counts a c
sends_more shows counts a b c s nothing = s
sends_more shows counts a b c s (request pair old new r mid now t w) = request pair old new r mid now (sends_more shows counts a b mid s t) w
sends_more shows counts a b c s (letter old new r mid now t w) = letter old new r mid now (sends_more shows counts a b mid s t) w
sends_more shows counts a b c s (question place q r mid now t is w) = question place q r mid now (sends_more shows counts a b mid s t) is w

pub sends_same : {D : Type 0} (shows : D → DiskSeen) (counts : D → Seen) (a b : Option (List Call)) → b ≡ a → Sends shows counts a b
sends_same shows counts a b e = subst (Sends shows counts a) (sym e) nothing

pub sends_letter : {D : Type 0} (shows : D → DiskSeen) (counts : D → Seen) (old new : OutboxState D) (r : Result Next Halt) (a b : Option (List Call))
    → Works shows counts old new r a b → Sends shows counts a b
sends_letter shows counts old new r a b w = letter old new r a b nothing w

busy : {D : Type 0} (shows : D → DiskSeen) (counts : D → Seen) (pair : Pair) (old new : CoreState) (r : Result Unit Halt) (a b : Option (List Call)) (now : Option Current)
    → (now ≡ None → b ≡ a) → (now ≢ None → WorksAt pair old new r a b) → Sends shows counts a b
busy shows counts pair old new r a b None idle works = sends_same shows counts a b (idle refl)
busy shows counts pair old new r a b (Some x) idle works = request pair old new r a b nothing (works (λ e. absurd (cc e)))

pub sends_request : {D : Type 0} (shows : D → DiskSeen) (counts : D → Seen) (pair : Pair) (old new : CoreState) (r : Result Unit Halt) (a b : Option (List Call))
    → (old.client.current ≡ None → b ≡ a) → (old.client.current ≢ None → WorksAt pair old new r a b) → Sends shows counts a b
sends_request shows counts pair old new r a b idle works = busy shows counts pair old new r a b old.client.current idle works

pub on_letter : {D : Type 0} (shows : D → DiskSeen) (counts : D → Seen) (old new : OutboxState D) (r : Result Next Halt) (a b : Option (List Call))
    → Works shows counts old new r a b → (start : Option (List Call)) → Sends shows counts start a → Sends shows counts start b
on_letter shows counts old new r a b w start s = letter old new r a b s w

pub on_request : {D : Type 0} (shows : D → DiskSeen) (counts : D → Seen) (pair : Pair) (old new : CoreState) (r : Result Unit Halt) (a b : Option (List Call))
    → (old.client.current ≡ None → b ≡ a) → (old.client.current ≢ None → WorksAt pair old new r a b)
    → (start : Option (List Call)) → Sends shows counts start a → Sends shows counts start b
on_request shows counts pair old new r a b idle works start s = sends_more shows counts start a b s (sends_request shows counts pair old new r a b idle works)

pub on_question : {D : Type 0} (shows : D → DiskSeen) (counts : D → Seen) (place : List ℕ) (q : PlainFrame) (r : Result Found Broken)
    (a b : Option (List Call)) → IsQuestion q → Asks place q r a b → (start : Option (List Call)) → Sends shows counts start a
    → Sends shows counts start b
on_question shows counts place q r a b is w start s = question place q r a b s is w

pub sends_all : {D : Type 0} (shows : D → DiskSeen) (counts : D → Seen) (a b : Option (List Call))
    → ((start : Option (List Call)) → Sends shows counts start a → Sends shows counts start b) → Sends shows counts a b
sends_all shows counts a b on = on a nothing
