-- What holds at the end of every schedule of clients.
use Rattle.std.proofs.Common.{refl}
use Rattle.run_rules.specs.Follows.{Follows}
use Rattle.run_rules.specs.History.{AtEnd, frame_run, history, no_lane, token_run}
use Rattle.run_rules.specs.Book.{Book}
use Rattle.run_rules.specs.EveryEnd.{HistoryIsSo}
use Rattle.run_rules.specs.Plain.{BoxesArePlain, HistoryIsClients, IsClients, IsHistory, JournalInOrder, JournalIsPlain, OutcomesArePlain, SharesAreFolds}
use Rattle.run_rules.proofs.WholeLaw.{run_follows, sound, whole, within}
use Rattle.run_rules.proofs.WholeTokens.{comes_follow, sends_follow}
use Rattle.run_rules.proofs.PlainEnds.{boxes_are_plain, clients, journal_is_plain, outcomes_are_plain, shares_are_folds}

pub follows_at_end : AtEnd Follows
follows_at_end o settings seed events limits fit few =
    let b = history settings seed (token_run o settings no_lane events) in
    let v = token_run o settings no_lane events in
    run_follows o settings seed events limits fit few (comes_follow b (λ c. refl)) (λ f w c k h. sends_follow b (λ c. refl) f v w c k h)

pub clients_at_end : AtEnd HistoryIsClients
clients_at_end o settings seed events limits fit few =
    let v = token_run o settings no_lane events in
    clients (history settings seed v) v (whole o settings seed events limits fit few) (sound o settings seed events limits fit few) (λ c. refl)

-- no entry is a foreign lane's
clients_are_history : (b : Book) → IsClients b → IsHistory b
clients_are_history b k = record {
  sound = k.sound;
  asked = λ c s r is. k.lanes c;
  answers = λ i e is honest. k.answers i e is;
  strange = λ i e is foreign. absurd (cc (foreign, k.lanes e.line.lane));
}

history_at_end : AtEnd HistoryIsSo
history_at_end o settings seed events limits fit few =
    clients_are_history (history settings seed (token_run o settings no_lane events)) (clients_at_end o settings seed events limits fit few)

pub outcomes_at_end : AtEnd OutcomesArePlain
outcomes_at_end o settings seed events limits fit few =
    let v = token_run o settings no_lane events in
    outcomes_are_plain (history settings seed v) v (whole o settings seed events limits fit few) (history_at_end o settings seed events limits fit few)
    (within o settings seed events limits fit few) (frame_run settings seed events) (follows_at_end o settings seed events limits fit few)

pub journal_at_end : AtEnd JournalIsPlain
journal_at_end o settings seed events limits fit few =
    let v = token_run o settings no_lane events in
    journal_is_plain (history settings seed v) v (whole o settings seed events limits fit few) (frame_run settings seed events)
    (history_at_end o settings seed events limits fit few) (λ c. refl) (follows_at_end o settings seed events limits fit few)

pub shares_at_end : AtEnd SharesAreFolds
shares_at_end o settings seed events limits fit few =
    let v = token_run o settings no_lane events in
    shares_are_folds (history settings seed v) v (whole o settings seed events limits fit few) (frame_run settings seed events)
    (follows_at_end o settings seed events limits fit few)

pub boxes_at_end : AtEnd BoxesArePlain
boxes_at_end o settings seed events limits fit few =
    let v = token_run o settings no_lane events in
    boxes_are_plain (history settings seed v) v (whole o settings seed events limits fit few) (history_at_end o settings seed events limits fit few)

pub order_at_end : AtEnd JournalInOrder
order_at_end o settings seed events limits fit few =
    let w = whole o settings seed events limits fit few in
    record { entries = refl; once = w.lawful.once; order = w.lawful.order }
