-- What the calls at one connection come to, by how they end.
use Rattle.std.specs.Prelude.{◌≡◌, ◌≢◌, ℕ, List, take, Option, Result, Ok, Err, IsOk, IfOk, IfErr, OnErr}
use Rattle.express_words.specs.Calls.{Call}
use Rattle.express_words.specs.Seen.{Seen}
use Rattle.frame_rules.specs.Reading.{decoded}
use Rattle.frame_rules.specs.declared.fault.FrameFault.TheVariants.{Short}
use Rattle.node_restart.specs.declared.frames.Sender.TheVariants.{Peer}
use Rattle.node_restart.specs.Frames.{Handed}
use Rattle.node_serve.specs.declared.draining.Broke.{Broke}
use Rattle.node_serve.specs.declared.draining.Broke.TheVariants as broke
use Rattle.node_serve.specs.declared.node.Served.{Served}
use Rattle.node_serve.specs.Draining.{Course, took, exchanged, IsHeeded, DrainsOn, Drained, BreaksIn}
use Rattle.node_serve.specs.Draining.{RefusesIn, FaultIn}
use Rattle.node_serve.specs.Logs.{Log, Reaches, ReachesShort}
use Rattle.node_serve.specs.Moved.{Moved, Calls, moved, calls_of}
use Rattle.node_serve.specs.Responding.{Handled, InDrain, HandleStops}
use Rattle.node_serve.specs.Serving.{IsCut, AnswersOn, StopsShort}

-- ---- a leader's exchanges

-- to which courses they may come: where none broke, with the length of the reply; where one broke; and where
-- the log refused a frame
pub record Ways : Type 1 where
  pub whole : ℕ → Course → Type 0
  pub broken : Course → Served → Type 0
  pub short : Course → Handed → Type 0

-- they came to one of these
abbrev pub Comes : {S F : Type 0} → Log S F → List ℕ → Ways → Result ℕ (Broke F) → Moved S → Calls → Type 0
Comes log peer ways (Ok n) server calls =
    (end : Course) × ways.whole n end × Reaches log peer server calls end
Comes log peer ways (Err (broke.Link why)) server calls =
    (end : Course) × ways.broken end why × Reaches log peer server calls end
Comes log peer ways (Err (broke.Keep fault)) server calls =
    (end : Course) × ((refused : Handed) × ways.short end refused
    × ReachesShort log peer server calls end refused fault)

-- from each course on that had come to this server
abbrev pub ComesFrom : {S F : Type 0} → Log S F → List ℕ → (Course → Ways) → Result ℕ (Broke F) → Moved S
    → Calls → Type 0
ComesFrom {S} log peer ways result server calls =
    (first : S) (before : Option (List Call)) (p : Course)
    → Reaches log peer (moved first server.old) (moved before calls.old) p
    → Comes log peer (ways p) result (moved first server.new) (moved before calls.new)

-- one exchange of these bytes behind a course: a reply that fits came
pub record Replied (p : Course) (sent reply : List ℕ) (end : Course) : Type 0 where
  pub bytes : List ℕ
  pub fits : IsHeeded p.core bytes
  pub reply_is : end.reply ≡ reply
  pub end_is : end ≡ took (exchanged p sent (Ok bytes)) Peer bytes

abbrev pub exchange_ways : Course → (sent out : List ℕ) → Ways
exchange_ways p sent out = record {
  whole = λ n end. Replied p sent (take n out) end;
  broken = BreaksIn (λ last. last ≡ p);
  short = RefusesIn (λ last. last ≡ p);
}

-- exchanges from a course on until no command is outstanding, where this reply was told before
abbrev pub drain_ways : Course → (told out : List ℕ) → Ways
drain_ways p told out = record {
  whole = λ n end. Drained p end × (p.reply ≡ told → end.reply ≡ take n out);
  broken = BreaksIn (DrainsOn p);
  short = RefusesIn (DrainsOn p);
}

-- a drain, the step at a client's frame, and a drain
abbrev pub handle_ways : Course → (bytes out : List ℕ) → Ways
handle_ways p bytes out = record {
  whole = λ n end. Handled bytes p end × (end.reply ≡ take n out);
  broken = BreaksIn (InDrain bytes p);
  short = HandleStops bytes p;
}

-- ---- by what ended them

-- P of what is said of an exchange
abbrev pub IfLink : {T F : Type 0} → Result T (Broke F) → (Served → Type 0) → Type 0
IfLink (Err (broke.Link why)) P = P why
IfLink other P = Unit {0}

-- the net's count of faults: it rose where an exchange's fault is told, and only then
abbrev pub NetFault : {T F : Type 0} → Result T (Broke F) → (before now : ℕ) → Type 0
NetFault (Err (broke.Link why)) before now = FaultIn why before now
NetFault other before now = now ≡ before

-- and that of the log's failures, by its fault
abbrev pub LogFault : {T F : Type 0} → (F → ℕ → ℕ → Type 0) → (before now : ℕ) → Result T (Broke F) → Type 0
LogFault rises before now (Err (broke.Keep fault)) = rises fault before now
LogFault rises before now other = now ≡ before

-- ---- a server's step, and its reply

-- the server answered, or its log refused a frame
pub record AnswerEnds {S F : Type 0} (log : Log S F) (peer bytes : List ℕ) (result : Result Served F)
    (old new : S) (net conn : Moved Seen) : Type 0 where
  pub answers : IfOk result (AnswersOn log peer bytes (moved old new) net conn)
  pub stops : IfErr result (StopsShort log peer bytes (moved old new) (calls_of net))

-- ---- one connection

-- it ended or failed before what it gave was a frame or known to be none
pub record NothingMoves {S N F : Type 0} (result : Result Served F) (old new : S) (net rested : N)
    (conn : Moved Seen) : Type 0 where
  pub cut : IfOk result (λ why. IsCut why conn.new.content conn.old.faults conn.new.faults)
  pub cut_is_ok : IsOk result
  pub stays : new ≡ old
  pub net_rests : rested ≡ net
  pub writes_nothing : conn.new.written ≡ conn.old.written

-- else it is answered, or the log refused a frame, and nothing was written
pub record ServeEnds {S F : Type 0} (log : Log S F) (peer held : List ℕ) (result : Result Served F)
    (old new : S) (net conn : Moved Seen) : Type 0 where
  pub serves : decoded held ≢ Err Short → IfOk result (AnswersOn log peer held (moved old new) net conn)
  pub stops : IfErr result (StopsShort log peer held (moved old new) (calls_of net))
  pub unanswered : OnErr result ((conn.new.written ≡ conn.old.written) × (conn.new.faults ≡ conn.old.faults))
