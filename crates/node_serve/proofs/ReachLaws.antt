-- How far a server with its log comes by one exchange more, and by a drain.
use Rattle.std.proofs.Common.{◌≡◌, ℕ, List, [], ◌∷◌, ◌++◌, take, Option, Result, Ok, Err, refl, sym, ap, ◌∙◌, subst}
use Rattle.std.proofs.lemmas.List.{append-nil}
use Rattle.express_words.specs.Calls.{Call}
use Rattle.node_exchange.specs.Exchanging.{Exchange, ExchangeOn, ExchangesOn}
use Rattle.node_exchange.specs.declared.exchanging.Broken.{Broken}
use Rattle.node_restart.specs.declared.server.Core.{Core}
use Rattle.node_restart.specs.declared.frames.Sender.{Sender}
use Rattle.node_restart.specs.declared.frames.Sender.TheVariants.{Peer}
use Rattle.node_restart.specs.Frames.{Handed, handed}
use Rattle.node_restart.specs.Steps.{step_of}
use Rattle.node_serve.specs.Draining.{Course, begun, took, exchanged, behind, unfitting, IsOldest, IsHeeded, Breaks, BreaksIn, RefusesIn, DrainsOn, then}
use Rattle.node_serve.specs.Handing.{answer_of}
use Rattle.node_serve.specs.Logs.{Log, Reaches}
use Rattle.node_serve.specs.Moved.{Moved, Calls, moved}
use Rattle.node_serve.specs.Outcomes.{Ways, Comes, exchange_ways, Replied}
use Rattle.node_serve.specs.declared.draining.Broke.{Broke}
use Rattle.node_serve.specs.declared.draining.Broke.TheVariants as broke
use Rattle.node_serve.specs.declared.node.Served.{Served}

one_more : (peer : List ℕ) (es : List Exchange) (e : Exchange) (a b c : Option (List Call)) → ExchangesOn peer es a b → ExchangeOn peer e b c → ExchangesOn peer (es ++ e ∷ []) a c
one_more peer [] e a b c same on = (c, subst (λ (x : Option (List Call)). ExchangeOn peer e x c) same on, refl)
one_more peer (d ∷ es) e a b c (next, first, others) on = (next, first, one_more peer es e next b c others on)

-- lists of frames that a log took are one
abbrev pub Both : {S F : Type 0} → Log S F → Type 0
Both {S} log = (a b c : S) (xs ys : List Handed) → log.takes a b xs → log.takes b c ys → log.takes a c (xs ++ ys)

abbrev pub Halting : {S F : Type 0} → Log S F → Type 0
Halting {S} {F} log = (a b c : S) (xs ys : List Handed) (h : Handed) (why : F) → log.takes a b xs → log.stops b c ys h why → log.stops a c (xs ++ ys) h why

reaches_more : {S F : Type 0} (log : Log S F) (peer : List ℕ) (first old new : S) (before x y : Option (List Call)) (p : Course) (e : Exchange) (frames : List Handed) (core : Core) (reply : List ℕ)
    → Both log → Reaches log peer (moved first old) (moved before x) p → ExchangeOn peer e x y → log.takes old new frames → log.core new ≡ core
    → Reaches log peer (moved first new) (moved before y) (record { core = core; reply = reply; made = p.made ++ e ∷ []; frames = p.frames ++ frames })
reaches_more log peer first old new before x y p e frames core reply both r on takes is =
    record { core = is; takes = both first old new p.frames frames r.takes takes; made = one_more peer p.made e before x y r.made on }

-- behind frames that it took, a log refused one
pub refused_behind : {S F : Type 0} (log : Log S F) (a b c : S) (frames : List Handed) (h : Handed) (why : F) → Halting log → log.takes a b frames → log.stops b c [] h why → log.stops a c frames h why
refused_behind log a b c frames h why halts takes stops = subst (λ (l : List Handed). log.stops a c l h why) (append-nil frames) (halts a b c frames [] h why takes stops)

pub begins : {S F : Type 0} (log : Log S F) (peer : List ℕ) (server : S) (calls : Option (List Call)) → log.takes server server [] → Reaches log peer (moved server server) (moved calls calls) (begun (log.core server))
begins log peer server calls none = record { core = refl; takes = none; made = refl }

-- it took its step at one frame more
pub goes_on : {S F : Type 0} (log : Log S F) (peer : List ℕ) (first old new : S) (calls : Calls) (p : Course) (sender : Sender) (bytes : List ℕ)
    → Both log → Reaches log peer (moved first old) calls p → log.core new ≡ (step_of (log.core old) sender bytes).core → log.takes old new (handed sender bytes ∷ [])
    → Reaches log peer (moved first new) calls (took p sender bytes)
goes_on log peer first old new calls p sender bytes both r is takes = record {
  core = is ∙ ap (λ (c : Core). (step_of c sender bytes).core) r.core;
  takes = both first old new p.frames (handed sender bytes ∷ []) r.takes takes;
  made = r.made;
}

-- ---- one exchange

pub breaks : {S F : Type 0} (log : Log S F) (peer sent out : List ℕ) (answer : Result (List ℕ) Broken) (what : Served) (first old new : S) (before x y : Option (List Call)) (p : Course)
    → Both log → Reaches log peer (moved first old) (moved before x) p → IsOldest (log.core old) sent → ExchangeOn peer (record { sent = sent; answer = answer }) x y
    → log.takes old new (unfitting answer) → log.core new ≡ log.core old → Breaks (log.core old) answer what
    → Comes log peer (exchange_ways p sent out) (Err (broke.Link what)) (moved first new) (moved before y)
breaks log peer sent out answer what first old new before x y p both r oldest on takes stays broken = (
  behind (exchanged p sent answer) answer,
  record {
    last = p;
    drains = refl;
    sent = sent;
    oldest = subst (λ (c : Core). IsOldest c sent) r.core oldest;
    answer = answer;
    broken = subst (λ (c : Core). Breaks c answer what) r.core broken;
    end_is = refl;
  },
  reaches_more log peer first old new before x y p _ (unfitting answer) p.core p.reply both r on takes (stays ∙ r.core),
)

pub replied : {S F : Type 0} (log : Log S F) (peer sent out bytes : List ℕ) (n : ℕ) (first old new : S) (before x y : Option (List Call)) (p : Course)
    → Both log → Reaches log peer (moved first old) (moved before x) p → ExchangeOn peer (record { sent = sent; answer = Ok bytes }) x y
    → log.takes old new (handed Peer bytes ∷ []) → log.core new ≡ (step_of (log.core old) Peer bytes).core → IsHeeded (log.core old) bytes → take n out ≡ answer_of (step_of (log.core old) Peer bytes)
    → Comes log peer (exchange_ways p sent out) (Ok n) (moved first new) (moved before y)
replied log peer sent out bytes n first old new before x y p both r on takes is fits told = (
  took (exchanged p sent (Ok bytes)) Peer bytes,
  record {
    bytes = bytes;
    fits = subst (λ (c : Core). IsHeeded c bytes) r.core fits;
    reply_is = sym (told ∙ ap (λ (c : Core). answer_of (step_of c Peer bytes)) r.core);
    end_is = refl;
  },
  reaches_more log peer first old new before x y p _ (handed Peer bytes ∷ []) _ _ both r on takes (is ∙ ap (λ (c : Core). (step_of c Peer bytes).core) r.core),
)

pub refuses : {S F : Type 0} (log : Log S F) (peer sent out bytes : List ℕ) (fault : F) (first old new : S) (before x y : Option (List Call)) (p : Course)
    → Halting log → Reaches log peer (moved first old) (moved before x) p → IsOldest (log.core old) sent → ExchangeOn peer (record { sent = sent; answer = Ok bytes }) x y
    → log.stops old new [] (handed Peer bytes) fault → log.core new ≡ log.core old
    → Comes log peer (exchange_ways p sent out) (Err (broke.Keep fault)) (moved first new) (moved before y)
refuses log peer sent out bytes fault first old new before x y p halts r oldest on stops stays = (
  exchanged p sent (Ok bytes),
  (
    handed Peer bytes,
    record { last = p; drains = refl; sent = sent; oldest = subst (λ (c : Core). IsOldest c sent) r.core oldest; bytes = bytes; is = refl; end_is = refl },
    record { core = stays ∙ r.core; stops = refused_behind log first old new p.frames (handed Peer bytes) fault halts r.takes stops; made = one_more peer p.made _ before x y r.made on },
  ),
)

-- ---- a drain

-- from each course on that had come to this server: exchanges, and at last this reply, where the other was told before
abbrev pub Drains : {S F : Type 0} → Log S F → List ℕ → (told reply : List ℕ) → Moved S → Calls → Type 0
Drains {S} log peer told reply server calls =
    (first : S) (before : Option (List Call)) (p : Course) → Reaches log peer (moved first server.old) (moved before calls.old) p
    → (q : Course) × DrainsOn p q × Reaches log peer (moved first server.new) (moved before calls.new) q × (p.reply ≡ told → q.reply ≡ reply)

pub drains_more : (p q end : Course) (sent reply : List ℕ) → DrainsOn p q → IsOldest q.core sent → Replied q sent reply end → DrainsOn p end
drains_more p q end sent reply drains oldest r = subst (DrainsOn p) (sym r.end_is) (then q sent r.bytes drains oldest r.fits)

-- ---- where one broke or the log refused a frame, in a wider drain too

pub breaks_in : (D E : Course → Type 0) → ((p : Course) → D p → E p) → (end : Course) (why : Served) → BreaksIn D end why → BreaksIn E end why
breaks_in D E wider end why b =
    record { last = b.last; drains = wider b.last b.drains; sent = b.sent; oldest = b.oldest; answer = b.answer; broken = b.broken; end_is = b.end_is }

pub refuses_in : (D E : Course → Type 0) → ((p : Course) → D p → E p) → (end : Course) (h : Handed) → RefusesIn D end h → RefusesIn E end h
refuses_in D E wider end h r =
    record { last = r.last; drains = wider r.last r.drains; sent = r.sent; oldest = r.oldest; bytes = r.bytes; is = r.is; end_is = r.end_is }

pub broke_more : {S F : Type 0} (log : Log S F) (peer : List ℕ) (a b : Ways) (why : Broke F) (server : Moved S) (calls : Calls)
    → ((end : Course) (w : Served) → a.broken end w → b.broken end w) → ((end : Course) (h : Handed) → a.short end h → b.short end h)
    → Comes log peer a (Err why) server calls → Comes log peer b (Err why) server calls
broke_more log peer a b (broke.Link w) server calls breaking refusing (end, is, r) = (end, breaking end w is, r)
broke_more log peer a b (broke.Keep fault) server calls breaking refusing (end, (h, is, r)) = (end, (h, refusing end h is, r))

pub comes_more : {S F : Type 0} (log : Log S F) (peer : List ℕ) (a b : Ways) (result : Result ℕ (Broke F)) (server : Moved S) (calls : Calls) → ((n : ℕ) (end : Course) → a.whole n end → b.whole n end)
    → ((end : Course) (w : Served) → a.broken end w → b.broken end w) → ((end : Course) (h : Handed) → a.short end h → b.short end h)
    → Comes log peer a result server calls → Comes log peer b result server calls
comes_more log peer a b (Ok n) server calls whole breaking refusing (end, is, r) = (end, whole n end is, r)
comes_more log peer a b (Err why) server calls whole breaking refusing c = broke_more log peer a b why server calls breaking refusing c
