-- The relation between the two runs through a whole schedule of clients.
use Rattle.std.proofs.Common.{◌≡◌, ◌≢◌, ◌<◌, ℕ, Bool, true, false, cond, nat_eq, List, [], ◌∷◌, ◌++◌, length, take, Option, Some, None, slice_get, refl, ap, ◌∙◌, arith, length-take, inl, inr}
use Rattle.std.proofs.lemmas.Bool.{cases_eq, ne_eqb}
use Rattle.mailbox_rules.specs.Requests.{Request}
use Rattle.token_rules.specs.Tokens.{Token, World, Oracle}
use Rattle.token_rules.specs.Run as tokens
use Rattle.token_rules.specs.Run.{asks, client_sends, delivers_at, finished, sent_of, ticks, waits, goes_on}
use Rattle.token_rules.specs.Driven.{finished_by}
use Rattle.token_rules.specs.Lawful.{Lawful}
use Rattle.token_rules.specs.Since.{Since, below_of}
use Rattle.token_rules.proofs.Lawful.{moves_keep}
use Rattle.token_rules.proofs.LeadOn.{moves_lead_on}
use Rattle.run_rules.specs.Letters.{FrameWorld, Letter}
use Rattle.run_rules.specs.Run as frames
use Rattle.run_rules.specs.Run.{Event, Ask, Send, Tick, Deliver, Show, Finish, Inject}
use Rattle.run_rules.specs.Book.{Book}
use Rattle.run_rules.specs.Follows.{Follows, Sound, Within}
use Rattle.run_rules.specs.Known.{IsWhole, Known}
use Rattle.run_rules.specs.Laws.{ComesFollows}
use Rattle.run_rules.specs.History.{token_events, AreOfClients}
use Rattle.run_rules.proofs.ClientHears.{client_at}
use Rattle.run_rules.proofs.Histories.{back_asks}
use Rattle.run_rules.proofs.GoesOn.{CanAsk, asks_follow, idle_same, waits_follow}
use Rattle.run_rules.proofs.OwnBoxes.{has_all, own_length}
use Rattle.run_rules.proofs.WholeGrows.{IsOwn, asks_grow}
use Rattle.run_rules.proofs.WholeMoves.{Kept, Allowed, back, back_on_delivers, back_on_sends, back_on_ticks, back_on_finish, known, lead, on_delivers, on_sends, on_ticks, on_finish}

-- a client with a current request has the new one wait
pub busy_asks : (b : Book) (f : FrameWorld) (w : World) (c : ℕ) (r : Request) → Follows b f w → b.foreign c ≡ false
    → (w.lanes c).step ≢ 0 → Follows b (frames.asks f c r) (asks w c r)
unfolding asks
busy_asks b f w c r h hon busy =
    let idle = idle_same b c _ _ _ (client_at b f w c h hon).current in
    let not_zero : nat_eq (w.lanes c).step 0 ≡ false = ne_eqb _ _ busy in
    rw (idle, h.waiting c, not_zero) (waits_follow b f w c ((w.requests c).waiting ++ r ∷ []) h)

-- one with none has all boxes that its lane got
pub can_ask : (b : Book) (f : FrameWorld) (v w : World) (c : ℕ) → Known b v w → Follows b f w → b.foreign c ≡ false
    → (w.lanes c).step ≡ 0 → CanAsk b (f.clients c) (w.lanes c).serial (w.table.got c)
can_ask b f v w c k h hon idle =
    let hon_w : w.foreign c ≡ false = ap (λ g. g c) h.foreign ∙ hon in
    let client = client_at b f w c h hon in
    let serial = k.lawful.sent.serials c hon_w in
    let prefix : length (sent_of w c) ≡ length (take (length (sent_of w c)) (b.sent c)) = ap length (k.within.sent c) in
    let taken = length-take (length (sent_of w c)) (b.sent c) in
    let few = k.sound.serials c in
    let boxes = k.lawful.few c in
    let limit = h.limit in
    let all = has_all b v w c k hon_w (λ busy a e. omega (arith, busy, idle)) in
    record {
      serials = omega (arith, serial, prefix, taken, few);
      boxes = omega (arith, boxes, limit);
      all = ap length client.owned ∙ own_length b c (below_of w c) (w.table.got c) all;
    }

module _ (b : Book) (o : Oracle) (v : World) (sound : Sound b) (whole : IsWhole b v)
    (honest : (c : ℕ) → b.foreign c ≡ false)
    (comes_follow : (t : Token) → IsOwn t → ComesFollows b t)
    (sends_follow : (f : FrameWorld) (w : World) (c : ℕ) → Known b v w → Follows b f w
    → Follows b (frames.client_sends f c) (client_sends w c)) where
  abbrev KeptSo : FrameWorld → World → Type 0
  KeptSo = Kept b o v sound whole comes_follow sends_follow

  abbrev AllowedSo : World → Type 0
  AllowedSo = Allowed b o v sound whole comes_follow sends_follow

  abbrev back_so : (w u : World) → (Within b u → Within b w) → (Lawful w → Lawful u × Since w u) → AllowedSo u → AllowedSo w
  back_so = back b o v sound whole comes_follow sends_follow

  abbrev so : (w : World) → Lawful w → Lawful w × Since w w
  so = lead b o v sound whole comes_follow sends_follow

  back_on_asks : (w : World) (c : ℕ) (r : Request) → w.foreign c ≡ false → AllowedSo (asks w c r) → AllowedSo w
  back_on_asks w c r hon = back_so w _ (back_asks b w c r) (λ l. (moves_lead_on w).ask w c r hon (so w l))

  on_asks : (f : FrameWorld) (w : World) (c : ℕ) (r : Request) → KeptSo f w → c < b.settings.lanes
      → AllowedSo (asks w c r) → KeptSo (frames.asks f c r) (asks w c r)
  on_asks f w c r h low next =
      let hon_w : w.foreign c ≡ false = ap (λ g. g c) h.follows.foreign ∙ honest c in
      let k = known b o v sound whole comes_follow sends_follow w h.lawful (back_on_asks w c r hon_w next) in
      let lawful = (moves_keep o).ask w c r hon_w h.lawful in
      record {
        follows = elim (cases_eq (w.lanes c).step 0) [
          | inl idle ↦
              asks_follow b f w c r sound h.follows (honest c) low (h.lawful.sent.serials c hon_w)
              (can_ask b f v w c k h.follows (honest c) idle) (next lawful).0
          | inr busy ↦ busy_asks b f w c r h.follows (honest c) busy
        ];
        lawful = lawful;
        own = (asks_grow w c r).own h.own;
      }

  shown_follows : (f : FrameWorld) (w : World) (n : ℕ) → KeptSo f w → KeptSo (frames.shows f n (slice_get f.pool n)) w
  unfolding frames.shows
  shown_follows f w n h = at_place (slice_get f.pool n)
    where
      at_place : (l : Option Letter) → KeptSo (frames.shows f n l) w
      at_place None = h
      at_place (Some l) = record {
        follows = record {
          limit = h.follows.limit;
          width = h.follows.width;
          window = h.follows.window;
          foreign = h.follows.foreign;
          helper = h.follows.helper;
          leader = h.follows.leader;
          clients = h.follows.clients;
          waiting = h.follows.waiting;
          told = h.follows.told;
          pool = h.follows.pool;
          journal = h.follows.journal;
          outcomes = h.follows.outcomes;
        };
        lawful = h.lawful;
        own = h.own;
      }

  -- ---- a whole schedule

  asked_back : (w : World) (c : ℕ) (r : Request) (t : Bool) → w.foreign c ≡ t → AllowedSo (cond t w (asks w c r)) → AllowedSo w
  asked_back w c r true e a = a
  asked_back w c r false e a = back_on_asks w c r e a

  pub run_back : (events : List Event) (w : World) → AreOfClients b.settings events
      → AllowedSo (tokens.run o w (token_events events)) → AllowedSo w
  unfolding token_events tokens.run tokens.happens
  run_back [] w fit a = a
  run_back (Ask c r ∷ events) w fit a =
      asked_back w c r (w.foreign c) refl (run_back events (cond (w.foreign c) w (asks w c r)) fit.1 a)
  run_back (Send c ∷ events) w fit a =
      back_on_sends b o v sound whole comes_follow sends_follow w c (run_back events (client_sends w c) fit.1 a)
  run_back (Tick ∷ events) w fit a =
      back_on_ticks b o v sound whole comes_follow sends_follow w (run_back events (ticks w) fit.1 a)
  run_back (Deliver n ∷ events) w fit a =
      back_on_delivers b o v sound whole comes_follow sends_follow w n (run_back events (delivers_at o w n) fit.1 a)
  run_back (Show n ∷ events) w fit a = run_back events w fit.1 a
  run_back (Finish c ∷ events) w fit a =
      back_on_finish b o v sound whole comes_follow sends_follow w c (run_back events (finished o w c) fit.1 a)
  run_back (Inject to_leader bytes ∷ events) w fit a = absurd fit.0

  pub events_follow : (events : List Event) (f : FrameWorld) (w : World) → AreOfClients b.settings events → KeptSo f w
      → AllowedSo (tokens.run o w (token_events events))
      → KeptSo (frames.run f events) (tokens.run o w (token_events events))
  unfolding token_events tokens.run tokens.happens frames.run frames.happens
  events_follow [] f w fit h a = h
  events_follow (Ask c r ∷ events) f w fit h a =
      at_lane (w.foreign c) (ap (λ g. g c) h.follows.foreign ∙ honest c) a
      (λ a. events_follow events (frames.asks f c r) (asks w c r) fit.1 (on_asks f w c r h fit.0.0 (run_back events (asks w c r) fit.1 a)) a)
    where
      at_lane : (t : Bool) → t ≡ false → AllowedSo (tokens.run o (cond t w (asks w c r)) (token_events events))
          → (AllowedSo (tokens.run o (asks w c r) (token_events events)) → KeptSo (frames.run (frames.asks f c r) events) (tokens.run o (asks w c r) (token_events events)))
          → KeptSo (frames.run (frames.asks f c r) events) (tokens.run o (cond t w (asks w c r)) (token_events events))
      at_lane true e a next = absurd (cc e)
      at_lane false e a next = next a
  events_follow (Send c ∷ events) f w fit h a =
      events_follow events (frames.client_sends f c) (client_sends w c) fit.1
      (on_sends b o v sound whole comes_follow sends_follow f w c h (run_back events (client_sends w c) fit.1 a)) a
  events_follow (Tick ∷ events) f w fit h a =
      events_follow events (frames.ticks f) (ticks w) fit.1
      (on_ticks b o v sound whole comes_follow sends_follow f w h (run_back events (ticks w) fit.1 a)) a
  events_follow (Deliver n ∷ events) f w fit h a =
      events_follow events (frames.delivers_at f n) (delivers_at o w n) fit.1
      (on_delivers b o v sound whole comes_follow sends_follow f w n h (run_back events (delivers_at o w n) fit.1 a)) a
  events_follow (Show n ∷ events) f w fit h a =
      events_follow events (frames.shows f n (slice_get f.pool n)) w fit.1 (shown_follows f w n h) a
  events_follow (Finish c ∷ events) f w fit h a =
      events_follow events (finished_by frames.frame_moves f c) (finished o w c) fit.1
      (on_finish b o v sound whole comes_follow sends_follow f w c h (run_back events (finished o w c) fit.1 a)) a
  events_follow (Inject to_leader bytes ∷ events) f w fit h a = absurd fit.0
