-- At the end of every schedule of clients the run over bytes is the token run with content.
use Rattle.std.proofs.Common.{◌≡◌, ◌<◌, ◌≤◌, ◌^◌, ◌+◌, ◌-◌, ℕ, zero, suc, nat_eq, List, [], ◌∷◌, ◌++◌, length, take, replicate, Some, slice_get, refl, ap, subst, arith, All, lit<}
use Rattle.std.proofs.lemmas.Bool.{cond_both}
use Rattle.std.proofs.lemmas.List.{length-replicate}
use Rattle.std.proofs.lemmas.List.Elements.{All-nil, All-cons}
use Rattle.express_words.specs.declared.settings.Settings.{Settings}
use Rattle.express_words.specs.Limits.{KeepsLimits, levels_len}
use Rattle.mailbox_rules.specs.Requests.{Request, Register, Write, Read, Retire}
use Rattle.token_rules.specs.Tokens.{Token, World, Oracle}
use Rattle.token_rules.specs.Run as tokens
use Rattle.token_rules.specs.Run.{client_sends, sent_of}
use Rattle.token_rules.specs.Laws.{asked_by, asked_in}
use Rattle.token_rules.specs.Lawful.{Lawful}
use Rattle.token_rules.specs.Since.{Since}
use Rattle.token_rules.proofs.Asked.{requests_were_asked}
use Rattle.token_rules.proofs.Lawful.{always_lawful, start_is_lawful}
use Rattle.token_rules.proofs.LeadOn.{moves_lead_on}
use Rattle.token_rules.proofs.Since.{since_itself}
use Rattle.run_rules.specs.Letters.{FrameWorld, opened}
use Rattle.run_rules.specs.Run as frames
use Rattle.run_rules.specs.Run.{Event, Ask, Send, Tick, Deliver, Show, Finish, Inject}
use Rattle.run_rules.specs.Book.{Book}
use Rattle.run_rules.specs.Follows.{Follows, IsGood, IsOfFrames, Sound, Within}
use Rattle.run_rules.specs.Known.{IsWhole, Known}
use Rattle.run_rules.specs.Laws.{ComesFollows, first}
use Rattle.run_rules.specs.History.{AreOfClients, Fits, history, no_brought, no_lane, token_events, token_run}
use Rattle.run_rules.proofs.Asked.{start_follows}
use Rattle.run_rules.proofs.WholeGrows.{IsOwn}
use Rattle.run_rules.proofs.WholeBounds.{Few, run_few}
use Rattle.run_rules.proofs.WholeMoves.{known}
use Rattle.run_rules.proofs.WholeRuns.{events_follow, run_back}

-- ---- what was asked fits

abbrev pub AllFit : ℕ → List Request → Type 0
AllFit width requests = (i : ℕ) (r : Request) → slice_get requests i ≡ Some r → Fits width r

pub fit_append : (width : ℕ) (xs ys : List Request) → AllFit width xs → AllFit width ys → AllFit width (xs ++ ys)
fit_append width [] ys h k i r e = k i r e
fit_append width (x ∷ xs) ys h k zero r e = h zero r e
fit_append width (x ∷ xs) ys h k (suc i) r e = fit_append width xs ys (λ i r e. h (suc i) r e) k i r e

pub fit_none : (width : ℕ) → AllFit width []
fit_none width i r e = absurd (cc e)

pub fit_one : (width : ℕ) (x : Request) → Fits width x → AllFit width (x ∷ [])
fit_one width x h zero r e = let same : x ≡ r = cc in subst (Fits width) same h
fit_one width x h (suc i) r e = absurd (cc e)

asked_fit : (settings : Settings) (c : ℕ) (events : List Event) → AreOfClients settings events
    → AllFit settings.width (asked_by c (token_events events))
unfolding asked_by token_events
asked_fit settings c [] fit = fit_none settings.width
asked_fit settings c (Ask d r ∷ events) fit =
    fit_append settings.width (asked_in c (tokens.Ask d r)) (asked_by c (token_events events))
    (cond_both {A = List Request} (nat_eq c d) _ _ (AllFit settings.width) (λ e. fit_one settings.width r fit.0.1) (λ e. fit_none settings.width))
    (asked_fit settings c events fit.1)
asked_fit settings c (Send d ∷ events) fit = asked_fit settings c events fit.1
asked_fit settings c (Tick ∷ events) fit = asked_fit settings c events fit.1
asked_fit settings c (Deliver n ∷ events) fit = asked_fit settings c events fit.1
asked_fit settings c (Show n ∷ events) fit = asked_fit settings c events fit.1
asked_fit settings c (Finish d ∷ events) fit = asked_fit settings c events fit.1
asked_fit settings c (Inject to_leader bytes ∷ events) fit = absurd fit.0

pub good : (b : Book) (r : Request) → Fits b.settings.width r → IsGood b r
good b (Register a) h = h
good b (Write t m) h = h
good b (Read own) h = tt
good b (Retire own) h = tt

zeros_below : (m n : ℕ) → 0 < m → All (λ x. x < m) (replicate n 0)
zeros_below m zero h = All-nil (λ x. x < m)
zeros_below m (suc n) h = All-cons (λ x. x < m) 0 (replicate n 0) h (zeros_below m n h)

pub nothing_brought : (width : ℕ) → IsOfFrames (no_brought width)
nothing_brought width = record {
  keys = λ server c s. refl;
  roots = λ server c s. lit< tt;
  shares = λ server c s.
      record { u = lit< tt; v = lit< tt; h = zeros_below (2 ^ 128) 5 (lit< tt); size = refl; a = lit< tt; b = lit< tt; c = lit< tt };
  bytes = λ c s. zeros_below 256 (levels_len + width) (omega arith);
  addresses = λ c s. lit< tt;
  numbers = λ c s. lit< tt;
}

-- ---- the end of a run comes after its start

pub run_since : (o : Oracle) (w u : World) (events : List tokens.Event) → Lawful u → Since w u
    → Since w (tokens.run o u events)
unfolding tokens.run
run_since o w u [] l h = h
run_since o w u (e ∷ events) l h =
    let next = (moves_lead_on w).happen o u e (l, h) in
    run_since o w (tokens.happens o u e) events next.0 next.1

pub take_all : {X : Type 0} (xs : List X) → xs ≡ take (length xs) xs
take_all [] = refl
take_all (x ∷ xs) = ap (λ l. x ∷ l) (take_all xs)

module _ (o : Oracle) (settings : Settings) (seed : List ℕ) (events : List Event)
    (limits : KeepsLimits settings.width settings.boxes settings.lanes settings.window)
    (fit : AreOfClients settings events) (few : length events ≤ 20000) where
  abbrev v : World
  v = token_run o settings no_lane events

  abbrev b : Book
  b = history settings seed v

  room : 0 < settings.window
  room = let l = limits.3.0 in omega (arith, l)

  at_start : Lawful (first b)
  at_start = start_is_lawful settings.width settings.boxes settings.window no_lane room

  pub bounds : Few settings.window (length events) v
  bounds =
      let h : Few settings.window 0 (first b) = record {
        lawful = at_start;
        window_is = refl;
        small = limits.3.1;
        load = λ c. omega arith;
        commands = omega arith;
      } in
      let none : 0 + length events ≡ length events = omega arith in
      subst (λ n. Few settings.window n v) none (run_few o settings events settings.window 0 (first b) (omega (arith, few)) fit h)

  since : Since (first b) v
  since = run_since o (first b) (first b) (token_events events) at_start (since_itself (first b))

  pub whole : IsWhole b v
  whole = record {
    lawful = always_lawful o settings.width settings.boxes settings.window no_lane (token_events events) room;
    limit = since.limit;
    width = since.width;
    window = bounds.window_is;
    foreign = since.foreign;
    sent = λ c. refl;
    commands = refl;
    journal = refl;
  }

  pub sound : Sound b
  sound = record {
    limits = limits;
    requests = λ c s r e.
        let asked = (requests_were_asked o settings.width settings.boxes settings.window no_lane (token_events events) room).sent c (s - 1) r e in
        good b r (asked_fit settings c events fit asked.0 r asked.1);
    parts = λ c s. length-replicate (levels_len + settings.width) 0;
    brought = nothing_brought settings.width;
    serials = λ c. let l = bounds.load c in omega (arith, l, few);
    numbers = let l = bounds.commands in omega (arith, l, few);
  }

  pub within : Within b v
  within = record { sent = λ c. take_all (sent_of v c); commands = take_all v.commands; journal = take_all v.journal }

  module _ (comes_follow : (t : Token) → IsOwn t → ComesFollows b t)
      (sends_follow : (f : FrameWorld) (w : World) (c : ℕ) → Known b v w → Follows b f w
      → Follows b (frames.client_sends f c) (client_sends w c)) where
    pub run_follows : Follows b (frames.run (opened settings seed) events) v
    run_follows =
        let allowed : Lawful v → Within b v × Since v v = λ l. (within, since_itself v) in
        let back = run_back b o v sound whole (λ c. refl) comes_follow sends_follow events (first b) fit allowed in
        let k : Known b v (first b) = known b o v sound whole comes_follow sends_follow (first b) at_start back in
        (events_follow b o v sound whole (λ c. refl) comes_follow sends_follow events (opened settings seed) (first b) fit
        (record { follows = start_follows b v k; lawful = at_start; own = tt }) allowed).follows
