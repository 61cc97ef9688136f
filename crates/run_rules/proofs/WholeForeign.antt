-- At the end of every schedule, with whatever foreign lanes, the run over bytes is the token run with content.
use Rattle.std.proofs.Common.{◌≡◌, ◌∙◌, ◌<◌, ◌≤◌, ◌+◌, ◌-◌, ℕ, Bool, nat_eq, List, [], ◌∷◌, ◌++◌, length, Some, slice_get, append-nil, refl, sym, ap, subst, arith}
use Rattle.std.proofs.lemmas.Bool.{cond_both}
use Rattle.express_words.specs.declared.settings.Settings.{Settings}
use Rattle.express_words.specs.Limits.{KeepsLimits}
use Rattle.mailbox_rules.specs.Requests.{Request}
use Rattle.token_rules.specs.Tokens.{Act, HasActs, Oracle, Token, World, oracle_of, act_or_none}
use Rattle.token_rules.specs.Run as tokens
use Rattle.token_rules.specs.Run.{sent_of}
use Rattle.token_rules.specs.Laws.{asked_by, asked_in}
use Rattle.token_rules.specs.Lawful.{Lawful}
use Rattle.token_rules.proofs.Asked.{requests_were_asked}
use Rattle.token_rules.proofs.Lawful.{start_is_lawful}
use Rattle.token_rules.proofs.Since.{since_itself}
use Rattle.run_rules.specs.Letters.{FrameWorld, Letter}
use Rattle.run_rules.specs.Run.{Event, Ask, Send, Tick, Deliver, Show, Finish, Inject}
use Rattle.run_rules.specs.Book.{Book}
use Rattle.run_rules.specs.Follows.{Carries, Follows, Sound, Within}
use Rattle.run_rules.specs.Known.{IsWhole, Known}
use Rattle.run_rules.specs.Laws.{first}
use Rattle.run_rules.specs.History.{frame_run, token_events, token_run}
use Rattle.run_rules.specs.Acts.{AreFitting, AreTaken, Both, ForeignComesFollow, OutsideAt, Taken, both_come, both_opened, history_of, run_both, taken_of}
use Rattle.run_rules.proofs.Asked.{start_follows}
use Rattle.run_rules.proofs.ForeignComes.{foreign_comes_follow}
use Rattle.run_rules.proofs.WholeBoth.{Allowed, Kept, Outside, run_back, run_keeps, run_same}
use Rattle.run_rules.proofs.WholeBounds.{Few, run_few_any}
use Rattle.run_rules.proofs.WholeBrought.{brought_fits, parts_fit}
use Rattle.run_rules.proofs.WholeLaw.{AllFit, fit_append, fit_none, fit_one, good, take_all}
use Rattle.run_rules.proofs.WholeWorlds.{Told, same_run, told_run}

-- ---- what was asked fits

asked_fit : (settings : Settings) (foreign : ℕ → Bool) (c : ℕ) (events : List Event) → AreFitting settings foreign events
    → AllFit settings.width (asked_by c (token_events events))
unfolding asked_by token_events
asked_fit settings foreign c [] fit = fit_none settings.width
asked_fit settings foreign c (Ask d r ∷ events) fit =
    fit_append settings.width (asked_in c (tokens.Ask d r)) (asked_by c (token_events events))
    (cond_both {A = List Request} (nat_eq c d) _ _ (AllFit settings.width) (λ e. fit_one settings.width r fit.0.2) (λ e. fit_none settings.width))
    (asked_fit settings foreign c events fit.1)
asked_fit settings foreign c (Send d ∷ events) fit = asked_fit settings foreign c events fit.1
asked_fit settings foreign c (Tick ∷ events) fit = asked_fit settings foreign c events fit.1
asked_fit settings foreign c (Deliver n ∷ events) fit = asked_fit settings foreign c events fit.1
asked_fit settings foreign c (Show n ∷ events) fit = asked_fit settings foreign c events fit.1
asked_fit settings foreign c (Finish d ∷ events) fit = asked_fit settings foreign c events fit.1
asked_fit settings foreign c (Inject to_leader bytes ∷ events) fit = asked_fit settings foreign c events fit.1

module _ (settings : Settings) (seed : List ℕ) (foreign : ℕ → Bool) (events : List Event)
    (limits : KeepsLimits settings.width settings.boxes settings.lanes settings.window)
    (fit : AreFitting settings foreign events) (few : length events ≤ 20000) where
  abbrev opened_both : Both
  opened_both = both_opened settings seed foreign

  abbrev pub ended : Both
  ended = run_both opened_both events

  abbrev pub v : World
  v = ended.world

  abbrev pub b : Book
  b = history_of settings seed foreign ended

  -- the oracle that has the acts
  abbrev pub o : Oracle
  o = oracle_of ended.acts

  agrees : HasActs o ended.acts
  agrees n act is = ap act_or_none is

  pub room : 0 < settings.window
  room = let l = limits.3.0 in omega (arith, l)

  at_start : Lawful (first b)
  at_start = start_is_lawful settings.width settings.boxes settings.window foreign room

  told : Told (first b) ended
  told = told_run (first b) o settings foreign refl events opened_both fit (record { lawful = at_start; since = since_itself (first b); count = refl }) agrees

  pub world_is : v ≡ token_run o settings foreign events
  world_is = same_run (first b) o settings foreign refl events opened_both fit (record { lawful = at_start; since = since_itself (first b); count = refl }) agrees

  bounds : Few settings.window (length events) v
  bounds =
      let h : Few settings.window 0 (first b) = record {
        lawful = at_start;
        window_is = refl;
        small = limits.3.1;
        load = λ c. omega arith;
        commands = omega arith;
      } in
      let none : 0 + length events ≡ length events = omega arith in
      subst (Few settings.window (length events)) (sym world_is)
      (subst (λ n. Few settings.window n (token_run o settings foreign events)) none (run_few_any o settings events settings.window 0 (first b) (omega (arith, few)) h))

  pub whole : IsWhole b v
  whole = record {
    lawful = told.lawful;
    limit = told.since.limit;
    width = told.since.width;
    window = bounds.window_is;
    foreign = told.since.foreign;
    sent = λ c. refl;
    commands = refl;
    journal = refl;
  }

  pub sound : Sound b
  sound = record {
    limits = limits;
    requests = λ c s r e.
        let asked = (requests_were_asked o settings.width settings.boxes settings.window foreign (token_events events) room).sent c (s - 1) r (ap (λ w. slice_get (sent_of w c) (s - 1)) (sym world_is) ∙ e) in
        good b r (asked_fit settings foreign c events fit asked.0 r asked.1);
    parts = λ c s. parts_fit settings.width ended.taken c s;
    brought = brought_fits settings.width ended.taken;
    serials = λ c. let l = bounds.load c in omega (arith, l, few);
    numbers = let l = bounds.commands in omega (arith, l, few);
  }

  pub within : Within b v
  within = record { sent = λ c. take_all (sent_of v c); commands = take_all v.commands; journal = take_all v.journal }

  pub foreign_follow : ForeignComesFollow b v
  foreign_follow = foreign_comes_follow b v

  module _ (Unique : Both → Type 0)
      (takes : (s : Both) (t : Token) (i : ℕ) (l : Letter) (more : List Taken) → Known b v s.world → slice_get s.world.pool i ≡ Some t → Follows b s.frames s.world
      → Carries b t l → OutsideAt b.foreign t l → ended.taken ≡ (s.taken ++ taken_of s.frames t l) ++ more → Unique s
      → AreTaken b (taken_of s.frames t l) × Unique (both_come s (Some t) (Some l)))
      (stays : (s : Both) (g : FrameWorld) (u : World) (acts : List Act) → g.helper ≡ s.frames.helper → g.leader ≡ s.frames.leader → u.commands ≡ s.world.commands → u.journal ≡ s.world.journal → u.misfits ≡ s.world.misfits
      → Unique s → Unique (record { frames = g; world = u; acts = acts; taken = s.taken }))
      (at_first : Unique opened_both) where
    pub allowed : Allowed b v ended.taken sound whole Unique foreign_follow takes stays ended
    allowed lawful same = (within, since_itself v, ([], sym (append-nil ended.taken)))

    pub kept : Kept b v ended.taken sound whole Unique foreign_follow takes stays opened_both
    kept =
        let k = run_back b v ended.taken sound whole Unique foreign_follow takes stays events opened_both fit allowed at_start refl in
        let known : Known b v (first b) = record { sound = sound; whole = whole; lawful = at_start; since = k.1; within = k.0 } in
        record { follows = start_follows b v known; lawful = at_start; outside = λ i t l e d. absurd (cc e); unique = at_first }

    kept_to_end : Kept b v ended.taken sound whole Unique foreign_follow takes stays ended
    kept_to_end = run_keeps b v ended.taken sound whole Unique foreign_follow takes stays events opened_both fit kept allowed

    -- the run over bytes goes on as it does alone
    pub run_is : ended.frames ≡ frame_run settings seed events
    run_is = run_same b v ended.taken sound whole Unique foreign_follow takes stays events opened_both fit kept allowed

    pub run_follows : Follows b (frame_run settings seed events) (token_run o settings foreign events)
    run_follows =
        subst (λ f. Follows b f (token_run o settings foreign events)) run_is (subst (Follows b ended.frames) world_is kept_to_end.follows)

    -- what is kept of both runs
    pub run_unique : Unique ended
    run_unique = kept_to_end.unique

    -- what came from outside in them
    pub run_outside : Outside foreign ended.world ended.frames
    run_outside = kept_to_end.outside
