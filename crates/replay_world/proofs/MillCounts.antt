-- A mill's outcomes and lines, counted.
use Rattle.std.proofs.Common.{◌≡◌, ℕ, zero, suc, ◌+◌, ◌-◌, ◌*◌, ◌%◌, ◌<◌, ◌≤◌, Bool, cond, nat_eq, List, [], ◌∷◌, ◌++◌, length, Some, slice_get, arith, refl, sym, ◌∙◌, ap, subst}
use Rattle.std.proofs.lemmas.Bool.{cond_both}
use Rattle.std.proofs.lemmas.List.Sums.{sum_by-cons}
use Rattle.express_words.specs.Limits.{KeepsLimits}
use Rattle.express_words.specs.declared.settings.Settings.{Settings}
use Rattle.mailbox_rules.specs.Requests.{Command, Registers, Begins, Audits, Settles, Reads, Retires, Request, Write}
use Rattle.token_rules.specs.Tokens as token
use Rattle.token_rules.specs.Tokens.{Answered, no_act, start}
use Rattle.token_rules.specs.Run as tokens
use Rattle.token_rules.specs.Run.{Ask, Deliver, Finish, Inject, Send, Tick}
use Rattle.token_rules.specs.Laws.{asked_by}
use Rattle.token_rules.proofs.Laws.{is_prefix}
use Rattle.token_rules.proofs.Asked.{requests_were_asked}
use Rattle.run_rules.specs.Letters as run
use Rattle.run_rules.specs.Letters.{NoOwnBox}
use Rattle.run_rules.specs.Book.{Book, request_of}
use Rattle.run_rules.specs.Follows.{AreOutcomes}
use Rattle.run_rules.specs.History.{AreOfClients, frame_run, history, no_lane, token_events, token_run}
use Rattle.run_rules.specs.Run.{Event}
use Rattle.run_rules.proofs.WholeLaw.{whole}
use Rattle.run_rules.proofs.WholeTruths.{boxes_at_end, clients_at_end, follows_at_end, journal_at_end, outcomes_at_end}
use Rattle.replay_world.specs.Mills.{ComesTo, is_accepted, is_message, is_registered, outcomes_like}
use Rattle.replay_world.proofs.MillTokens.{Milled, milled, opened, opens, reads_of, registers, writes_of}
use Rattle.replay_world.proofs.MillTold.{TellsAs, told_as}

-- ---- counts

like_cons : (like : run.Told → Bool) (y : run.Outcome) (ys : List run.Outcome) → outcomes_like like (y ∷ ys) ≡ cond (like y.told) 1 0 + outcomes_like like ys
like_cons like y ys = sum_by-cons (λ (o : run.Outcome). cond (like o.told) 1 0) y ys

-- an outcome is told as its request opened, and is of that kind alone
tells_registered : (t : token.Told) (u : run.Told) → TellsAs t u → is_registered u ≡ opens Registers t
tells_registered (Answered s Registers) u h = ap is_registered h.1
tells_registered (Answered s Begins) u h = ap is_registered h
tells_registered (Answered s Reads) u h = ap is_registered h.1
tells_registered (Answered s Audits) u h = absurd h
tells_registered (Answered s Settles) u h = absurd h
tells_registered (Answered s Retires) u h = absurd h
tells_registered (token.NoOwnBox own) u h = absurd h

tells_accepted : (t : token.Told) (u : run.Told) → TellsAs t u → is_accepted u ≡ opens Begins t
tells_accepted (Answered s Registers) u h = ap is_accepted h.1
tells_accepted (Answered s Begins) u h = ap is_accepted h
tells_accepted (Answered s Reads) u h = ap is_accepted h.1
tells_accepted (Answered s Audits) u h = absurd h
tells_accepted (Answered s Settles) u h = absurd h
tells_accepted (Answered s Retires) u h = absurd h
tells_accepted (token.NoOwnBox own) u h = absurd h

tells_message : (t : token.Told) (u : run.Told) → TellsAs t u → is_message u ≡ opens Reads t
tells_message (Answered s Registers) u h = ap is_message h.1
tells_message (Answered s Begins) u h = ap is_message h
tells_message (Answered s Reads) u h = ap is_message h.1
tells_message (Answered s Audits) u h = absurd h
tells_message (Answered s Settles) u h = absurd h
tells_message (Answered s Retires) u h = absurd h
tells_message (token.NoOwnBox own) u h = absurd h

alike : (like : run.Told → Bool) (k : Command) (same : (t : token.Told) (u : run.Told) → TellsAs t u → like u ≡ opens k t) (b : Book) (xs : List token.Outcome) (ys : List run.Outcome)
    → AreOutcomes b xs ys → ((i : ℕ) (x : token.Outcome) (y : run.Outcome) → slice_get xs i ≡ Some x → slice_get ys i ≡ Some y → TellsAs x.told y.told)
    → outcomes_like like ys ≡ opened k xs
alike like k same b [] [] h each = refl
alike like k same b [] (y ∷ ys) h each = absurd h
alike like k same b (x ∷ xs) [] h each = absurd h
alike like k same b (x ∷ xs) (y ∷ ys) h each =
    like_cons like y ys
    ∙ ap (λ t. cond t 1 0 + outcomes_like like ys) (same x.told y.told (each zero x y refl refl))
    ∙ ap (λ m. cond (opens k x.told) 1 0 + m) (alike like k same b xs ys h.1 (λ i x y e f. each (suc i) x y e f))

-- ---- what writes are aimed at

abbrev Aims : (ℕ → ℕ) → Request → Type 0
Aims addr (Write target message) = (j : ℕ) × (j < 64) × (addr j ≡ target)
Aims addr r = Unit {0}

abbrev AllAim : (ℕ → ℕ) → List tokens.Event → Type 0
AllAim addr [] = Unit {0}
AllAim addr (Ask c r ∷ es) = Aims addr r × AllAim addr es
AllAim addr (Send c ∷ es) = AllAim addr es
AllAim addr (Tick ∷ es) = AllAim addr es
AllAim addr (Deliver number ∷ es) = AllAim addr es
AllAim addr (Finish c ∷ es) = AllAim addr es
AllAim addr (Inject to_leader lane ∷ es) = AllAim addr es

aim_append : (addr : ℕ → ℕ) (xs ys : List tokens.Event) → AllAim addr xs → AllAim addr ys → AllAim addr (xs ++ ys)
aim_append addr [] ys h k = k
aim_append addr (Ask c r ∷ es) ys h k = (h.0, aim_append addr es ys h.1 k)
aim_append addr (Send c ∷ es) ys h k = aim_append addr es ys h k
aim_append addr (Tick ∷ es) ys h k = aim_append addr es ys h k
aim_append addr (Deliver number ∷ es) ys h k = aim_append addr es ys h k
aim_append addr (Finish c ∷ es) ys h k = aim_append addr es ys h k
aim_append addr (Inject to_leader lane ∷ es) ys h k = aim_append addr es ys h k

asked_aims : (addr : ℕ → ℕ) (c : ℕ) (es : List tokens.Event) (i : ℕ) (r : Request) → AllAim addr es → slice_get (asked_by c es) i ≡ Some r → Aims addr r
unfolding asked_by
asked_aims addr c [] i r h e = absurd (cc e)
asked_aims addr c (Ask d q ∷ es) i r h e =
    cond_both {A = List Request} (nat_eq c d) (q ∷ []) [] (λ front. slice_get (front ++ asked_by c es) i ≡ Some r → Aims addr r)
    (λ t. here i (λ k. asked_aims addr c es k r h.1)) (λ t e. asked_aims addr c es i r h.1 e) e
  where
    here : (i : ℕ) → ((k : ℕ) → slice_get (asked_by c es) k ≡ Some r → Aims addr r) → slice_get (q ∷ asked_by c es) i ≡ Some r → Aims addr r
    here zero rest e = let same : q ≡ r = cc in subst (Aims addr) same h.0
    here (suc i) rest e = rest i e
asked_aims addr c (Send d ∷ es) i r h e = asked_aims addr c es i r h e
asked_aims addr c (Tick ∷ es) i r h e = asked_aims addr c es i r h e
asked_aims addr c (Deliver number ∷ es) i r h e = asked_aims addr c es i r h e
asked_aims addr c (Finish d ∷ es) i r h e = asked_aims addr c es i r h e
asked_aims addr c (Inject to_leader lane ∷ es) i r h e = asked_aims addr c es i r h e

module _ (addr : ℕ → ℕ) (apart : (i j : ℕ) → i < 64 → j < 64 → addr i ≡ addr j → i ≡ j) (message : ℕ → List ℕ) where
  registers_aim : (k : ℕ) → AllAim addr (registers (λ n. no_act) addr apart k)
  registers_aim zero = tt
  registers_aim (suc k) = aim_append addr (registers (λ n. no_act) addr apart k) _ (registers_aim k) (tt, tt)

  writes_aim : (k : ℕ) → AllAim addr (writes_of (λ n. no_act) addr apart message k)
  writes_aim zero = tt
  writes_aim (suc j) = aim_append addr (writes_of (λ n. no_act) addr apart message j) _ (writes_aim j) ((11 * j % 64, omega arith, refl), tt)

  reads_aim : (k : ℕ) → AllAim addr (reads_of (λ n. no_act) addr apart k)
  reads_aim zero = tt
  reads_aim (suc k) = aim_append addr (reads_of (λ n. no_act) addr apart k) _ (reads_aim k) (tt, tt)

  abbrev pub mill_tokens : ℕ → List tokens.Event
  mill_tokens n =
      (registers (λ n. no_act) addr apart 64 ++ writes_of (λ n. no_act) addr apart message n) ++ reads_of (λ n. no_act) addr apart 64

  all_aim : (n : ℕ) → AllAim addr (mill_tokens n)
  all_aim n =
      let o = λ (n : ℕ). no_act in
      aim_append addr (registers o addr apart 64 ++ writes_of o addr apart message n) (reads_of o addr apart 64)
      (aim_append addr (registers o addr apart 64) (writes_of o addr apart message n) (registers_aim 64) (writes_aim n)) (reads_aim 64)

  pub mill_comes : (settings : Settings) (seed : List ℕ) (events : List Event) (n : ℕ) → settings.boxes ≡ 64 → settings.window ≡ 1
      → KeepsLimits settings.width settings.boxes settings.lanes settings.window → AreOfClients settings events → length events ≤ 20000
      → token_events events ≡ mill_tokens n → ComesTo n (frame_run settings seed events)
  mill_comes settings seed events n boxes window limits fit few same =
      let o = λ (n : ℕ). no_act in
      let w = token_run o settings no_lane events in
      let b = history settings seed w in
      let f = frame_run settings seed events in
      let m : Milled addr 64 n 64 w =
      subst (Milled addr 64 n 64) (ap (tokens.run o (start settings.width 64 1 no_lane)) (sym same)
      ∙ ap (λ l. tokens.run o (start settings.width l 1 no_lane) (token_events events)) (sym boxes)
      ∙ ap (λ l. tokens.run o (start settings.width settings.boxes l no_lane) (token_events events)) (sym window))
      (milled o addr apart message settings.width no_lane n (λ c. refl)) in
      let all = whole o settings seed events limits fit few in
      let room : 0 < settings.window = omega (arith, window) in
      let asked = (requests_were_asked o settings.width settings.boxes settings.window no_lane (token_events events) room).sent in
      let aims : (c s target : ℕ) (x : List ℕ) → request_of b c s ≡ Some (Write target x) → (j : ℕ) × (j < 64) × (addr j ≡ target) =
      λ c s target x e. let r = asked c (s - 1) (Write target x) e in
      asked_aims addr c (token_events events) r.0 (Write target x) (subst (AllAim addr) (sym same) (all_aim n)) r.1 in
      let prefix = is_prefix o settings.width settings.boxes settings.window no_lane (token_events events) room in
      let plain = (boxes_at_end o settings seed events limits fit few).accepted in
      let told = outcomes_at_end o settings seed events limits fit few in
      let outcomes = (follows_at_end o settings seed events limits fit few).outcomes in
      let each = λ (k : ℕ) (x : token.Outcome) (y : run.Outcome) (e : slice_get w.outcomes k ≡ Some x) (g : slice_get f.outcomes k ≡ Some y).
      told_as addr apart n b w all (clients_at_end o settings seed events limits fit few) m boxes plain aims prefix x y k e (told k y g) in
      let lines = m.lines in
      let journal = (journal_at_end o settings seed events limits fit few).count in
      record {
        registered = alike is_registered Registers tells_registered b w.outcomes f.outcomes outcomes each ∙ m.registered;
        accepted = alike is_accepted Begins tells_accepted b w.outcomes f.outcomes outcomes each ∙ m.begun;
        messages = alike is_message Reads tells_message b w.outcomes f.outcomes outcomes each ∙ m.read;
        journal = journal ∙ omega (arith, lines);
      }
