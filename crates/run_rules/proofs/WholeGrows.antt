-- How much a move adds: one command at the most, no request, and no bytes from outside.
use Rattle.std.proofs.Common.{◌≡◌, ◌≢◌, ◌≤◌, ◌+◌, ◌*◌, ◌-◌, ℕ, zero, suc, Bool, true, false, nat_eq, nat_lt, ◌&&◌, List, [], ◌∷◌, ◌++◌, length, Option, Some, None, slice_get, refl, sym, ap, ◌∙◌, subst, arith, length-append, inl, inr}
use Rattle.std.proofs.lemmas.Bool.{cond_both, cases_eq}
use Rattle.mailbox_rules.specs.Requests.{Line, Request, Command}
use Rattle.token_rules.specs.Tokens.{Act, Answer, Answered, Challenge, Deposit, Foreign, HeldDeposit, HeldProof, Injected, Later, NoOwnBox, Oracle, Ordered, Phase, Begun, Challenged, Deposited, Done, Idle, Proved, Audited, Waiting, Auditing, ProofToHelper, ProofToLeader, Replied, Row, Submission, Token, World, Requests}
use Rattle.token_rules.specs.Rows.{Arrival, ClientDoes, ClientHears, Finishes, GoesOn, HeardAnswer, HeardChallenge, HeardHeldDeposit, HeardHeldProof, HelperSays, HelperNothing, HelperLater, HelperHeldDeposit, HelperHeldProof, Kept, LeaderIssues, LeaderKept, LeaderLater, LeaderNothing, LeaderSays, Next, Passed, Stays, client_does}
use Rattle.token_rules.specs.Run.{acted, asks, carries_next, client_hears, client_moves, client_sends, comes, command_comes, delivers, delivers_at, drain_round, drained, drains, finish_round, finished, finishes, foreign_acks, foreign_at_leader, foreign_frame_comes, foreign_reply_comes, foreign_tokens, frame_of, goes_on, handed_last, has_settle, helper_tokens, injected_comes, is_full, is_refused, kept, leader_says, line_of, notes, own_of, reply_applied, reply_comes, resends, sent_and_drained, ticks, waits}
use Rattle.token_rules.specs.Lawful.{Lawful}
use Rattle.token_rules.proofs.Lawful.{moves_keep}
use Rattle.run_rules.proofs.Basics.{put_here, put_other}

-- a server or a client made the token
abbrev pub IsOwn : Token → Type 0
IsOwn (Injected to_leader lane) = ⊥
IsOwn token = Unit {0}

abbrev pub AreOwn : List Token → Type 0
AreOwn [] = Unit {0}
AreOwn (t ∷ ts) = IsOwn t × AreOwn ts

own_append : (ts us : List Token) → AreOwn ts → AreOwn us → AreOwn (ts ++ us)
own_append [] us h k = k
own_append (t ∷ ts) us h k = (h.0, own_append ts us h.1 k)

pub own_at : (ts : List Token) (i : ℕ) (t : Token) → AreOwn ts → slice_get ts i ≡ Some t → IsOwn t
own_at (u ∷ ts) zero t h e = let same : u ≡ t = cc in subst IsOwn same h.0
own_at (u ∷ ts) (suc i) t h e = own_at ts i t h.1 e
own_at [] i t h e = absurd (cc e)

-- a client's requests, sent and waiting
abbrev pub load : Requests → ℕ
load r = length r.sent + length r.waiting

-- so many commands are added at the most, and neither requests nor bytes from outside
pub record Grown (k : ℕ) (w v : World) : Type 0 where
  pub own : AreOwn w.pool → AreOwn v.pool
  pub commands : length v.commands ≤ length w.commands + k
  pub load : (c : ℕ) → load (v.requests c) ≤ load (w.requests c)
  pub window : v.window ≡ w.window
  pub foreign : v.foreign ≡ w.foreign
  pub misfits : ((c : ℕ) → w.foreign c ≡ false) → v.misfits ≡ w.misfits

pub grown_then : (k m : ℕ) (w u v : World) → Grown k w u → Grown m u v → Grown (k + m) w v
grown_then k m w u v h g = record {
  own = λ own. g.own (h.own own);
  commands = let a = h.commands in let b = g.commands in omega (arith, a, b);
  load = λ c. let a = h.load c in let b = g.load c in omega (arith, a, b);
  window = g.window ∙ h.window;
  foreign = g.foreign ∙ h.foreign;
  misfits = λ honest. g.misfits (λ c. ap (λ f. f c) h.foreign ∙ honest c) ∙ h.misfits honest;
}

pub grown_more : (k m : ℕ) (w v : World) → k ≤ m → Grown k w v → Grown m w v
grown_more k m w v le h = record { own = h.own; commands = let a = h.commands in omega (arith, a, le); load = h.load; window = h.window; foreign = h.foreign; misfits = h.misfits }

pub still : (k : ℕ) (w : World) → Grown k w w
still k w = record { own = λ own. own; commands = omega arith; load = λ c. omega arith; window = refl; foreign = refl; misfits = λ honest. refl }

-- tokens are sent, and the rest but the lanes stays
sent : (w : World) (ts : List Token) (v : World) → AreOwn ts → v.pool ≡ w.pool ++ ts → v.commands ≡ w.commands
    → v.requests ≡ w.requests → v.window ≡ w.window → v.foreign ≡ w.foreign
    → (((c : ℕ) → w.foreign c ≡ false) → v.misfits ≡ w.misfits) → Grown 1 w v
sent w ts v own pool commands requests window foreign misfits = record {
  own = λ all. subst AreOwn (sym pool) (own_append w.pool ts all own);
  commands = let e = ap length commands in omega (arith, e);
  load = λ c. let e : load (v.requests c) ≡ load (w.requests c) = ap (λ r. load (r c)) requests in omega (arith, e);
  window = window;
  foreign = foreign;
  misfits = misfits;
}

-- a command is issued
issued : (w : World) (x : Line) (v : World) → v.pool ≡ w.pool ++ Ordered (length w.commands + 1) x ∷ []
    → v.commands ≡ w.commands ++ x ∷ [] → v.requests ≡ w.requests → v.window ≡ w.window → v.foreign ≡ w.foreign
    → (((c : ℕ) → w.foreign c ≡ false) → v.misfits ≡ w.misfits) → Grown 1 w v
issued w x v pool commands requests window foreign misfits = record {
  own = λ all. subst AreOwn (sym pool) (own_append w.pool _ all (tt, tt));
  commands = let e = ap length commands ∙ length-append w.commands (x ∷ []) in omega (arith, e);
  load = λ c. let e : load (v.requests c) ≡ load (w.requests c) = ap (λ r. load (r c)) requests in omega (arith, e);
  window = window;
  foreign = foreign;
  misfits = misfits;
}

helper_own : (c s : ℕ) (says : HelperSays) → AreOwn (helper_tokens c s says)
helper_own c s HelperNothing = tt
helper_own c s HelperLater = (tt, tt)
helper_own c s HelperHeldDeposit = (tt, tt)
helper_own c s HelperHeldProof = (tt, tt)

foreign_own : (o : Option ℕ) → AreOwn (foreign_tokens o)
foreign_own None = tt
foreign_own (Some c) = (tt, tt)

kept_own : (c s : ℕ) (x : Phase) → AreOwn (kept c s x)
kept_own c s Challenged = (tt, tt)
kept_own c s Done = (tt, tt)
kept_own c s Idle = tt
kept_own c s Deposited = tt
kept_own c s Begun = tt
kept_own c s Proved = tt
kept_own c s Audited = tt
kept_own c s Waiting = tt
kept_own c s Auditing = tt

-- ---- what comes to a server

carried_grows : (o : Oracle) (w : World) (x : Line) → Grown 1 w (carries_next o w x)
unfolding carries_next
carried_grows o w x = cond_both {A = World} (w.foreign x.lane) _ _ (Grown 1 w)
    (λ e. sent w (Replied (w.carried + 1) x ∷ []) _ (tt, tt) refl refl refl refl refl (λ honest. refl))
    (λ e. sent w (Replied (w.carried + 1) x ∷ []) _ (tt, tt) refl refl refl refl refl (λ honest. refl))

command_grows : (o : Oracle) (w : World) (n : ℕ) (x : Line) (a : Arrival) → Grown 1 w (command_comes o w n x a)
unfolding command_comes
command_grows o w n x Next = carried_grows o w x
command_grows o w n x Kept = sent w (Replied n x ∷ []) _ (tt, tt) refl refl refl refl refl (λ honest. refl)
command_grows o w n x Passed = still 1 w

-- over a world that differs from w in lanes and counts alone
says_grow : (w u : World) (c s : ℕ) (x : Phase) (says : LeaderSays) → u.pool ≡ w.pool → u.commands ≡ w.commands
    → u.requests ≡ w.requests → u.window ≡ w.window → u.foreign ≡ w.foreign
    → (((c : ℕ) → w.foreign c ≡ false) → u.misfits ≡ w.misfits) → Grown 1 w (leader_says u c s x says)
unfolding leader_says
says_grow w u c s x LeaderNothing p k r v e m = sent w [] u tt (p ∙ sym (nil_right w.pool)) k r v e m
  where
    nil_right : (ts : List Token) → ts ++ [] ≡ ts
    nil_right [] = refl
    nil_right (t ∷ ts) = ap (λ l. t ∷ l) (nil_right ts)
says_grow w u c s x LeaderLater p k r v e m = sent w (Later c s ∷ []) _ (tt, tt) (ap (λ l. l ++ Later c s ∷ []) p) k r v e m
says_grow w u c s x LeaderKept p k r v e m = sent w (kept c s x) _ (kept_own c s x) (ap (λ l. l ++ kept c s x) p) k r v e m
says_grow w u c s x (LeaderIssues y) p k r v e m =
    let line = line_of c s y in
    issued w line _
    (ap (λ l. l ++ Ordered (length u.commands + 1) line ∷ []) p ∙ ap (λ (cs : List Line). w.pool ++ Ordered (length cs + 1) line ∷ []) k)
    (ap (λ l. l ++ line ∷ []) k) r v e m

acks_grow : (w : World) (x : Line) (r : Row) (settles : Bool) → Grown 1 w (foreign_acks w x r settles)
unfolding foreign_acks
acks_grow w x r true = issued w _ _ refl refl refl refl refl (λ honest. refl)
acks_grow w x r false = sent w (Foreign x.lane ∷ []) _ (tt, tt) refl refl refl refl refl (λ honest. refl)

-- what happens to a foreign lane says nothing where no lane is foreign
record Adds (w v : World) : Type 0 where
  pub own : AreOwn w.pool → AreOwn v.pool
  pub commands : length v.commands ≤ length w.commands + 1
  pub load : (c : ℕ) → load (v.requests c) ≤ load (w.requests c)
  pub window : v.window ≡ w.window
  pub foreign : v.foreign ≡ w.foreign

never : (w v : World) (c : ℕ) → w.foreign c ≡ true → Adds w v → Grown 1 w v
never w v c e h = record {
  own = h.own;
  commands = h.commands;
  load = h.load;
  window = h.window;
  foreign = h.foreign;
  misfits = λ honest. absurd (cc (e, honest c));
}

applied_grows : (o : Oracle) (w : World) (x : Line) → Grown 1 w (reply_applied o w x)
unfolding reply_applied foreign_reply_comes
applied_grows o w x = cond_both {A = World} (w.foreign x.lane) _ _ (Grown 1 w)
    (λ e. never w _ x.lane e (cond_both {A = World} (o w.moment).fits _ _ (Adds w)
    (λ f. let g = acks_grow (acted w) x (o w.moment).row (has_settle x.command (o w.moment).settles) in record { own = g.own; commands = g.commands; load = g.load; window = g.window; foreign = g.foreign })
    (λ f. let g = still 1 w in record { own = g.own; commands = g.commands; load = g.load; window = g.window; foreign = g.foreign })))
    (λ e. says_grow w _ x.lane x.serial _ _ refl refl refl refl refl (λ honest. refl))

reply_grows : (o : Oracle) (w : World) (n : ℕ) (x : Line) → Grown 1 w (reply_comes o w n x)
unfolding reply_comes
reply_grows o w n x = cond_both {A = World} (nat_eq n (w.acknowledged + 1) && nat_lt w.acknowledged (length w.commands)) _ _ (Grown 1 w)
    (λ e. applied_grows o w x) (λ e. still 1 w)

at_leader_grows : (w : World) (c : ℕ) (r : Row) (says : Option ℕ) (y : Option Command) → Grown 1 w (foreign_at_leader w c r says y)
unfolding foreign_at_leader
at_leader_grows w c r says (Some y) = issued w _ _ refl refl refl refl refl (λ honest. refl)
at_leader_grows w c r says None = sent w (foreign_tokens says) _ (foreign_own says) refl refl refl refl refl (λ honest. refl)

frame_grows : (w : World) (to_leader : Bool) (c : ℕ) (act : Act) → Grown 1 w (foreign_frame_comes (acted w) to_leader c act)
unfolding foreign_frame_comes
frame_grows w false c act = sent w (foreign_tokens act.says) _ (foreign_own act.says) refl refl refl refl refl (λ honest. refl)
frame_grows w true c act = cond_both {A = World} (is_full (acted w)) _ _ (Grown 1 w)
    (λ e. sent w (foreign_tokens act.says) _ (foreign_own act.says) refl refl refl refl refl (λ honest. refl))
    (λ e. let g = at_leader_grows (acted w) c act.row act.says act.issues in record { own = g.own; commands = g.commands; load = g.load; window = g.window; foreign = g.foreign; misfits = g.misfits })

injected_grows : (o : Oracle) (w : World) (to_leader : Bool) (lane : Option ℕ) → Grown 1 w (injected_comes o w to_leader lane)
unfolding injected_comes
injected_grows o w to_leader None = sent w (Foreign 0 ∷ []) _ (tt, tt) refl refl refl refl refl (λ honest. refl)
injected_grows o w to_leader (Some c) = cond_both {A = World} (w.foreign c) _ _ (Grown 1 w)
    (λ e. frame_grows w to_leader c (o w.moment)) (λ e. still 1 w)

-- ---- what comes to a client

-- a client that goes on with these requests takes some of them, and the others wait
record Goes (w : World) (c : ℕ) (rs : List Request) (v : World) : Type 0 where
  pub pool : v.pool ≡ w.pool
  pub commands : v.commands ≡ w.commands
  pub mine : load (v.requests c) ≤ length (w.requests c).sent + length rs
  pub others : (d : ℕ) → d ≢ c → load (v.requests d) ≡ load (w.requests d)
  pub window : v.window ≡ w.window
  pub foreign : v.foreign ≡ w.foreign
  pub misfits : v.misfits ≡ w.misfits

goes_waiting : (w : World) (c : ℕ) (rs : List Request) → Goes w c rs (waits w c rs)
goes_waiting w c rs =
    let mine : Requests = record (w.requests c) { waiting = rs } in
    let here = ap load (put_here w.requests c mine) in
    record {
      pool = refl;
      commands = refl;
      mine = omega (arith, here);
      others = λ d n. ap load (put_other w.requests c mine d n);
      window = refl;
      foreign = refl;
      misfits = refl;
    }

goes : (w : World) (c : ℕ) (rs : List Request) → Goes w c rs (goes_on w c rs)
unfolding goes_on
goes w c [] = goes_waiting w c []
goes w c (r ∷ rest) = cond_both {A = World} (is_refused w c r) _ _ (Goes w c (r ∷ rest))
    (λ e.
    let told : Requests = record (w.requests c) { told = (w.requests c).told + 1 } in
    let here : (notes w c (NoOwnBox (own_of r))).requests c ≡ told = put_here w.requests c told in
    let sent_here = ap (λ (r : Requests). length r.sent) here in
    let g = goes (notes w c (NoOwnBox (own_of r))) c rest in
    let mine = g.mine in
    record {
      pool = g.pool;
      commands = g.commands;
      mine = omega (arith, mine, sent_here);
      others = λ d n. g.others d n ∙ ap load (put_other w.requests c told d n);
      window = g.window;
      foreign = g.foreign;
      misfits = g.misfits;
    })
    (λ e.
    let mine : Requests = record (w.requests c) { sent = (w.requests c).sent ++ r ∷ []; waiting = rest } in
    let here = ap load (put_here w.requests c mine) in
    let more = length-append (w.requests c).sent (r ∷ []) in
    record {
      pool = refl;
      commands = refl;
      mine = omega (arith, here, more);
      others = λ d n. ap load (put_other w.requests c mine d n);
      window = refl;
      foreign = refl;
      misfits = refl;
    })

moves_grow : (w : World) (c s : ℕ) (does : ClientDoes) → Grown 1 w (client_moves w c s does)
unfolding client_moves
moves_grow w c s Stays = still 1 w
moves_grow w c s GoesOn = record { own = λ own. own; commands = omega arith; load = λ d. omega arith; window = refl; foreign = refl; misfits = λ honest. refl }
moves_grow w c s Finishes =
    let ended = Answered s (w.lanes c).opening in
    let told : Requests = record (w.requests c) { told = (w.requests c).told + 1 } in
    let here : (notes w c ended).requests c ≡ told = put_here w.requests c told in
    let sent_here = ap (λ (r : Requests). length r.sent) here in
    let g = goes (notes w c ended) c (w.requests c).waiting in
    record {
      own = λ all. subst AreOwn (sym g.pool) all;
      commands = let e = ap length g.commands in omega (arith, e);
      load = λ d. elim (cases_eq d c) [
        | inl same ↦
            let mine = g.mine in
            let at : load ((client_moves w c s Finishes).requests d) ≡ load ((client_moves w c s Finishes).requests c) = ap (λ i. load ((client_moves w c s Finishes).requests i)) same in
            let was : load (w.requests d) ≡ load (w.requests c) = ap (λ i. load (w.requests i)) same in
            omega (arith, mine, sent_here, at, was)
        | inr other ↦ let e = g.others d other ∙ ap load (put_other w.requests c told d other) in omega (arith, e)
      ];
      window = g.window;
      foreign = g.foreign;
      misfits = λ honest. g.misfits;
    }

hears_grow : (w : World) (c s : ℕ) (heard : ClientHears) → Grown 1 w (client_hears w c s heard)
unfolding client_hears
hears_grow w c s heard = cond_both {A = World} (nat_eq s (w.lanes c).serial) _ _ (Grown 1 w)
    (λ e. moves_grow w c s (client_does heard (w.lanes c).step)) (λ e. still 1 w)

-- ---- moves

pub comes_grow : (o : Oracle) (w : World) (t : Token) → Grown 1 w (comes o w t)
unfolding comes
comes_grow o w (Deposit c s) = sent w _ _ (helper_own c s _) refl refl refl refl refl (λ honest. refl)
comes_grow o w (ProofToHelper c s) = sent w _ _ (helper_own c s _) refl refl refl refl refl (λ honest. refl)
comes_grow o w (Ordered n x) = command_grows o w n x _
comes_grow o w (Submission c s y) = says_grow w _ c s _ _ refl refl refl refl refl (λ honest. refl)
comes_grow o w (ProofToLeader c s) = says_grow w _ c s _ _ refl refl refl refl refl (λ honest. refl)
comes_grow o w (Replied n x) = reply_grows o w n x
comes_grow o w (HeldDeposit c s) = hears_grow w c s HeardHeldDeposit
comes_grow o w (Challenge c s) = hears_grow w c s HeardChallenge
comes_grow o w (HeldProof c s) = hears_grow w c s HeardHeldProof
comes_grow o w (Answer c s) = hears_grow w c s HeardAnswer
comes_grow o w (Later c s) = still 1 w
comes_grow o w (Foreign c) = still 1 w
comes_grow o w (Injected to_leader lane) = injected_grows o w to_leader lane

found_grows : (o : Oracle) (w : World) (t : Option Token) → Grown 1 w (delivers o w t)
unfolding delivers
found_grows o w (Some t) = comes_grow o w t
found_grows o w None = still 1 w

pub delivers_grow : (o : Oracle) (w : World) (n : ℕ) → Grown 1 w (delivers_at o w n)
unfolding delivers_at
delivers_grow o w n = found_grows o w (slice_get w.pool n)

pub hands_grow : (o : Oracle) (w : World) (c before : ℕ) → Grown 1 w (handed_last o w c before)
unfolding handed_last
hands_grow o w c before = found_grows o w _

frames_own : (step c s : ℕ) (y : Command) → AreOwn (frame_of step c s y)
unfolding frame_of
frames_own zero c s y = tt
frames_own (suc zero) c s y = (tt, tt)
frames_own (suc (suc zero)) c s y = (tt, tt)
frames_own (suc (suc (suc zero))) c s y = (tt, tt)
frames_own (suc (suc (suc (suc n)))) c s y = (tt, tt)

pub sends_grow : (w : World) (c : ℕ) → Grown 1 w (client_sends w c)
unfolding client_sends
sends_grow w c = cond_both {A = World} (w.foreign c) _ _ (Grown 1 w) (λ e. still 1 w)
    (λ e. sent w _ _ (frames_own (w.lanes c).step c (w.lanes c).serial (w.lanes c).opening) refl refl refl refl refl (λ honest. refl))

resends_grow : (w : World) (x : Option Line) → Grown 1 w (resends w x)
unfolding resends
resends_grow w (Some x) = sent w _ _ (tt, tt) refl refl refl refl refl (λ honest. refl)
resends_grow w None = still 1 w

pub ticks_grow : (w : World) → Grown 1 w (ticks w)
unfolding ticks
ticks_grow w = resends_grow w (slice_get w.commands w.acknowledged)

-- ---- a finish

round_grows : (o : Oracle) (w : World) → Grown 3 w (drain_round o w)
unfolding drain_round
round_grows o w =
    grown_then 1 2 w _ _ (ticks_grow w)
    (grown_then 1 1 (ticks w) _ _ (delivers_grow o (ticks w) (length w.pool)) (delivers_grow o _ (length w.pool + 1)))

drains_grow : (o : Oracle) (rounds : ℕ) (w : World) → Grown (3 * rounds) w (drains o rounds w)
unfolding drains
drains_grow o zero w = still _ w
drains_grow o (suc rounds) w = cond_both {A = World} (nat_lt w.acknowledged (length w.commands)) _ _ (Grown (3 * suc rounds) w)
    (λ e. grown_more (3 + 3 * rounds) (3 * suc rounds) w _ (omega arith) (grown_then 3 (3 * rounds) w _ _ (round_grows o w) (drains_grow o rounds (drain_round o w))))
    (λ e. still _ w)

-- what is outstanding is at most the window, and an audit takes two rounds
drained_grows : (o : Oracle) (w : World) → Lawful w → w.window ≤ 32 → Grown 192 w (drained o w)
unfolding drained
drained_grows o w l small =
    let out = l.numbers.window in
    grown_more (3 * (2 * (length w.commands - w.acknowledged))) 192 w _ (omega (arith, out, small)) (drains_grow o (2 * (length w.commands - w.acknowledged)) w)

finish_round_grows : (o : Oracle) (w : World) (c : ℕ) → Lawful w → w.window ≤ 32 → Grown 400 w (finish_round o w c)
unfolding finish_round sent_and_drained
finish_round_grows o w c l small =
    let keep = moves_keep o in
    let n = length (drained o w).pool in
    let first = drained_grows o w l small in
    let sent_to = client_sends (drained o w) c in
    let there = delivers_at o sent_to n in
    let l1 = keep.drain o w l in
    let l3 = keep.deliver o sent_to n (keep.send (drained o w) c l1) in
    let second = grown_then 1 1 (drained o w) _ _ (sends_grow (drained o w) c) (delivers_grow o sent_to n) in
    let wide = second.window ∙ first.window in
    let third = drained_grows o there l3 (omega (arith, wide, small)) in
    grown_more 387 400 w _ (omega arith)
    (grown_then 192 195 w _ _ first
    (grown_then 2 193 (drained o w) _ _ second
    (grown_then 192 1 there _ _ third (hands_grow o (drained o there) c n))))

finishes_grow : (o : Oracle) (rounds : ℕ) (w : World) (c : ℕ) → Lawful w → w.window ≤ 32 → Grown (400 * rounds) w (finishes o rounds w c)
unfolding finishes
finishes_grow o zero w c l small = still _ w
finishes_grow o (suc rounds) w c l small =
    let first = finish_round_grows o w c l small in
    let next = finishes_grow o rounds (finish_round o w c) c ((moves_keep o).attempt o w c l) (let e = first.window in omega (arith, e, small)) in
    cond_both {A = World} (nat_eq (w.lanes c).step 0) _ _ (Grown (400 * suc rounds) w)
    (λ e. still _ w)
    (λ e. grown_more (400 + 400 * rounds) (400 * suc rounds) w _ (omega arith) (grown_then 400 (400 * rounds) w _ _ first next))

-- with so many requests of its client
pub finish_grows : (o : Oracle) (w : World) (c n : ℕ) → Lawful w → w.window ≤ 32 → load (w.requests c) ≤ n
    → Grown (1600 * (n + 1)) w (finished o w c)
unfolding finished
finish_grows o w c n l small few =
    grown_more (400 * (4 * (length (w.requests c).waiting + 1))) (1600 * (n + 1)) w _ (omega (arith, few))
    (finishes_grow o (4 * (length (w.requests c).waiting + 1)) w c l small)

-- ---- a request

-- one more request, and nothing else
pub record Asked (w : World) (v : World) : Type 0 where
  pub own : AreOwn w.pool → AreOwn v.pool
  pub commands : v.commands ≡ w.commands
  pub load : (d : ℕ) → load (v.requests d) ≤ load (w.requests d) + 1
  pub window : v.window ≡ w.window
  pub foreign : v.foreign ≡ w.foreign
  pub misfits : v.misfits ≡ w.misfits

pub asks_grow : (w : World) (c : ℕ) (r : Request) → Asked w (asks w c r)
unfolding asks
asks_grow w c r = cond_both {A = World} (nat_eq (w.lanes c).step 0) _ _ (Asked w)
    (λ e. gone (goes_on w c ((w.requests c).waiting ++ r ∷ [])) (goes w c ((w.requests c).waiting ++ r ∷ [])))
    (λ e. gone (waits w c ((w.requests c).waiting ++ r ∷ [])) (goes_waiting w c ((w.requests c).waiting ++ r ∷ [])))
  where
    gone : (v : World) → Goes w c ((w.requests c).waiting ++ r ∷ []) v → Asked w v
    gone v g = record {
      own = λ all. subst AreOwn (sym g.pool) all;
      commands = g.commands;
      load = λ d. elim (cases_eq d c) [
        | inl same ↦
            let at : load (v.requests d) ≡ load (v.requests c) = ap (λ i. load (v.requests i)) same in
            let was : load (w.requests d) ≡ load (w.requests c) = ap (λ i. load (w.requests i)) same in
            let mine = g.mine in
            let more = length-append (w.requests c).waiting (r ∷ []) in
            omega (arith, mine, at, was, more)
        | inr other ↦ let e = g.others d other in omega (arith, e)
      ];
      window = g.window;
      foreign = g.foreign;
      misfits = g.misfits;
    }
