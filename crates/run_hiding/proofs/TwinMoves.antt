-- The moves of two runs that bring no token: what is alike stays alike.
use Rattle.std.proofs.Common.{◌≡◌, ◌∙◌, ◌<◌, ◌≤◌, ◌+◌, ◌⊎◌, ℕ, zero, suc, nat_eq, is_none, List, [], ◌∷◌, ◌++◌, length, Option, Some, None, Ok, Err, Result, slice_get, refl, sym, ap, subst, arith, inl, inr, append-nil}
use Rattle.std.proofs.lemmas.Bool.{cond_both}
use Rattle.mailbox_rules.specs.Requests.{Command, Entry, Line, Request}
use Rattle.token_rules.specs.Tokens as token
use Rattle.token_rules.specs.Tokens.{Token, World}
use Rattle.token_rules.specs.Run as tokens
use Rattle.token_rules.specs.Run.{client_sends, frame_of, goes_on, is_refused, notes, own_of, resends, ticks}
use Rattle.step_rules.specs.Client as client
use Rattle.step_rules.specs.Client.{Client, Fault}
use Rattle.step_rules.specs.ClientAsks.{asked}
use Rattle.step_rules.specs.Helper.{Helper}
use Rattle.step_rules.specs.HelperCommands.{kept_for}
use Rattle.run_rules.specs.Letters.{FrameWorld, Letter, NoOwnBox}
use Rattle.run_rules.specs.Run as frames
use Rattle.run_rules.specs.Book.{Book, Brought}
use Rattle.run_rules.specs.Acts.{Both}
use Rattle.run_rules.specs.Plain.{IsHistory}
use Rattle.run_rules.proofs.Basics.{pools_length}
use Rattle.run_hiding.specs.Flow.{flow}
use Rattle.run_hiding.proofs.OtherRows.{went_leader}
use Rattle.run_hiding.proofs.Twins.{Alike, LikeHelperRows, LikeLeaderRows, LikeLetters, LikeBytes, LikePools, Paired}

-- a token whose letters need not be alike
abbrev pub IsFree : Token → Type 0
IsFree (token.Injected to_leader lane) = ⊥
IsFree (token.Replied n x) = ⊥
IsFree t = Unit {0}

abbrev pub AreFree : List Token → Type 0
AreFree [] = Unit {0}
AreFree (t ∷ ts) = IsFree t × AreFree ts

free_at : (ts : List Token) (j : ℕ) (t : Token) → AreFree ts → slice_get ts j ≡ Some t → IsFree t
free_at [] j t h e = absurd (cc e)
free_at (x ∷ ts) zero t h e = let same : x ≡ t = cc e in subst IsFree same h.0
free_at (x ∷ ts) (suc j) t h e = free_at ts j t h.1 e

pub record Sends (w u : World) : Type 0 where
  pub more : List Token
  pub pool : u.pool ≡ w.pool ++ more
  pub free : AreFree more
  pub commands : u.commands ≡ w.commands
  pub journal : u.journal ≡ w.journal

free_frames : (n c s : ℕ) (y : Command) → AreFree (frame_of n c s y)
unfolding frame_of
free_frames zero c s y = tt
free_frames (suc zero) c s y = (tt, tt)
free_frames (suc (suc zero)) c s y = (tt, tt)
free_frames (suc (suc (suc zero))) c s y = (tt, tt)
free_frames (suc (suc (suc (suc n)))) c s y = (tt, tt)

nothing : (w : World) → Sends w w
nothing w = record { more = []; pool = sym (append-nil w.pool); free = tt; commands = refl; journal = refl }

pub sends_more : (w : World) (c : ℕ) → Sends w (client_sends w c)
unfolding client_sends
sends_more w c = cond_both {A = World} (w.foreign c) _ _ (Sends w) (λ e. nothing w)
    (λ e. record { more = frame_of (w.lanes c).step c (w.lanes c).serial (w.lanes c).opening; pool = refl; free = free_frames (w.lanes c).step c (w.lanes c).serial (w.lanes c).opening; commands = refl; journal = refl })

resends_more : (w : World) (x : Option Line) → Sends w (resends w x)
unfolding resends
resends_more w (Some x) = record { more = token.Ordered (w.acknowledged + 1) x ∷ []; pool = refl; free = (tt, tt); commands = refl; journal = refl }
resends_more w None = nothing w

pub ticks_more : (w : World) → Sends w (ticks w)
unfolding ticks
ticks_more w = resends_more w (slice_get w.commands w.acknowledged)

went_more : (w u : World) (c : ℕ) (rs : List Request) → Sends w u → Sends w (goes_on u c rs)
unfolding goes_on
went_more w u c [] h = record { more = h.more; pool = h.pool; free = h.free; commands = h.commands; journal = h.journal }
went_more w u c (r ∷ rest) h = cond_both {A = World} (is_refused u c r) _ _ (Sends w)
    (λ e. went_more w (notes u c (token.NoOwnBox (own_of r))) c rest (record { more = h.more; pool = h.pool; free = h.free; commands = h.commands; journal = h.journal }))
    (λ e. record { more = h.more; pool = h.pool; free = h.free; commands = h.commands; journal = h.journal })

pub asks_more : (w : World) (c : ℕ) (r : Request) → Sends w (tokens.asks w c r)
unfolding tokens.asks
asks_more w c r = cond_both {A = World} (nat_eq (w.lanes c).step 0) _ _ (Sends w)
    (λ e. went_more w w c _ (nothing w)) (λ e. record { more = []; pool = sym (append-nil w.pool); free = tt; commands = refl; journal = refl })

-- ---- what clients do leaves the servers

went_helper : (f : FrameWorld) (c : ℕ) (rs : List Request) → (frames.goes_on f c rs).helper ≡ f.helper
unfolding frames.goes_on frames.was_asked
went_helper f c [] = refl
went_helper f c (r ∷ rest) = at_asked (asked (f.clients c) r) (frames.goes_on (frames.notes f c (NoOwnBox (own_of r))) c rest) (went_helper (frames.notes f c (NoOwnBox (own_of r))) c rest)
  where
    at_asked : (a : Result Client Fault) (next : FrameWorld) → next.helper ≡ f.helper → (frames.was_asked f c rest next a).helper ≡ f.helper
    at_asked (Ok k) next e = refl
    at_asked (Err (client.NoBox own)) next e = e
    at_asked (Err client.Busy) next e = refl
    at_asked (Err client.Spent) next e = refl
    at_asked (Err (client.Width width)) next e = refl
    at_asked (Err (client.OwnFull n)) next e = refl

pub asks_helper : (f : FrameWorld) (c : ℕ) (r : Request) → (frames.asks f c r).helper ≡ f.helper
asks_helper f c r = cond_both {A = FrameWorld} (is_none (f.clients c).current) _ _ (λ g. g.helper ≡ f.helper) (λ e. went_helper f c _) (λ e. refl)

pub asks_leader : (f : FrameWorld) (c : ℕ) (r : Request) → (frames.asks f c r).leader ≡ f.leader
asks_leader f c r = cond_both {A = FrameWorld} (is_none (f.clients c).current) _ _ (λ g. g.leader ≡ f.leader) (λ e. went_leader f c _) (λ e. refl)

-- ---- what is alike stays

pub record Posted (f g : FrameWorld) : Type 0 where
  pub more : List Letter
  pub pool : g.pool ≡ f.pool ++ more
  pub helper : g.helper ≡ f.helper
  pub leader : g.leader ≡ f.leader

back_of : {X : Type 0} (xs ys : List X) (j : ℕ) (x : X) → slice_get (xs ++ ys) j ≡ Some x → ((j < length xs) × (slice_get xs j ≡ Some x)) ⊎ ((n : ℕ) × ((j ≡ length xs + n) × (slice_get ys n ≡ Some x)))
back_of [] ys j x e = inr (j, (omega arith, e))
back_of (y ∷ xs) ys zero x e = inl (omega arith, e)
back_of (y ∷ xs) ys (suc j) x e = elim (back_of xs ys j x e) [
  | inl f ↦ let low = f.0 in inl (omega (arith, low), f.1)
  | inr f ↦ let at = f.1.0 in inr (f.0, (omega (arith, at), f.1.1))
]

module _ (b : Book) (sent : ℕ → List Request) (commands : List Line) (entries : List Entry) (brought : Brought) (v z : World) (history : IsHistory b)
    (s t s' t' : Both) (pair : Paired b sent commands entries brought v z history s t) (alike : Alike b sent commands entries brought v z history s t)
    (flows : flow t'.world ≡ flow s'.world) (acts : t'.acts ≡ s'.acts) (taken : t'.taken ≡ s'.taken)
    (one : Posted s.frames s'.frames) (two : Posted t.frames t'.frames)
    (more : List Token) (pool : s'.world.pool ≡ s.world.pool ++ more) (lines : s'.world.commands ≡ s.world.commands) (journal : s'.world.journal ≡ s.world.journal)
    (fresh : (j : ℕ) (y : Token) (l m : Letter) → slice_get more j ≡ Some y → slice_get one.more j ≡ Some l → slice_get two.more j ≡ Some m → LikeLetters b sent commands entries brought v z history y l m) where
  abbrev d : Book
  d = record b { sent = sent; commands = commands; entries = entries; brought = brought }

  count : length s.frames.pool ≡ length s.world.pool
  count = pools_length b s.world.pool s.frames.pool pair.follows.pool

  other_count : length t.frames.pool ≡ length s.world.pool
  other_count = pools_length d t.world.pool t.frames.pool pair.others.pool ∙ ap (λ (y : World). length y.pool) alike.flow

  pools : LikePools b sent commands entries brought v z history s'.world s'.frames t'.frames
  pools j y l m is first second = elim (back_of s.world.pool more j y (ap (λ p. slice_get p j) (sym pool) ∙ is)) [
    | inl old ↦ elim (back_of s.frames.pool one.more j l (ap (λ p. slice_get p j) (sym one.pool) ∙ first)) [
      | inl mine ↦ elim (back_of t.frames.pool two.more j m (ap (λ p. slice_get p j) (sym two.pool) ∙ second)) [
        | inl theirs ↦ alike.pool j y l m old.1 mine.1 theirs.1
        | inr late ↦ let a = old.0 in let e = late.1.0 in let c = other_count in absurd (omega (arith, a, e, c))
      ]
      | inr late ↦ let a = old.0 in let e = late.1.0 in let c = count in absurd (omega (arith, a, e, c))
    ]
    | inr new ↦ elim (back_of s.frames.pool one.more j l (ap (λ p. slice_get p j) (sym one.pool) ∙ first)) [
      | inl early ↦ let a = early.0 in let e = new.1.0 in let c = count in absurd (omega (arith, a, e, c))
      | inr mine ↦ elim (back_of t.frames.pool two.more j m (ap (λ p. slice_get p j) (sym two.pool) ∙ second)) [
        | inl early ↦ let a = early.0 in let e = new.1.0 in let c = other_count in absurd (omega (arith, a, e, c))
        | inr theirs ↦
            let a = new.1.0 in
            let e = mine.1.0 in
            let c = theirs.1.0 in
            let x = count in
            let q = other_count in
            fresh new.0 y l m new.1.1 (subst (λ n. slice_get one.more n ≡ Some l) (omega (arith, a, e, x)) mine.1.1) (subst (λ n. slice_get two.more n ≡ Some m) (omega (arith, a, c, q)) theirs.1.1)
      ]
    ]
  ]

  pub moved_alike : Alike b sent commands entries brought v z history s' t'
  moved_alike = record {
    flow = flows;
    acts = acts;
    taken = taken;
    helper = subst (λ h. LikeHelperRows b sent commands entries brought v z history h t'.frames.helper) (sym one.helper)
        (subst (λ h. LikeHelperRows b sent commands entries brought v z history s.frames.helper h) (sym two.helper) alike.helper);
    leader = subst (λ a. LikeLeaderRows b sent commands entries brought v z history a t'.frames.leader) (sym one.leader)
        (subst (λ a. LikeLeaderRows b sent commands entries brought v z history s.frames.leader a) (sym two.leader) alike.leader);
    pool = pools;
    kept = λ n place x next is foreign.
        subst (λ (h : Helper). n ≤ h.carried → h.carried + 1 ≤ n + length h.replies → h.carried + 1 ≤ n + length t'.frames.helper.replies → LikeBytes (kept_for h n) (kept_for t'.frames.helper n)) (sym one.helper)
        (subst (λ (k : Helper). n ≤ s.frames.helper.carried → s.frames.helper.carried + 1 ≤ n + length s.frames.helper.replies → s.frames.helper.carried + 1 ≤ n + length k.replies → LikeBytes (kept_for s.frames.helper n) (kept_for k n)) (sym two.helper)
        (alike.kept n place x next (ap (λ cs. slice_get cs place) (sym lines) ∙ is) foreign));
    orders = λ k x is. alike.orders k x (ap (λ cs. slice_get cs k) (sym lines) ∙ is);
    keys = λ k e address is. alike.keys k e address (ap (λ es. slice_get es k) (sym journal) ∙ is);
  }

pub free_letters : (b : Book) (sent : ℕ → List Request) (commands : List Line) (entries : List Entry) (brought : Brought) (v z : World) (history : IsHistory b)
    (more : List Token) → AreFree more → (j : ℕ) (y : Token) (l m : Letter) → slice_get more j ≡ Some y → LikeLetters b sent commands entries brought v z history y l m
free_letters b sent commands entries brought v z history more free j y l m is = by_token y (free_at more j y free is)
  where
    by_token : (y : Token) → IsFree y → LikeLetters b sent commands entries brought v z history y l m
    by_token (token.Injected to_leader lane) h = absurd h
    by_token (token.Replied n x) h = absurd h
    by_token (token.Deposit c n) h = tt
    by_token (token.Submission c n y) h = tt
    by_token (token.ProofToHelper c n) h = tt
    by_token (token.ProofToLeader c n) h = tt
    by_token (token.Ordered n x) h = tt
    by_token (token.HeldDeposit c n) h = tt
    by_token (token.HeldProof c n) h = tt
    by_token (token.Challenge c n) h = tt
    by_token (token.Answer c n) h = tt
    by_token (token.Later c n) h = tt
    by_token (token.Foreign c) h = tt
