-- The relation between the two runs through every event of a schedule with foreign lanes.
use Rattle.std.proofs.Common.{◌≡◌, ◌∙◌, ◌<◌, ◌≤◌, ◌⊎◌, ℕ, zero, suc, Bool, true, false, cond, nat_eq, List, [], ◌∷◌, ◌++◌, length, drop, Option, Some, None, Ok, Err, Result, All, is_none, slice_get, refl, sym, ap, subst, inl, inr, append_assoc, append-nil, arith}
use Rattle.std.proofs.lemmas.Bool.{cases_Bool, cases_eq, cond_both}
use Rattle.std.proofs.lemmas.Option.{slice_get_within}
use Rattle.express_words.specs.declared.refusal.Refusal.{Refusal}
use Rattle.frame_rules.specs.Frames.{PlainFrame}
use Rattle.frame_rules.specs.Spelling.{Spells}
use Rattle.frame_rules.specs.Whole.{is_from_client, whole}
use Rattle.frame_rules.proofs.WholeLaws.{whole_found}
use Rattle.step_rules.specs.Client as client
use Rattle.step_rules.specs.Client.{Client, Fault}
use Rattle.step_rules.specs.ClientAsks.{asked}
use Rattle.run_rules.specs.History.{lane_from_client}
use Rattle.run_rules.proofs.ClientStays.{injected_follows}
use Rattle.run_rules.proofs.GoesOn.{asks_follow}
use Rattle.run_rules.proofs.WholeRuns.{busy_asks, can_ask}
use Rattle.mailbox_rules.specs.Requests.{Line, Request}
use Rattle.token_rules.specs.Tokens as token
use Rattle.token_rules.specs.Tokens.{Token, World, Oracle, Act, no_act}
use Rattle.token_rules.specs.Run as tokens
use Rattle.token_rules.specs.Run.{asks, client_sends, comes, delivers, goes_on, is_refused, last_for, notes, resends, sends, ticks}
use Rattle.token_rules.specs.Driven.{finished_by}
use Rattle.token_rules.specs.Lawful.{Lawful}
use Rattle.token_rules.specs.Since.{Since}
use Rattle.token_rules.proofs.Lawful.{moves_keep}
use Rattle.token_rules.proofs.LeadOn.{moves_lead_on}
use Rattle.token_rules.proofs.Since.{since_itself}
use Rattle.token_rules.proofs.Lists.{get_more}
use Rattle.run_rules.specs.Letters.{Addressee, ToHelper, ToLeader, FrameWorld, Letter, NoOwnBox, letter}
use Rattle.run_rules.specs.Run as frames
use Rattle.run_rules.specs.Run.{Event, Ask, Send, Tick, Deliver, Show, Finish, Inject}
use Rattle.run_rules.specs.Book.{Book}
use Rattle.run_rules.specs.Follows.{Carries, Follows, IsInjected, Pools, Sound, Within}
use Rattle.run_rules.specs.Known.{IsWhole, Known}
use Rattle.run_rules.specs.Acts.{AreFitting, AreTaken, Both, IsFitting, act_at, acts_taken, taken_at, ForeignComesFollow, IsForeign, IsOutside, OutsideAt, Taken, act_of, both_ask, both_come, both_deliver, both_happen, both_hand, both_inject, both_moves, both_send, both_tick, run_both, taken_of}
use Rattle.run_rules.proofs.Asked.{Found, last_same, pools_drop, same_busy, same_idle, same_outstanding, same_size, same_waiting}
use Rattle.run_rules.proofs.Basics.{pools_length, whole_spelled}
use Rattle.run_rules.proofs.ForeignFits.{asks_fit, sends_fit, ticks_fit}
use Rattle.run_rules.proofs.Histories.{back_asks, back_sends, back_ticks, comes_extends, within_back}
use Rattle.run_rules.proofs.Honest as lanes
use Rattle.run_rules.proofs.Honest.{IsOfClient}
use Rattle.run_rules.proofs.Moves.{ticks_follow}
use Rattle.run_rules.proofs.WholeDrives.{finished_back, finished_keeps, finished_part}
use Rattle.run_rules.proofs.WholeGrows.{IsOwn, own_at}
use Rattle.run_rules.proofs.WholeMoves.{since_then}
use Rattle.run_rules.proofs.WholePools.{Adds, Posts, asks_add, asks_post, client_sends_post, comes_adds, comes_post, sends_add, ticks_add, ticks_post}

-- ---- what came from outside

abbrev pub Outside : (ℕ → Bool) → World → FrameWorld → Type 0
Outside foreign w f = (i : ℕ) (t : Token) (l : Letter) → slice_get w.pool i ≡ Some t → slice_get f.pool i ≡ Some l
    → OutsideAt foreign t l

own_outside : (foreign : ℕ → Bool) (t : Token) (l : Letter) → IsOwn t → OutsideAt foreign t l
own_outside foreign (token.Injected to_leader lane) l own = absurd own
own_outside foreign (token.Deposit c s) l own = tt
own_outside foreign (token.Submission c s y) l own = tt
own_outside foreign (token.ProofToHelper c s) l own = tt
own_outside foreign (token.ProofToLeader c s) l own = tt
own_outside foreign (token.Ordered n x) l own = tt
own_outside foreign (token.Replied n x) l own = tt
own_outside foreign (token.HeldDeposit c s) l own = tt
own_outside foreign (token.HeldProof c s) l own = tt
own_outside foreign (token.Challenge c s) l own = tt
own_outside foreign (token.Answer c s) l own = tt
own_outside foreign (token.Later c s) l own = tt
own_outside foreign (token.Foreign c) l own = tt

-- an element of two lists is one of the first or of the second
get_either : {X : Type 0} (xs ys : List X) (i : ℕ) (x : X) → slice_get (xs ++ ys) i ≡ Some x
    → (slice_get xs i ≡ Some x) ⊎ ((length xs ≤ i) × ((k : ℕ) × (slice_get ys k ≡ Some x)))
get_either [] ys i x e = inr (omega arith, (i, e))
get_either (y ∷ xs) ys zero x e = inl e
get_either (y ∷ xs) ys (suc i) x e = elim (get_either xs ys i x e) [
  | inl f ↦ inl f
  | inr f ↦ let low = f.0 in inr (omega (arith, low), f.1)
]

outside_more : (foreign : ℕ → Bool) (w v : World) (f g : FrameWorld) → length f.pool ≡ length w.pool → Outside foreign w f → Adds w v → Posts f g
    → Outside foreign v g
outside_more foreign w v f g same h adds posts i t l e d =
    elim (get_either w.pool adds.more i t (ap (λ p. slice_get p i) (sym adds.pool) ∙ e)) [
      | inl old ↦ elim (get_either f.pool posts.more i l (ap (λ p. slice_get p i) (sym posts.pool) ∙ d)) [
        | inl there ↦ h i t l old there
        | inr new ↦ let low = new.0 in let high = slice_get_within w.pool i t old in absurd (omega (arith, low, high, same))
      ]
      | inr new ↦ own_outside foreign t l (own_at adds.more new.1.0 t adds.own new.1.1)
    ]

-- ---- which tokens are whose

is_foreign : (b : Book) (t : Token) → (IsOfClient b t) ⊎ (IsForeign b t)
is_foreign b (token.Injected to_leader lane) = inr tt
is_foreign b (token.Ordered n x) = elim (cases_Bool (b.foreign x.lane)) [ inl t ↦ inr t | inr t ↦ inl t ]
is_foreign b (token.Replied n x) = elim (cases_Bool (b.foreign x.lane)) [ inl t ↦ inr t | inr t ↦ inl t ]
is_foreign b (token.Deposit c s) = inl tt
is_foreign b (token.Submission c s y) = inl tt
is_foreign b (token.ProofToHelper c s) = inl tt
is_foreign b (token.ProofToLeader c s) = inl tt
is_foreign b (token.HeldDeposit c s) = inl tt
is_foreign b (token.HeldProof c s) = inl tt
is_foreign b (token.Challenge c s) = inl tt
is_foreign b (token.Answer c s) = inl tt
is_foreign b (token.Later c s) = inl tt
is_foreign b (token.Foreign c) = inl tt

-- ---- moves that issue no command

sends_commands : (w : World) (c : ℕ) → (client_sends w c).commands ≡ w.commands
unfolding client_sends
sends_commands w c = cond_both {A = World} (w.foreign c) _ _ (λ v. v.commands ≡ w.commands) (λ e. refl) (λ e. refl)

resent_commands : (w : World) (x : Option Line) → (resends w x).commands ≡ w.commands
unfolding resends
resent_commands w (Some x) = refl
resent_commands w None = refl

ticks_commands : (w : World) → (ticks w).commands ≡ w.commands
unfolding ticks
ticks_commands w = resent_commands w (slice_get w.commands w.acknowledged)

went_commands : (w : World) (c : ℕ) (rs : List Request) → (goes_on w c rs).commands ≡ w.commands
unfolding goes_on
went_commands w c [] = refl
went_commands w c (r ∷ rest) = cond_both {A = World} (is_refused w c r) _ _ (λ v. v.commands ≡ w.commands) (λ e. went_commands (notes w c _) c rest) (λ e. refl)

asks_commands : (w : World) (c : ℕ) (r : Request) → (asks w c r).commands ≡ w.commands
unfolding asks
asks_commands w c r = cond_both {A = World} (nat_eq (w.lanes c).step 0) _ _ (λ v. v.commands ≡ w.commands) (λ e. went_commands w c _) (λ e. refl)

-- nor leave an entry

sends_journal : (w : World) (c : ℕ) → (client_sends w c).journal ≡ w.journal
unfolding client_sends
sends_journal w c = cond_both {A = World} (w.foreign c) _ _ (λ v. v.journal ≡ w.journal) (λ e. refl) (λ e. refl)

resent_journal : (w : World) (x : Option Line) → (resends w x).journal ≡ w.journal
unfolding resends
resent_journal w (Some x) = refl
resent_journal w None = refl

ticks_journal : (w : World) → (ticks w).journal ≡ w.journal
unfolding ticks
ticks_journal w = resent_journal w (slice_get w.commands w.acknowledged)

went_journal : (w : World) (c : ℕ) (rs : List Request) → (goes_on w c rs).journal ≡ w.journal
unfolding goes_on
went_journal w c [] = refl
went_journal w c (r ∷ rest) = cond_both {A = World} (is_refused w c r) _ _ (λ v. v.journal ≡ w.journal) (λ e. went_journal (notes w c _) c rest) (λ e. refl)

asks_journal : (w : World) (c : ℕ) (r : Request) → (asks w c r).journal ≡ w.journal
unfolding asks
asks_journal w c r = cond_both {A = World} (nat_eq (w.lanes c).step 0) _ _ (λ v. v.journal ≡ w.journal) (λ e. went_journal w c _) (λ e. refl)

-- ---- what clients do leaves the servers

went_frames : (f : FrameWorld) (c : ℕ) (rs : List Request) → ((frames.goes_on f c rs).helper ≡ f.helper) × ((frames.goes_on f c rs).leader ≡ f.leader)
unfolding frames.goes_on frames.was_asked
went_frames f c [] = (refl, refl)
went_frames f c (r ∷ rest) = at_asked (asked (f.clients c) r) (frames.goes_on (frames.notes f c (NoOwnBox (tokens.own_of r))) c rest) (went_frames (frames.notes f c (NoOwnBox (tokens.own_of r))) c rest)
  where
    at_asked : (a : Result Client Fault) (next : FrameWorld) → (next.helper ≡ f.helper) × (next.leader ≡ f.leader)
        → ((frames.was_asked f c rest next a).helper ≡ f.helper) × ((frames.was_asked f c rest next a).leader ≡ f.leader)
    at_asked (Ok k) next e = (refl, refl)
    at_asked (Err (client.NoBox own)) next e = e
    at_asked (Err client.Busy) next e = (refl, refl)
    at_asked (Err client.Spent) next e = (refl, refl)
    at_asked (Err (client.Width width)) next e = (refl, refl)
    at_asked (Err (client.OwnFull n)) next e = (refl, refl)

asks_same : (f : FrameWorld) (c : ℕ) (r : Request) → ((frames.asks f c r).helper ≡ f.helper) × ((frames.asks f c r).leader ≡ f.leader)
asks_same f c r = cond_both {A = FrameWorld} (is_none (f.clients c).current) _ _ (λ g. (g.helper ≡ f.helper) × (g.leader ≡ f.leader)) (λ e. went_frames f c _) (λ e. (refl, refl))

-- ---- bytes from outside

injected_is : (bytes : List ℕ) → All (λ n. n < 256) bytes → IsInjected bytes (lane_from_client (whole bytes))
injected_is bytes all = at_read (whole bytes) refl
  where
    at_read : (found : Result PlainFrame Refusal) → whole bytes ≡ found → IsInjected bytes (lane_from_client found)
    at_read (Err r) e = λ f fr spelled client. absurd (let never : Err r ≡ Ok f = sym e ∙ ap whole spelled ∙ whole_spelled f fr in cc never)
    at_read (Ok f) e = at_class (is_from_client f.body) refl
      where
        s : Spells f bytes
        s = whole_found bytes f all e

        at_class : (t : Bool) → is_from_client f.body ≡ t → IsInjected bytes (cond t (Some f.lane) None)
        at_class true c = (f, (s.is_frame, (s.spelled, (refl, c))))
        at_class false c = λ g fr spelled client.
            let both : Ok f ≡ Ok g = sym e ∙ ap whole spelled ∙ whole_spelled g fr in
            let same : f ≡ g = cc in
            absurd (let never : false ≡ true = sym c ∙ ap (λ f. is_from_client f.body) same ∙ client in cc never)

injected_outside : (foreign : ℕ → Bool) (to : Addressee) (to_leader : Bool) (bytes : List ℕ) → IsOutside foreign bytes (lane_from_client (whole bytes)) → (ts : List Token) (ls : List Letter)
    → length ls ≡ length ts → ((i : ℕ) (t : Token) (l : Letter) → slice_get ts i ≡ Some t → slice_get ls i ≡ Some l → OutsideAt foreign t l)
    → (i : ℕ) (t : Token) (l : Letter) → slice_get (ts ++ token.Injected to_leader (lane_from_client (whole bytes)) ∷ []) i ≡ Some t → slice_get (ls ++ letter to bytes ∷ []) i ≡ Some l → OutsideAt foreign t l
injected_outside foreign to to_leader bytes out ts ls same h i t l e d = elim (get_more ts _ i t e) [
  | inl old ↦ elim (get_more ls _ i l d) [
    | inl there ↦ h i t l old.1 there.1
    | inr new ↦ let a = old.0 in let b = new.0 in absurd (omega (arith, a, b, same))
  ]
  | inr new ↦ elim (get_more ls _ i l d) [
    | inl there ↦ let a = new.0 in let b = there.0 in absurd (omega (arith, a, b, same))
    | inr mine ↦ subst (λ t. OutsideAt foreign t l) new.1 (subst (λ l. IsOutside foreign l.bytes (lane_from_client (whole bytes))) mine.1 out)
  ]
]

-- ---- the run

module _ (b : Book) (v : World) (all : List Taken) (sound : Sound b) (whole_is : IsWhole b v) (Unique : Both → Type 0)
    (foreign_follow : ForeignComesFollow b v)
    (takes : (s : Both) (t : Token) (i : ℕ) (l : Letter) (more : List Taken) → Known b v s.world → slice_get s.world.pool i ≡ Some t → Follows b s.frames s.world
    → Carries b t l → OutsideAt b.foreign t l → all ≡ (s.taken ++ taken_of s.frames t l) ++ more → Unique s
    → AreTaken b (taken_of s.frames t l) × Unique (both_come s (Some t) (Some l)))
    (stays : (s : Both) (g : FrameWorld) (u : World) (acts : List Act) → g.helper ≡ s.frames.helper → g.leader ≡ s.frames.leader → u.commands ≡ s.world.commands → u.journal ≡ s.world.journal → u.misfits ≡ s.world.misfits
    → Unique s → Unique (record { frames = g; world = u; acts = acts; taken = s.taken })) where
  pub record Kept (s : Both) : Type 0 where
    pub follows : Follows b s.frames s.world
    pub lawful : Lawful s.world
    pub outside : Outside b.foreign s.world s.frames
    pub unique : Unique s

  -- a lawful world of the run, from which its moves lead to the end
  abbrev pub Allowed : Both → Type 0
  Allowed s = Lawful s.world → s.world.foreign ≡ b.foreign → Within b s.world × Since s.world v × ((more : List Taken) × (all ≡ s.taken ++ more))

  known : (s : Both) → Lawful s.world → s.world.foreign ≡ b.foreign → Allowed s → Known b v s.world
  known s lawful same allowed =
      let k = allowed lawful same in
      record { sound = sound; whole = whole_is; lawful = lawful; since = k.1; within = k.0 }

  back : (s r : Both) → (Within b r.world → Within b s.world) → (Lawful s.world → s.world.foreign ≡ b.foreign → Lawful r.world × Since s.world r.world)
      → ((more : List Taken) × (r.taken ≡ s.taken ++ more)) → Allowed r → Allowed s
  back s r inside lead took allowed lawful same =
      let to = lead lawful same in
      let k = allowed to.0 (to.1.foreign ∙ same) in
      (inside k.0, since_then s.world r.world v to.1 k.1, (took.0 ++ k.2.0, k.2.1 ∙ ap (λ l. l ++ k.2.0) took.1 ∙ append_assoc s.taken took.0 k.2.0))

  abbrev lead : (w : World) → Lawful w → Lawful w × Since w w
  lead w lawful = (lawful, since_itself w)

  took_nothing : (ts : List Taken) → (more : List Taken) × (ts ≡ ts ++ more)
  took_nothing ts = ([], sym (append-nil ts))

  -- ---- deliveries

  -- a place of both pools
  pub record SamePlace (w : World) (t : Option Token) (l : Option Letter) (f : FrameWorld) : Type 0 where
    pub found : Found b t l
    pub place : (x : Token) → t ≡ Some x → (i : ℕ) × (slice_get w.pool i ≡ Some x)
    pub outside : (x : Token) (y : Letter) → t ≡ Some x → l ≡ Some y → OutsideAt b.foreign x y

  letter_comes : (s : Both) (t : Option Token) (l : Option Letter) → Kept s → SamePlace s.world t l s.frames
      → Allowed s → Allowed (both_come s t l) → Kept (both_come s t l)
  unfolding both_come frames.delivers delivers
  letter_comes s (Some t) (Some l) h at allowed next =
      let o : Oracle = λ n. act_of s.frames t l in
      let i = at.place t refl in
      let lawful = (moves_keep o).come o s.world i.0 t i.1 h.lawful in
      let k = known s h.lawful h.follows.foreign allowed in
      let same : (comes o s.world t).foreign ≡ b.foreign = ((moves_lead_on s.world).come o s.world i.0 t i.1 (lead s.world h.lawful)).1.foreign ∙ h.follows.foreign in
      let now : Known b v (comes o s.world t) = let n = next lawful same in record { sound = sound; whole = whole_is; lawful = lawful; since = n.1; within = n.0 } in
      let out = at.outside t l refl refl in
      let prefix = (next lawful same).2 in
      let took = takes s t i.0 l prefix.0 k i.1 h.follows at.found out prefix.1 h.unique in
      record {
        follows = elim (is_foreign b t) [
          | inl own ↦ lanes.comes_follow b t own o s.frames v s.world i.0 l k now i.1 h.follows at.found
          | inr other ↦ foreign_follow s.frames s.world t i.0 l other k now i.1 h.follows at.found out took.0
        ];
        lawful = lawful;
        outside = outside_more b.foreign s.world (comes o s.world t) s.frames (frames.comes s.frames l.to l.bytes) (pools_length b s.world.pool s.frames.pool h.follows.pool) h.outside (comes_adds o s.world t) (comes_post s.frames l.to l.bytes);
        unique = took.1;
      }
  letter_comes s None None h at allowed next = record {
    follows = h.follows;
    lawful = h.lawful;
    outside = h.outside;
    unique = subst (λ ts. Unique (record { frames = s.frames; world = s.world; acts = s.acts ++ acts_taken s.world s.world no_act; taken = ts })) (sym (append-nil s.taken))
        (stays s s.frames s.world (s.acts ++ acts_taken s.world s.world no_act) refl refl refl refl refl h.unique);
  }
  letter_comes s (Some t) None h at allowed next = absurd at.found
  letter_comes s None (Some l) h at allowed next = absurd at.found

  found_at : (ts : List Token) (ls : List Letter) (n : ℕ) → Pools b ts ls → Found b (slice_get ts n) (slice_get ls n)
  found_at [] [] n h = tt
  found_at (t ∷ ts) (l ∷ ls) zero h = h.0
  found_at (t ∷ ts) (l ∷ ls) (suc n) h = found_at ts ls n h.1
  found_at [] (l ∷ ls) n h = absurd h
  found_at (t ∷ ts) [] n h = absurd h

  -- what is found on the way back is any token, so its place is asked
  come_back : (s : Both) (t : Option Token) (l : Option Letter) → ((x : Token) → t ≡ Some x → (i : ℕ) × (slice_get s.world.pool i ≡ Some x))
      → Allowed (both_come s t l) → Allowed s
  unfolding both_come delivers
  come_back s (Some t) l place next =
      let o : Oracle = λ n. act_at s.frames (Some t) l in
      let i = place t refl in
      back s (both_come s (Some t) l) (within_back b s.world (comes o s.world t) (comes_extends o s.world t))
      (λ lawful f. (moves_lead_on s.world).come o s.world i.0 t i.1 (lead s.world lawful)) (taken_at s.frames (Some t) l, refl) next
  come_back s None l place next =
      back s (both_come s None l) (λ k. k) (λ lawful f. (lawful, since_itself s.world)) (taken_at s.frames None l, refl) next

  back_on_delivers : (s : Both) (n : ℕ) → Allowed (both_deliver s n) → Allowed s
  back_on_delivers s n next = come_back s (slice_get s.world.pool n) (slice_get s.frames.pool n) (λ x e. (n, e)) next

  on_delivers : (s : Both) (n : ℕ) → Kept s → Allowed (both_deliver s n) → Kept (both_deliver s n)
  on_delivers s n h next =
      letter_comes s (slice_get s.world.pool n) (slice_get s.frames.pool n) h
      (record { found = found_at s.world.pool s.frames.pool n h.follows.pool; place = λ x e. (n, e); outside = λ x y e d. h.outside n x y e d })
      (back_on_delivers s n next) next

  -- the last for a client stands in the pool, and isn't from outside
  last_place : (c : ℕ) (x : Token) (ts all : List Token) (t : Option Token)
      → ((y : Token) → t ≡ Some y → (i : ℕ) × (slice_get all i ≡ Some y))
      → ((y : Token) (i : ℕ) → slice_get ts i ≡ Some y → (k : ℕ) × (slice_get all k ≡ Some y))
      → last_for c t ts ≡ Some x → (i : ℕ) × (slice_get all i ≡ Some x)
  unfolding last_for
  last_place c x [] all t h k e = h x e
  last_place c x (y ∷ ts) all t h k e = last_place c x ts all _ (at_test (tokens.is_for c y)) (λ z i. k z (suc i)) e
    where
      at_test : (test : Bool) → (z : Token) → cond test (Some y) t ≡ Some z → (i : ℕ) × (slice_get all i ≡ Some z)
      at_test true z e = k z zero e
      at_test false z e = h z e

  drop_place : (n : ℕ) (ts : List Token) (y : Token) (i : ℕ) → slice_get (drop n ts) i ≡ Some y → (k : ℕ) × (slice_get ts k ≡ Some y)
  drop_place zero ts y i e = (i, e)
  drop_place (suc n) [] y i e = (i, e)
  drop_place (suc n) (t ∷ ts) y i e = let r = drop_place n ts y i e in (suc r.0, r.1)

  for_client : (c : ℕ) (y : Token) → tokens.is_for c y ≡ true → IsOwn y
  unfolding tokens.is_for
  for_client c (token.Injected to_leader lane) e = absurd (cc e)
  for_client c (token.Deposit d s) e = tt
  for_client c (token.Submission d s y) e = tt
  for_client c (token.ProofToHelper d s) e = tt
  for_client c (token.ProofToLeader d s) e = tt
  for_client c (token.Ordered n x) e = tt
  for_client c (token.Replied n x) e = tt
  for_client c (token.HeldDeposit d s) e = tt
  for_client c (token.HeldProof d s) e = tt
  for_client c (token.Challenge d s) e = tt
  for_client c (token.Answer d s) e = tt
  for_client c (token.Later d s) e = tt
  for_client c (token.Foreign d) e = tt

  last_own : (c : ℕ) (x : Token) (ts : List Token) (t : Option Token) → ((y : Token) → t ≡ Some y → IsOwn y) → last_for c t ts ≡ Some x → IsOwn x
  unfolding last_for
  last_own c x [] t h e = h x e
  last_own c x (y ∷ ts) t h e = last_own c x ts _ (at_test (tokens.is_for c y) (for_client c y)) e
    where
      at_test : (test : Bool) → (test ≡ true → IsOwn y) → (z : Token) → cond test (Some y) t ≡ Some z → IsOwn z
      at_test true k z e = let same : y ≡ z = cc in subst IsOwn same (k refl)
      at_test false k z e = h z e

  hand_place : (s : Both) (c before : ℕ) (x : Token) → last_for c None (drop before s.world.pool) ≡ Some x → (i : ℕ) × (slice_get s.world.pool i ≡ Some x)
  hand_place s c before x e = last_place c x (drop before s.world.pool) s.world.pool None (λ y e. absurd (cc e)) (λ y i e. drop_place before s.world.pool y i e) e

  pub back_on_hands : (s : Both) (c before : ℕ) → Allowed (both_hand s c before) → Allowed s
  back_on_hands s c before next =
      come_back s (last_for c None (drop before s.world.pool)) (frames.last_for c None (drop before s.frames.pool)) (hand_place s c before) next

  on_hands : (s : Both) (c before : ℕ) → Kept s → Allowed (both_hand s c before) → Kept (both_hand s c before)
  on_hands s c before h next =
      letter_comes s (last_for c None (drop before s.world.pool)) (frames.last_for c None (drop before s.frames.pool)) h
      (record {
        found = last_same b c None None (drop before s.world.pool) (drop before s.frames.pool) tt (pools_drop b before s.world.pool s.frames.pool h.follows.pool);
        place = hand_place s c before;
        outside = λ x y e d. own_outside b.foreign x y (last_own c x (drop before s.world.pool) None (λ y e. absurd (cc e)) e);
      })
      (back_on_hands s c before next) next

  -- ---- the other moves of a finish

  back_on_sends : (s : Both) (c : ℕ) → Allowed (both_send s c) → Allowed s
  back_on_sends s c = back s (both_send s c) (back_sends b s.world c) (λ l f. (moves_lead_on s.world).send s.world c (lead s.world l)) (took_nothing s.taken)

  on_sends : (s : Both) (c : ℕ) → Kept s → Allowed (both_send s c) → Kept (both_send s c)
  unfolding frames.client_sends
  on_sends s c h next =
      let o : Oracle = λ n. no_act in
      record {
        follows = lanes.sends_follow b s.frames v s.world c (known s h.lawful h.follows.foreign (back_on_sends s c next)) h.follows;
        lawful = (moves_keep o).send s.world c h.lawful;
        outside = outside_more b.foreign s.world (client_sends s.world c) s.frames (frames.client_sends s.frames c) (pools_length b s.world.pool s.frames.pool h.follows.pool) h.outside (sends_add s.world c) (client_sends_post s.frames c);
        unique = stays s (frames.client_sends s.frames c) (client_sends s.world c) s.acts refl refl (sends_commands s.world c) (sends_journal s.world c) (sends_fit s.world c) h.unique;
      }

  back_on_ticks : (s : Both) → Allowed (both_tick s) → Allowed s
  back_on_ticks s = back s (both_tick s) (back_ticks b s.world) (λ l f. (moves_lead_on s.world).tick s.world (lead s.world l)) (took_nothing s.taken)

  on_ticks : (s : Both) → Kept s → Allowed (both_tick s) → Kept (both_tick s)
  unfolding frames.ticks
  on_ticks s h next =
      let o : Oracle = λ n. no_act in
      record {
        follows = ticks_follow b s.frames s.world h.follows;
        lawful = (moves_keep o).tick s.world h.lawful;
        outside = outside_more b.foreign s.world (ticks s.world) s.frames (frames.ticks s.frames) (pools_length b s.world.pool s.frames.pool h.follows.pool) h.outside (ticks_add s.world) (ticks_post s.frames);
        unique = stays s (frames.ticks s.frames) (ticks s.world) s.acts refl refl (ticks_commands s.world) (ticks_journal s.world) (ticks_fit s.world) h.unique;
      }

  -- ---- a finish

  back_on_finish : (s : Both) (c : ℕ) → Allowed (finished_by both_moves s c) → Allowed s
  back_on_finish s c next =
      finished_back Both both_moves Kept Allowed on_delivers on_sends on_ticks on_hands back_on_delivers back_on_sends back_on_ticks back_on_hands s c next

  on_finish : (s : Both) (c : ℕ) → Kept s → Allowed (finished_by both_moves s c) → Kept (finished_by both_moves s c)
  on_finish s c h next =
      finished_keeps Both both_moves Kept Allowed on_delivers on_sends on_ticks on_hands back_on_delivers back_on_sends back_on_ticks back_on_hands s c h next

  -- ---- events

  -- a client of a lane that isn't foreign is asked
  back_on_asks : (s : Both) (c : ℕ) (r : Request) → b.foreign c ≡ false → Allowed (both_ask s c r) → Allowed s
  back_on_asks s c r hon = back s (both_ask s c r) (back_asks b s.world c r) (λ l f. (moves_lead_on s.world).ask s.world c r (ap (λ g. g c) f ∙ hon) (lead s.world l)) (took_nothing s.taken)

  on_asks : (s : Both) (c : ℕ) (r : Request) → b.foreign c ≡ false → c < b.settings.lanes → Kept s → Allowed (both_ask s c r) → Kept (both_ask s c r)
  on_asks s c r hon there h next =
      let o : Oracle = λ n. no_act in
      let hon_w : s.world.foreign c ≡ false = ap (λ g. g c) h.follows.foreign ∙ hon in
      let k = known s h.lawful h.follows.foreign (back_on_asks s c r hon next) in
      let lawful = (moves_keep o).ask s.world c r hon_w h.lawful in
      record {
        follows = elim (cases_eq (s.world.lanes c).step 0) [
          | inl idle ↦
              asks_follow b s.frames s.world c r sound h.follows hon there (h.lawful.sent.serials c hon_w)
              (can_ask b s.frames v s.world c k h.follows hon idle) (next lawful (((moves_lead_on s.world).ask s.world c r hon_w (lead s.world h.lawful)).1.foreign ∙ h.follows.foreign)).0
          | inr busy ↦ busy_asks b s.frames s.world c r h.follows hon busy
        ];
        lawful = lawful;
        outside = outside_more b.foreign s.world (asks s.world c r) s.frames (frames.asks s.frames c r) (pools_length b s.world.pool s.frames.pool h.follows.pool) h.outside (asks_add s.world c r) (asks_post s.frames c r);
        unique = asks_unique (asks_same s.frames c r);
      }
    where
      asks_unique : ((frames.asks s.frames c r).helper ≡ s.frames.helper) × ((frames.asks s.frames c r).leader ≡ s.frames.leader) → Unique (both_ask s c r)
      asks_unique e = stays s (frames.asks s.frames c r) (asks s.world c r) s.acts e.0 e.1 (asks_commands s.world c r) (asks_journal s.world c r) (asks_fit s.world c r) h.unique

  -- bytes come from outside
  back_on_injects : (s : Both) (to_leader : Bool) (bytes : List ℕ) → Allowed (both_inject s to_leader bytes) → Allowed s
  back_on_injects s to_leader bytes =
      back s (both_inject s to_leader bytes) (λ k. record { sent = k.sent; commands = k.commands; journal = k.journal })
      (λ l f. (moves_lead_on s.world).inject s.world to_leader (lane_from_client (whole bytes)) (lead s.world l)) (took_nothing s.taken)

  on_injects : (s : Both) (to_leader : Bool) (bytes : List ℕ) → IsOutside b.foreign bytes (lane_from_client (whole bytes)) → Kept s → Allowed (both_inject s to_leader bytes)
      → Kept (both_inject s to_leader bytes)
  unfolding frames.happens
  on_injects s true bytes out h next = record {
    follows = injected_follows b s.frames s.world true (lane_from_client (whole bytes)) bytes h.follows (injected_is bytes out.bytes_are);
    lawful = ((moves_keep (λ n. no_act)).inject s.world true (lane_from_client (whole bytes)) h.lawful);
    outside = injected_outside b.foreign ToLeader true bytes out s.world.pool s.frames.pool (pools_length b s.world.pool s.frames.pool h.follows.pool) (λ i t l e d. h.outside i t l e d);
    unique = stays s _ _ s.acts refl refl refl refl refl h.unique;
  }
  on_injects s false bytes out h next = record {
    follows = injected_follows b s.frames s.world false (lane_from_client (whole bytes)) bytes h.follows (injected_is bytes out.bytes_are);
    lawful = ((moves_keep (λ n. no_act)).inject s.world false (lane_from_client (whole bytes)) h.lawful);
    outside = injected_outside b.foreign ToHelper false bytes out s.world.pool s.frames.pool (pools_length b s.world.pool s.frames.pool h.follows.pool) (λ i t l e d. h.outside i t l e d);
    unique = stays s _ _ s.acts refl refl refl refl refl h.unique;
  }

  shown_follows : (s : Both) (n : ℕ) → Kept s → (l : Option Letter) → Kept (record s { frames = frames.shows s.frames n l })
  unfolding frames.shows
  shown_follows s n h None = h
  shown_follows s n h (Some l) = record {
    follows = record {
      limit = h.follows.limit;
      width = h.follows.width;
      window = h.follows.window;
      foreign = h.follows.foreign;
      helper = h.follows.helper;
      leader = h.follows.leader;
      clients = h.follows.clients;
      waiting = h.follows.waiting;
      told = h.follows.told;
      pool = h.follows.pool;
      journal = h.follows.journal;
      outcomes = h.follows.outcomes;
    };
    lawful = h.lawful;
    outside = h.outside;
    unique = stays s _ s.world s.acts refl refl refl refl refl h.unique;
  }

  -- ---- a whole schedule

  on_happens : (s : Both) (event : Event) → IsFitting b.settings b.foreign event → Kept s → Allowed (both_happen s event) → Kept (both_happen s event)
  unfolding both_happen frames.happens
  on_happens s (Ask c r) fit h next = on_asks s c r fit.1 fit.0 h next
  on_happens s (Send c) fit h next = on_sends s c h next
  on_happens s Tick fit h next = on_ticks s h next
  on_happens s (Deliver n) fit h next = on_delivers s n h next
  on_happens s (Show n) fit h next = shown_follows s n h (slice_get s.frames.pool n)
  on_happens s (Finish c) fit h next = on_finish s c h next
  on_happens s (Inject to_leader bytes) fit h next = on_injects s to_leader bytes fit h next

  back_on_happens : (s : Both) (event : Event) → IsFitting b.settings b.foreign event → Allowed (both_happen s event) → Allowed s
  unfolding both_happen
  back_on_happens s (Ask c r) fit next = back_on_asks s c r fit.1 next
  back_on_happens s (Send c) fit next = back_on_sends s c next
  back_on_happens s Tick fit next = back_on_ticks s next
  back_on_happens s (Deliver n) fit next = back_on_delivers s n next
  back_on_happens s (Show n) fit next = next
  back_on_happens s (Finish c) fit next = back_on_finish s c next
  back_on_happens s (Inject to_leader bytes) fit next = back_on_injects s to_leader bytes next

  -- the run over bytes goes on as it does alone

  same_delivers : (s : Both) (n : ℕ) → Kept s → Allowed (both_deliver s n) → (both_deliver s n).frames ≡ frames.delivers_at s.frames n
  unfolding both_come frames.delivers_at
  same_delivers s n h next = refl

  same_hands : (s : Both) (c before : ℕ) → Kept s → Allowed (both_hand s c before) → (both_hand s c before).frames ≡ frames.frame_moves.hands_last s.frames c before
  unfolding both_come
  same_hands s c before h next = refl

  same_finish : (s : Both) (c : ℕ) → Kept s → Allowed (finished_by both_moves s c) → (finished_by both_moves s c).frames ≡ finished_by frames.frame_moves s.frames c
  same_finish s c h next =
      finished_part Both both_moves Kept Allowed on_delivers on_sends on_ticks on_hands back_on_delivers back_on_sends back_on_ticks back_on_hands
      FrameWorld frames.frame_moves (λ s. s.frames) (λ s h. sym (same_size b s.frames s.world h.follows)) (λ s h. sym (same_busy b s.frames s.world h.follows)) (λ s h. sym (same_outstanding b s.frames s.world h.follows))
      (λ s c h. sym (same_idle b s.frames s.world c h.follows)) (λ s c h. sym (same_waiting b s.frames s.world c h.follows))
      same_delivers (λ s c h k. refl) (λ s h k. refl) same_hands s c h next

  same_happens : (s : Both) (event : Event) → Kept s → Allowed (both_happen s event) → (both_happen s event).frames ≡ frames.happens s.frames event
  unfolding both_happen frames.happens
  same_happens s (Ask c r) h next = refl
  same_happens s (Send c) h next = refl
  same_happens s Tick h next = refl
  same_happens s (Deliver n) h next = same_delivers s n h next
  same_happens s (Show n) h next = refl
  same_happens s (Finish c) h next = same_finish s c h next
  same_happens s (Inject true bytes) h next = refl
  same_happens s (Inject false bytes) h next = refl

  -- ---- a whole schedule

  pub run_back : (events : List Event) (s : Both) → AreFitting b.settings b.foreign events → Allowed (run_both s events) → Allowed s
  unfolding run_both
  run_back [] s fit next = next
  run_back (event ∷ events) s fit next = back_on_happens s event fit.0 (run_back events (both_happen s event) fit.1 next)

  pub run_keeps : (events : List Event) (s : Both) → AreFitting b.settings b.foreign events → Kept s → Allowed (run_both s events) → Kept (run_both s events)
  unfolding run_both
  run_keeps [] s fit h next = h
  run_keeps (event ∷ events) s fit h next =
      run_keeps events (both_happen s event) fit.1 (on_happens s event fit.0 h (run_back events (both_happen s event) fit.1 next)) next

  pub run_same : (events : List Event) (s : Both) → AreFitting b.settings b.foreign events → Kept s → Allowed (run_both s events)
      → (run_both s events).frames ≡ frames.run s.frames events
  unfolding run_both frames.run
  run_same [] s fit h next = refl
  run_same (event ∷ events) s fit h next =
      let a = run_back events (both_happen s event) fit.1 next in
      run_same events (both_happen s event) fit.1 (on_happens s event fit.0 h a) next ∙ ap (λ f. frames.run f events) (same_happens s event h a)
