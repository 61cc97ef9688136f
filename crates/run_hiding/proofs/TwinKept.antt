-- The replies that a helper keeps: those before stay, and the new one is the last.
use Rattle.std.proofs.Common.{◌≡◌, ◌∙◌, ◌<◌, ◌≤◌, ◌+◌, ◌-◌, ◌⊎◌, ℕ, zero, suc, Bool, true, false, cond, nat_le, nat_eq, ◌&&◌, nat_lt, List, [], ◌∷◌, ◌++◌, length, drop, Some, Ok, Err, Result, append-nil, slice_get, slice_index_or, refl, sym, ap, subst, arith, inl, inr, length-append, length-drop}
use Rattle.std.proofs.lemmas.Bool.{cond_both, eqb-true, leb-true}
use Rattle.frame_rules.specs.Frames.{PlainFrame}
use Rattle.frame_rules.specs.Spelling.{spelling}
use Rattle.mailbox_rules.specs.Requests.{Line, Request}
use Rattle.token_rules.specs.Tokens as token
use Rattle.token_rules.specs.Tokens.{Oracle, Token, World}
use Rattle.token_rules.specs.Rows.{Kept, Next, Passed, arrival_of}
use Rattle.token_rules.specs.Run.{carries_next, comes, command_comes}
use Rattle.token_rules.proofs.Lists.{get_more}
use Rattle.step_rules.specs.Helper as helper
use Rattle.step_rules.specs.Helper.{Helper}
use Rattle.step_rules.specs.HelperCommands.{arrives, carried_with, carries_out, kept_for, last}
use Rattle.frame_rules.specs.Whole.{on_link}
use Rattle.step_rules.specs.Leader as leader
use Rattle.step_rules.specs.Client as client
use Rattle.step_rules.specs.Client.{Client, Fault, Finished, Progress}
use Rattle.step_rules.specs.ClientAsks.{asked}
use Rattle.token_rules.specs.Run.{own_of}
use Rattle.run_rules.specs.Letters.{Addressee, FrameWorld, Letter, NoOwnBox, ToClient, ToHelper, ToHelperLink, ToLeader, ToLeaderLink}
use Rattle.run_rules.specs.Run as frames

get_end : (xs : List (List ℕ)) (y : List ℕ) → slice_index_or (xs ++ y ∷ []) (length xs) [] ≡ y
get_end [] y = refl
get_end (x ∷ xs) y = get_end xs y

get_before : (xs : List (List ℕ)) (y : List ℕ) (i : ℕ) → i < length xs → slice_index_or (xs ++ y ∷ []) i [] ≡ slice_index_or xs i []
get_before [] y i low = absurd (omega (arith, low))
get_before (x ∷ xs) y zero low = refl
get_before (x ∷ xs) y (suc i) low = get_before xs y i (omega (arith, low))

get_drop : (n : ℕ) (xs : List (List ℕ)) (i : ℕ) → slice_index_or (drop n xs) i [] ≡ slice_index_or xs (n + i) []
get_drop zero xs i = ap (λ k. slice_index_or xs k []) (let e : i ≡ 0 + i = omega arith in e)
get_drop (suc n) [] i = none (n + i) i ∙ ap (λ k. slice_index_or (let l : List (List ℕ) = [] in l) k []) (let e : suc (n + i) ≡ suc n + i = omega arith in e)
  where
    none : (k i : ℕ) → slice_index_or (let l : List (List ℕ) = [] in l) i [] ≡ slice_index_or (let l : List (List ℕ) = [] in l) (suc k) []
    none k zero = refl
    none k (suc i) = refl
get_drop (suc n) (x ∷ xs) i = get_drop n xs i ∙ ap (λ k. slice_index_or (x ∷ xs) k []) (let e : suc (n + i) ≡ suc n + i = omega arith in e)

-- what a helper kept after a command: as before, or the next reply too
pub record Carries (h : Helper) (y : PlainFrame) (after : Helper) (answer : helper.Answer) : Type 0 where
  pub reply : PlainFrame
  pub next : y.link ≡ h.carried + 1
  pub is : reply ≡ on_link y y.link (carries_out h.server y).body
  pub says : answer ≡ helper.Carried reply
  pub number : after.carried ≡ h.carried + 1
  pub kept : after.replies ≡ last h.server.settings.window (h.replies ++ spelling reply ∷ [])

pub record Repeats (h : Helper) (y : PlainFrame) (after : Helper) (answer : helper.Answer) : Type 0 where
  pub same : after ≡ h
  pub says : answer ≡ helper.Repeated (kept_for h y.link)
  pub old : y.link ≤ h.carried
  pub few : h.carried + 1 ≤ y.link + length h.replies

pub record Ignores (h after : Helper) (answer : helper.Answer) : Type 0 where
  pub same : after ≡ h
  pub says : answer ≡ helper.Ignored

abbrev pub Arrives : Helper → PlainFrame → helper.LinkTurn → Type 0
Arrives h y t = Carries h y t.helper t.answer ⊎ (Repeats h y t.helper t.answer ⊎ Ignores h t.helper t.answer)

pub arrives_so : (h : Helper) (y : PlainFrame) → Arrives h y (arrives h y)
unfolding arrives
arrives_so h y = at_next (nat_eq y.link (h.carried + 1)) (nat_le y.link h.carried) (nat_le (h.carried + 1) (y.link + length h.replies)) refl refl refl
  where
    at_next : (t u v : Bool) → nat_eq y.link (h.carried + 1) ≡ t → nat_le y.link h.carried ≡ u → nat_le (h.carried + 1) (y.link + length h.replies) ≡ v
        → Arrives h y (cond t (carried_with h y (carries_out h.server y))
        (cond u (cond v (record { helper = h; answer = helper.Repeated (kept_for h y.link) }) (record { helper = h; answer = helper.Ignored })) (record { helper = h; answer = helper.Ignored })))
    at_next true u v e f g = inl (record { reply = _; next = eqb-true _ _ e; is = refl; says = refl; number = refl; kept = refl })
    at_next false true true e f g = inr (inl (record { same = refl; says = refl; old = leb-true _ _ f; few = leb-true _ _ g }))
    at_next false true false e f g = inr (inr (record { same = refl; says = refl }))
    at_next false false v e f g = inr (inr (record { same = refl; says = refl }))

-- ---- what is kept

module _ (h after : Helper) (bytes : List ℕ) (kept : after.replies ≡ last h.server.settings.window (h.replies ++ bytes ∷ []))
    (number : after.carried ≡ h.carried + 1) where
  abbrev rs : List (List ℕ)
  rs = h.replies

  abbrev cut : ℕ
  cut = length (rs ++ bytes ∷ []) - h.server.settings.window

  pub count : length after.replies ≡ length rs + 1 - cut
  count = ap length kept ∙ length-drop cut (rs ++ bytes ∷ []) ∙ ap (λ n. n - cut) (length-append rs (bytes ∷ []))

  pub fewer : length after.replies ≤ length rs + 1
  fewer = let c = count in omega (arith, c)

  found : (n : ℕ) → kept_for after n ≡ slice_index_or (rs ++ bytes ∷ []) (cut + (n + length after.replies - (after.carried + 1))) []
  found n = ap (λ l. slice_index_or l (n + length after.replies - (after.carried + 1)) []) kept ∙ get_drop cut (rs ++ bytes ∷ []) _

  module _ (small : cut ≤ length rs) where
    pub kept_now : kept_for after (h.carried + 1) ≡ bytes
    kept_now =
        let c = count in
        let at : cut + (h.carried + 1 + length after.replies - (after.carried + 1)) ≡ length rs = omega (arith, c, number, small) in
        found (h.carried + 1) ∙ ap (λ i. slice_index_or (rs ++ bytes ∷ []) i []) at ∙ get_end rs bytes

    pub kept_later : (n : ℕ) → n ≤ h.carried → after.carried + 1 ≤ n + length after.replies → kept_for after n ≡ kept_for h n
    kept_later n low few =
        let c = count in
        let at : cut + (n + length after.replies - (after.carried + 1)) ≡ n + length rs - (h.carried + 1) = omega (arith, c, number, small, low, few) in
        found n ∙ ap (λ i. slice_index_or (rs ++ bytes ∷ []) i []) at ∙ get_before rs bytes (n + length rs - (h.carried + 1)) (omega (arith, c, number, small, low, few))

-- ---- new tokens and letters

pool_is : (o : Oracle) (w : World) (x : Line) → (carries_next o w x).pool ≡ w.pool ++ token.Replied (w.carried + 1) x ∷ []
unfolding carries_next
pool_is o w x = cond_both {A = World} (w.foreign x.lane) _ _ (λ v. v.pool ≡ w.pool ++ token.Replied (w.carried + 1) x ∷ []) (λ e. refl) (λ e. refl)

-- a command's token leaves its reply alone
pub new_reply : (o : Oracle) (w : World) (n : ℕ) (x : Line) (i : ℕ) (t : Token) → slice_get (comes o w (token.Ordered n x)).pool i ≡ Some t
    → (slice_get w.pool i ≡ Some t) ⊎ (t ≡ token.Replied n x)
unfolding comes command_comes carries_next arrival_of
new_reply o w n x i t is = at_next (nat_eq n (w.carried + 1)) (nat_le n w.carried && nat_lt w.carried (n + w.window)) refl is
  where
    either : (u : Token) → u ≡ token.Replied n x → slice_get (w.pool ++ u ∷ []) i ≡ Some t → (slice_get w.pool i ≡ Some t) ⊎ (t ≡ token.Replied n x)
    either u e is = elim (get_more w.pool u i t is) [
      | inl old ↦ inl old.1
      | inr new ↦ inr (sym new.1 ∙ e)
    ]

    at_next : (p q : Bool) → nat_eq n (w.carried + 1) ≡ p → slice_get (command_comes o w n x (cond p Next (cond q Kept Passed))).pool i ≡ Some t
        → (slice_get w.pool i ≡ Some t) ⊎ (t ≡ token.Replied n x)
    at_next true q e is =
        either (token.Replied (w.carried + 1) x) (ap (λ k. token.Replied k x) (sym (eqb-true _ _ e)))
        (ap (λ l. slice_get l i) (sym (pool_is o w x)) ∙ is)
    at_next false true e is = either (token.Replied n x) refl is
    at_next false false e is = inl is

went_pool : (f : FrameWorld) (c : ℕ) (rs : List Request) → (frames.goes_on f c rs).pool ≡ f.pool
unfolding frames.goes_on frames.was_asked
went_pool f c [] = refl
went_pool f c (r ∷ rest) = at_asked (asked (f.clients c) r) (frames.goes_on (frames.notes f c (NoOwnBox (own_of r))) c rest) (went_pool (frames.notes f c (NoOwnBox (own_of r))) c rest)
  where
    at_asked : (a : Result Client Fault) (next : FrameWorld) → next.pool ≡ f.pool → (frames.was_asked f c rest next a).pool ≡ f.pool
    at_asked (Ok k) next e = refl
    at_asked (Err (client.NoBox own)) next e = e
    at_asked (Err client.Busy) next e = refl
    at_asked (Err client.Spent) next e = refl
    at_asked (Err (client.Width width)) next e = refl
    at_asked (Err (client.OwnFull n)) next e = refl

progress_pool : (f : FrameWorld) (c : ℕ) (p : Progress) → (frames.goes_on_after f c p).pool ≡ f.pool
unfolding frames.goes_on_after
progress_pool f c (Finished outcome) = went_pool (frames.notes f c _) c (f.waiting c)
progress_pool f c client.Ignored = refl
progress_pool f c (client.Later r) = refl
progress_pool f c client.Next = refl

-- letters on the link to the leader are answers to commands
comes_pool : (f : FrameWorld) (c : ℕ) (bytes : List ℕ) → (frames.comes f (ToClient c) bytes).pool ≡ f.pool
unfolding frames.comes
comes_pool f c bytes = progress_pool (frames.with_client f c _) c _

abbrev pub NoReply : Letter → Type 0
NoReply l = l.to ≡ ToLeaderLink → ⊥

one_new : (ls : List Letter) (m : Letter) (i : ℕ) (l : Letter) → NoReply m → slice_get (ls ++ m ∷ []) i ≡ Some l → (slice_get ls i ≡ Some l) ⊎ NoReply l
one_new ls m i l away is = elim (get_more ls m i l is) [
  | inl old ↦ inl old.1
  | inr new ↦ inr (subst NoReply new.1 away)
]

answer_new : (f : FrameWorld) (a : leader.Answer) (i : ℕ) (l : Letter) → slice_get (f.pool ++ frames.answer_letters a) i ≡ Some l → (slice_get f.pool i ≡ Some l) ⊎ NoReply l
answer_new f (leader.Reply reply) i l is = one_new f.pool _ i l (λ e. cc e) is
answer_new f (leader.Link n command) i l is = one_new f.pool _ i l (λ e. cc e) is
answer_new f (leader.StillWaiting n) i l is = inl (ap (λ l. slice_get l i) (sym (append-nil f.pool)) ∙ is)

ack_new : (f : FrameWorld) (a : leader.Ack) (i : ℕ) (l : Letter) → slice_get (f.pool ++ frames.ack_letters a) i ≡ Some l → (slice_get f.pool i ≡ Some l) ⊎ NoReply l
ack_new f (leader.ToLane lane reply) i l is = one_new f.pool _ i l (λ e. cc e) is
ack_new f (leader.Settles n command) i l is = one_new f.pool _ i l (λ e. cc e) is
ack_new f leader.Ignored i l is = inl (ap (λ l. slice_get l i) (sym (append-nil f.pool)) ∙ is)

pub no_replies : (f : FrameWorld) (to : Addressee) (bytes : List ℕ) → (to ≡ ToHelperLink → ⊥) → (i : ℕ) (l : Letter)
    → slice_get (frames.comes f to bytes).pool i ≡ Some l → (slice_get f.pool i ≡ Some l) ⊎ NoReply l
unfolding frames.comes
no_replies f (ToClient c) bytes never i l is =
    inl (ap (λ p. slice_get p i) (sym (comes_pool f c bytes)) ∙ is)
no_replies f ToLeader bytes never i l is = answer_new f _ i l is
no_replies f ToHelper bytes never i l is = one_new f.pool _ i l (λ e. cc e) is
no_replies f ToLeaderLink bytes never i l is = ack_new f _ i l is
no_replies f ToHelperLink bytes never i l is = absurd (never refl)
