-- Pools only grow, and what comes puts nothing from outside into them.
use Rattle.std.proofs.Common.{◌≡◌, ◌∙◌, ◌+◌, ℕ, zero, suc, nat_eq, nat_lt, ◌&&◌, true, false, Bool, List, [], ◌∷◌, ◌++◌, length, Option, Some, None, slice_get, is_none, Ok, Err, Result, refl, sym, ap, append-nil, append_assoc}
use Rattle.std.proofs.lemmas.Bool.{cond_both}
use Rattle.frame_rules.specs.Frames.{PlainFrame}
use Rattle.frame_rules.specs.Spelling.{spelling}
use Rattle.mailbox_rules.specs.Requests.{Command, Line, Request, Settles}
use Rattle.token_rules.specs.Tokens.{Token, Deposit, Submission, ProofToHelper, ProofToLeader, Ordered, Replied, HeldDeposit, HeldProof, Challenge, Answer, Later, Injected, Foreign, Row, Phase, Idle, Deposited, Begun, Proved, Audited, Done, Waiting, Challenged, Auditing, World, Oracle}
use Rattle.token_rules.specs.Rows.{Arrival, Next, Kept, Passed, arrival_of, HelperSays, HelperNothing, HelperLater, HelperHeldDeposit, HelperHeldProof, LeaderSays, LeaderNothing, LeaderLater, LeaderKept, LeaderIssues, ClientDoes, Stays, GoesOn, Finishes, ClientHears, client_does, reply_step}
use Rattle.token_rules.specs.Run.{acted, asks, carries_next, client_hears, client_moves, client_sends, comes, command_comes, foreign_acks, foreign_at_leader, foreign_frame_comes, foreign_reply_comes, foreign_tokens, frame_of, goes_on, has_settle, helper_tokens, injected_comes, is_full, is_refused, kept, leader_says, line_of, notes, own_of, reply_applied, reply_comes, resends, ticks}
use Rattle.step_rules.specs.Client as client
use Rattle.step_rules.specs.Client.{Client, Fault, Progress, Finished}
use Rattle.step_rules.specs.ClientAsks.{asked}
use Rattle.step_rules.specs.Helper as helper
use Rattle.step_rules.specs.HelperCommands.{on_link_bytes}
use Rattle.run_rules.specs.Letters.{Addressee, ToClient, ToLeader, ToHelper, ToLeaderLink, ToHelperLink, Letter, letter, NoOwnBox, FrameWorld}
use Rattle.run_rules.specs.Run as frames
use Rattle.run_rules.proofs.WholeGrows.{AreOwn}

-- ---- the token run

pub record Adds (w v : World) : Type 0 where
  pub more : List Token
  pub pool : v.pool ≡ w.pool ++ more
  pub own : AreOwn more

own_append : (ts us : List Token) → AreOwn ts → AreOwn us → AreOwn (ts ++ us)
own_append [] us h k = k
own_append (t ∷ ts) us h k = (h.0, own_append ts us h.1 k)

adds : (w v : World) (ts : List Token) → v.pool ≡ w.pool ++ ts → AreOwn ts → Adds w v
adds w v ts e own = record { more = ts; pool = e; own = own }

nothing : (w v : World) → v.pool ≡ w.pool → Adds w v
nothing w v e = record { more = []; pool = e ∙ sym (append-nil w.pool); own = tt }

then : (w u v : World) → Adds w u → Adds u v → Adds w v
then w u v h k = record {
  more = h.more ++ k.more;
  pool = k.pool ∙ ap (λ l. l ++ k.more) h.pool ∙ append_assoc w.pool h.more k.more;
  own = own_append h.more k.more h.own k.own;
}

helper_own : (c s : ℕ) (says : HelperSays) → AreOwn (helper_tokens c s says)
helper_own c s HelperNothing = tt
helper_own c s HelperLater = (tt, tt)
helper_own c s HelperHeldDeposit = (tt, tt)
helper_own c s HelperHeldProof = (tt, tt)

foreign_own : (o : Option ℕ) → AreOwn (foreign_tokens o)
foreign_own None = tt
foreign_own (Some c) = (tt, tt)

kept_own : (c s : ℕ) (x : Phase) → AreOwn (kept c s x)
kept_own c s Challenged = (tt, tt)
kept_own c s Done = (tt, tt)
kept_own c s Idle = tt
kept_own c s Deposited = tt
kept_own c s Begun = tt
kept_own c s Proved = tt
kept_own c s Audited = tt
kept_own c s Waiting = tt
kept_own c s Auditing = tt

frame_own : (n c s : ℕ) (y : Command) → AreOwn (frame_of n c s y)
unfolding frame_of
frame_own zero c s y = tt
frame_own (suc zero) c s y = (tt, tt)
frame_own (suc (suc zero)) c s y = (tt, tt)
frame_own (suc (suc (suc zero))) c s y = (tt, tt)
frame_own (suc (suc (suc (suc n)))) c s y = (tt, tt)

went_on : (w : World) (c : ℕ) (rs : List Request) → (goes_on w c rs).pool ≡ w.pool
unfolding goes_on
went_on w c [] = refl
went_on w c (r ∷ rest) = cond_both {A = World} (is_refused w c r) _ _ (λ v. v.pool ≡ w.pool) (λ e. went_on (notes w c _) c rest) (λ e. refl)

said : (w u : World) (c s : ℕ) (x : Phase) (says : LeaderSays) → u.pool ≡ w.pool → Adds w (leader_says u c s x says)
unfolding leader_says
said w u c s x LeaderNothing e = nothing w u e
said w u c s x LeaderLater e = adds w _ (Later c s ∷ []) (ap (λ l. l ++ Later c s ∷ []) e) (tt, tt)
said w u c s x LeaderKept e = adds w _ (kept c s x) (ap (λ l. l ++ kept c s x) e) (kept_own c s x)
said w u c s x (LeaderIssues y) e =
    adds w _ (Ordered (length u.commands + 1) (line_of c s y) ∷ []) (ap (λ l. l ++ Ordered (length u.commands + 1) (line_of c s y) ∷ []) e) (tt, tt)

ordered : (o : Oracle) (w : World) (n : ℕ) (x : Line) (a : Arrival) → Adds w (command_comes o w n x a)
unfolding command_comes carries_next
ordered o w n x Next = cond_both {A = World} (w.foreign x.lane) _ _ (λ v. Adds w v) (λ e. adds w _ (Replied (w.carried + 1) x ∷ []) refl (tt, tt)) (λ e. adds w _ (Replied (w.carried + 1) x ∷ []) refl (tt, tt))
ordered o w n x Kept = adds w _ (Replied n x ∷ []) refl (tt, tt)
ordered o w n x Passed = nothing w w refl

replied : (o : Oracle) (w : World) (n : ℕ) (x : Line) → Adds w (reply_comes o w n x)
unfolding reply_comes reply_applied foreign_reply_comes foreign_acks
replied o w n x =
    cond_both {A = World} (nat_eq n (w.acknowledged + 1) && nat_lt w.acknowledged (length w.commands)) _ _ (λ v. Adds w v)
    (λ e. cond_both {A = World} (w.foreign x.lane) _ _ (λ v. Adds w v)
    (λ f. cond_both {A = World} (o w.moment).fits _ _ (λ v. Adds w v)
    (λ g. cond_both {A = World} (has_settle x.command (o w.moment).settles) _ _ (λ v. Adds w v)
    (λ i. adds w _ (Ordered (length w.commands + 1) (line_of x.lane x.serial Settles) ∷ []) refl (tt, tt))
    (λ i. adds w _ (Foreign x.lane ∷ []) refl (tt, tt)))
    (λ g. nothing w _ refl))
    (λ f. said w _ x.lane x.serial _ (reply_step x.serial x.command).says refl))
    (λ e. nothing w w refl)

moved : (w : World) (c s : ℕ) (does : ClientDoes) → (client_moves w c s does).pool ≡ w.pool
unfolding client_moves
moved w c s Stays = refl
moved w c s GoesOn = refl
moved w c s Finishes = went_on (notes w c _) c (w.requests c).waiting

heard : (w : World) (c s : ℕ) (h : ClientHears) → Adds w (client_hears w c s h)
unfolding client_hears
heard w c s h = cond_both {A = World} (nat_eq s (w.lanes c).serial) _ _ (λ v. Adds w v) (λ e. nothing w _ (moved w c s (client_does h (w.lanes c).step))) (λ e. nothing w w refl)

issuing : (w u : World) (c : ℕ) (r : Row) (says : Option ℕ) (y : Option Command) → u.pool ≡ w.pool → Adds w (foreign_at_leader u c r says y)
unfolding foreign_at_leader
issuing w u c r says (Some y) e =
    adds w _ (Ordered (length u.commands + 1) (line_of c r.serial y) ∷ []) (ap (λ l. l ++ Ordered (length u.commands + 1) (line_of c r.serial y) ∷ []) e) (tt, tt)
issuing w u c r says None e = adds w _ (foreign_tokens says) (ap (λ l. l ++ foreign_tokens says) e) (foreign_own says)

from_outside : (o : Oracle) (w : World) (to_leader : Bool) (lane : Option ℕ) → Adds w (injected_comes o w to_leader lane)
unfolding injected_comes foreign_frame_comes
from_outside o w to_leader None = adds w _ (Foreign 0 ∷ []) refl (tt, tt)
from_outside o w true (Some c) = cond_both {A = World} (w.foreign c) _ _ (λ v. Adds w v)
    (λ e. cond_both {A = World} (is_full (acted w)) _ _ (λ v. Adds w v) (λ f. adds w _ (foreign_tokens (o w.moment).says) refl (foreign_own (o w.moment).says)) (λ f. issuing w (acted w) c _ _ (o w.moment).issues refl))
    (λ e. nothing w w refl)
from_outside o w false (Some c) =
    cond_both {A = World} (w.foreign c) _ _ (λ v. Adds w v) (λ e. adds w _ (foreign_tokens (o w.moment).says) refl (foreign_own (o w.moment).says)) (λ e. nothing w w refl)

pub comes_adds : (o : Oracle) (w : World) (t : Token) → Adds w (comes o w t)
unfolding comes
comes_adds o w (Deposit c s) = adds w _ (helper_tokens c s _) refl (helper_own c s _)
comes_adds o w (ProofToHelper c s) = adds w _ (helper_tokens c s _) refl (helper_own c s _)
comes_adds o w (Ordered n x) = ordered o w n x (arrival_of w.window w.carried n)
comes_adds o w (Submission c s y) = said w _ c s _ _ refl
comes_adds o w (ProofToLeader c s) = said w _ c s _ _ refl
comes_adds o w (Replied n x) = replied o w n x
comes_adds o w (HeldDeposit c s) = heard w c s _
comes_adds o w (Challenge c s) = heard w c s _
comes_adds o w (HeldProof c s) = heard w c s _
comes_adds o w (Answer c s) = heard w c s _
comes_adds o w (Later c s) = nothing w w refl
comes_adds o w (Injected to_leader lane) = from_outside o w to_leader lane
comes_adds o w (Foreign c) = nothing w w refl

pub sends_add : (w : World) (c : ℕ) → Adds w (client_sends w c)
unfolding client_sends
sends_add w c = cond_both {A = World} (w.foreign c) _ _ (λ v. Adds w v) (λ e. nothing w w refl) (λ e. adds w _ _ refl (frame_own (w.lanes c).step c (w.lanes c).serial (w.lanes c).opening))

resent : (w : World) (x : Option Line) → Adds w (resends w x)
unfolding resends
resent w (Some x) = adds w _ (Ordered (w.acknowledged + 1) x ∷ []) refl (tt, tt)
resent w None = nothing w w refl

pub ticks_add : (w : World) → Adds w (ticks w)
unfolding ticks
ticks_add w = resent w (slice_get w.commands w.acknowledged)

pub asks_add : (w : World) (c : ℕ) (r : Request) → Adds w (asks w c r)
unfolding asks
asks_add w c r = cond_both {A = World} (nat_eq (w.lanes c).step 0) _ _ (λ v. Adds w v) (λ e. nothing w _ (went_on w c _)) (λ e. nothing w _ refl)

-- ---- the run over bytes

pub record Posts (f g : FrameWorld) : Type 0 where
  pub more : List Letter
  pub pool : g.pool ≡ f.pool ++ more

none : (f g : FrameWorld) → g.pool ≡ f.pool → Posts f g
none f g e = record { more = []; pool = e ∙ sym (append-nil f.pool) }

went_frames : (f : FrameWorld) (c : ℕ) (rs : List Request) → (frames.goes_on f c rs).pool ≡ f.pool
unfolding frames.goes_on frames.was_asked
went_frames f c [] = refl
went_frames f c (r ∷ rest) = at_asked (asked (f.clients c) r) (frames.goes_on (frames.notes f c (NoOwnBox (own_of r))) c rest) (went_frames (frames.notes f c (NoOwnBox (own_of r))) c rest)
  where
    at_asked : (a : Result Client Fault) (next : FrameWorld) → next.pool ≡ f.pool → (frames.was_asked f c rest next a).pool ≡ f.pool
    at_asked (Ok k) next e = refl
    at_asked (Err (client.NoBox own)) next e = e
    at_asked (Err client.Busy) next e = refl
    at_asked (Err client.Spent) next e = refl
    at_asked (Err (client.Width width)) next e = refl
    at_asked (Err (client.OwnFull n)) next e = refl

progressed : (f : FrameWorld) (c : ℕ) (p : Progress) → (frames.goes_on_after f c p).pool ≡ f.pool
unfolding frames.goes_on_after
progressed f c (Finished outcome) = went_frames (frames.notes f c _) c (f.waiting c)
progressed f c client.Ignored = refl
progressed f c (client.Later r) = refl
progressed f c client.Next = refl

answered : (f g : FrameWorld) (order : Option PlainFrame) (a : helper.Answer) → g.pool ≡ f.pool → Posts f (frames.helper_answers g order a)
unfolding frames.helper_answers
answered f g order (helper.Carried reply) e = let ls = letter ToLeaderLink (spelling reply) ∷ [] in record { more = ls; pool = ap (λ l. l ++ ls) e }
answered f g order (helper.Repeated bytes) e = let ls = letter ToLeaderLink bytes ∷ [] in record { more = ls; pool = ap (λ l. l ++ ls) e }
answered f g order helper.Ignored e = none f g e

pub comes_post : (f : FrameWorld) (to : Addressee) (bytes : List ℕ) → Posts f (frames.comes f to bytes)
unfolding frames.comes
comes_post f (ToClient c) bytes = none f _ (progressed (frames.with_client f c _) c _)
comes_post f ToLeader bytes = record { more = _; pool = refl }
comes_post f ToHelper bytes = record { more = _; pool = refl }
comes_post f ToLeaderLink bytes = record { more = _; pool = refl }
comes_post f ToHelperLink bytes = answered f (record f { helper = (on_link_bytes f.helper bytes).helper }) _ _ refl

pub client_sends_post : (f : FrameWorld) (c : ℕ) → Posts f (frames.client_sends f c)
unfolding frames.client_sends
client_sends_post f c = record { more = _; pool = refl }

pub ticks_post : (f : FrameWorld) → Posts f (frames.ticks f)
unfolding frames.ticks
ticks_post f = record { more = _; pool = refl }

pub asks_post : (f : FrameWorld) (c : ℕ) (r : Request) → Posts f (frames.asks f c r)
asks_post f c r = cond_both {A = FrameWorld} (frames_idle f c) _ _ (λ g. Posts f g) (λ e. none f _ (went_frames f c _)) (λ e. none f _ refl)
  where
    frames_idle : FrameWorld → ℕ → Bool
    frames_idle f c = is_none (f.clients c).current
