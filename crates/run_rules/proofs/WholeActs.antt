-- A token that comes takes at most one act, and only the oracle at that moment counts.
use Rattle.std.proofs.Common.{◌≡◌, ◌+◌, ℕ, nat_eq, nat_lt, ◌&&◌, true, false, cond, Bool, List, [], ◌∷◌, length, Option, Some, None, refl}
use Rattle.std.proofs.lemmas.Bool.{cond_both}
use Rattle.mailbox_rules.specs.Requests.{Command, Line}
use Rattle.token_rules.specs.Tokens.{Act, Token, Deposit, Submission, ProofToHelper, ProofToLeader, Ordered, Replied, HeldDeposit, HeldProof, Challenge, Answer, Later, Injected, Foreign, Row, World, Oracle}
use Rattle.token_rules.specs.Rows.{Arrival, Next, Kept, Passed, arrival_of, reply_step, LeaderSays, LeaderNothing, LeaderLater, LeaderKept, LeaderIssues, ClientDoes, Stays, GoesOn, Finishes, ClientHears, client_does}
use Rattle.token_rules.specs.Run.{acted, carries, carries_next, client_hears, client_moves, comes, command_comes, foreign_acks, foreign_at_leader, foreign_frame_comes, foreign_reply_comes, goes_on, has_settle, injected_comes, is_full, is_refused, leader_says, notes, reply_applied, reply_comes}
use Rattle.token_rules.specs.Tokens.{Phase}
use Rattle.mailbox_rules.specs.Requests.{Request}

-- what a move is under an oracle: no act, or the act of that moment
pub data OneAct (w : World) (F : Oracle → World) : Type 0 where
  NoAct : (v : World) → v.moment ≡ w.moment → ((o : Oracle) → F o ≡ v) → OneAct w F
  TheAct : (G : Act → World) → ((a : Act) → (G a).moment ≡ w.moment + 1) → ((o : Oracle) → F o ≡ G (o w.moment)) → OneAct w F

if_either : (w : World) (t : Bool) (F G : Oracle → World) → OneAct w F → OneAct w G → OneAct w (λ o. cond t (F o) (G o))
if_either w true F G h k = h
if_either w false F G h k = k

carried : (w : World) (x : Line) → OneAct w (λ o. carries_next o w x)
unfolding carries_next
carried w x = if_either w (w.foreign x.lane) _ _
    (TheAct (λ a. carries (acted w) x a.row a.does) (λ a. refl) (λ o. refl)) (NoAct _ refl (λ o. refl))

ordered : (w : World) (n : ℕ) (x : Line) (a : Arrival) → OneAct w (λ o. command_comes o w n x a)
unfolding command_comes
ordered w n x Next = carried w x
ordered w n x Kept = NoAct _ refl (λ o. refl)
ordered w n x Passed = NoAct w refl (λ o. refl)

said : (w u : World) (c s : ℕ) (x : Phase) (says : LeaderSays) → u.moment ≡ w.moment → (leader_says u c s x says).moment ≡ w.moment
unfolding leader_says
said w u c s x LeaderNothing e = e
said w u c s x LeaderLater e = e
said w u c s x LeaderKept e = e
said w u c s x (LeaderIssues y) e = e

reply_moment : (w : World) (x : Line) (a : Act) → (foreign_reply_comes w x a).moment ≡ w.moment
unfolding foreign_reply_comes foreign_acks
reply_moment w x a = cond_both {A = World} a.fits _ _ (λ v. v.moment ≡ w.moment)
    (λ e. cond_both {A = World} (has_settle x.command a.settles) _ _ (λ v. v.moment ≡ w.moment) (λ f. refl) (λ f. refl)) (λ e. refl)

replied : (w : World) (n : ℕ) (x : Line) → OneAct w (λ o. reply_comes o w n x)
unfolding reply_comes reply_applied
replied w n x = if_either w (nat_eq n (w.acknowledged + 1) && nat_lt w.acknowledged (length w.commands)) _ _
    (if_either w (w.foreign x.lane) _ _
    (TheAct (λ a. foreign_reply_comes (acted w) x a) (λ a. reply_moment (acted w) x a) (λ o. refl))
    (NoAct _ (said w _ x.lane x.serial _ (reply_step x.serial x.command).says refl) (λ o. refl)))
    (NoAct w refl (λ o. refl))

at_leader_moment : (w : World) (c : ℕ) (r : Row) (says : Option ℕ) (y : Option Command) → (foreign_at_leader w c r says y).moment ≡ w.moment
unfolding foreign_at_leader
at_leader_moment w c r says (Some y) = refl
at_leader_moment w c r says None = refl

frame_moment : (w : World) (to_leader : Bool) (c : ℕ) (a : Act) → (foreign_frame_comes w to_leader c a).moment ≡ w.moment
unfolding foreign_frame_comes
frame_moment w false c a = refl
frame_moment w true c a = cond_both {A = World} (is_full w) _ _ (λ v. v.moment ≡ w.moment) (λ e. refl) (λ e. at_leader_moment w c a.row a.says a.issues)

from_outside : (w : World) (to_leader : Bool) (lane : Option ℕ) → OneAct w (λ o. injected_comes o w to_leader lane)
unfolding injected_comes
from_outside w to_leader None = NoAct _ refl (λ o. refl)
from_outside w to_leader (Some c) = if_either w (w.foreign c) _ _
    (TheAct (λ a. foreign_frame_comes (acted w) to_leader c a) (λ a. frame_moment (acted w) to_leader c a) (λ o. refl)) (NoAct w refl (λ o. refl))

went_on : (w : World) (c : ℕ) (rs : List Request) → (goes_on w c rs).moment ≡ w.moment
unfolding goes_on
went_on w c [] = refl
went_on w c (r ∷ rest) = cond_both {A = World} (is_refused w c r) _ _ (λ v. v.moment ≡ w.moment) (λ e. went_on (notes w c _) c rest) (λ e. refl)

moved : (w : World) (c s : ℕ) (does : ClientDoes) → (client_moves w c s does).moment ≡ w.moment
unfolding client_moves
moved w c s Stays = refl
moved w c s GoesOn = refl
moved w c s Finishes = went_on (notes w c _) c (w.requests c).waiting

heard : (w : World) (c s : ℕ) (h : ClientHears) → (client_hears w c s h).moment ≡ w.moment
unfolding client_hears
heard w c s h = cond_both {A = World} (nat_eq s (w.lanes c).serial) _ _ (λ v. v.moment ≡ w.moment) (λ e. moved w c s (client_does h (w.lanes c).step)) (λ e. refl)

pub one_act : (w : World) (t : Token) → OneAct w (λ o. comes o w t)
unfolding comes
one_act w (Deposit c s) = NoAct _ refl (λ o. refl)
one_act w (ProofToHelper c s) = NoAct _ refl (λ o. refl)
one_act w (Ordered n x) = ordered w n x (arrival_of w.window w.carried n)
one_act w (Submission c s y) = NoAct _ (said w _ c s _ _ refl) (λ o. refl)
one_act w (ProofToLeader c s) = NoAct _ (said w _ c s _ _ refl) (λ o. refl)
one_act w (Replied n x) = replied w n x
one_act w (HeldDeposit c s) = NoAct _ (heard w c s _) (λ o. refl)
one_act w (Challenge c s) = NoAct _ (heard w c s _) (λ o. refl)
one_act w (HeldProof c s) = NoAct _ (heard w c s _) (λ o. refl)
one_act w (Answer c s) = NoAct _ (heard w c s _) (λ o. refl)
one_act w (Later c s) = NoAct w refl (λ o. refl)
one_act w (Injected to_leader lane) = from_outside w to_leader lane
one_act w (Foreign c) = NoAct w refl (λ o. refl)
