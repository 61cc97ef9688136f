-- Each reply of the helper to a foreign command fits at the leader: so no move counts one that doesn't.
use Rattle.std.proofs.Common.{◌≡◌, ◌∙◌, ◌+◌, ◌-◌, ℕ, nat_eq, nat_le, nat_lt, ◌&&◌, true, false, cond, Bool, List, [], ◌∷◌, length, Option, Some, None, Ok, slice_get, refl, sym, ap, subst, inl, inr}
use Rattle.std.proofs.lemmas.Bool.{cases_Bool, cond_both, eq-eqb}
use Rattle.frame_rules.specs.Frames.{PlainBody}
use Rattle.frame_rules.specs.Whole.{has_width, is_reply, linked, whole}
use Rattle.mailbox_rules.specs.Requests.{Command, Line, Operation, AddBox, BeginWrite, AuditWrite, SettleWrite, ReadBox, RetireBox, Refuse, Request}
use Rattle.mailbox_rules.specs.Tables.{Mailbox, Result, Registered, Taken, Full, Began, WasAudited, Settled, Gave, NoBox, Refused, box_of, given, register_result, result_of}
use Rattle.token_rules.specs.Tokens as token
use Rattle.token_rules.specs.Tokens.{Oracle, Phase, Row, Token, World}
use Rattle.token_rules.specs.Rows.{Arrival, Next, Kept, Passed, arrival_of, reply_step, LeaderSays, LeaderNothing, LeaderLater, LeaderKept, LeaderIssues, ClientDoes, Stays, GoesOn, Finishes, ClientHears, client_does}
use Rattle.token_rules.specs.Run.{acknowledges, acted, asks, carries_next, client_hears, client_moves, client_sends, comes, command_comes, foreign_at_leader, foreign_frame_comes, goes_on, injected_comes, is_full, is_refused, leader_says, notes, reply_applied, reply_comes, resends, ticks, with_leader}
use Rattle.step_rules.specs.LeaderReplies as steps
use Rattle.run_rules.specs.Letters.{FrameWorld, Letter, ToLeaderLink}
use Rattle.run_rules.specs.Book.{Book}
use Rattle.run_rules.specs.Values.{shares_at, writes_at}
use Rattle.run_rules.specs.Frames.{reply_with}
use Rattle.run_rules.specs.Follows.{Carries, Follows, ForeignReply, IsForeignLink, Sound}
use Rattle.run_rules.specs.Known.{Known}
use Rattle.run_rules.specs.Acts.{act_of}
use Rattle.run_rules.proofs.Basics.{whole_spelled}
use Rattle.run_rules.proofs.ForeignLeaderLink.{ack_act, fits_then, linked_either}
use Rattle.run_rules.proofs.ReadCommands.{masked_length}
use Rattle.run_rules.proofs.Widths.{share_width}

-- ---- moves that count none

said : (w u : World) (c s : ℕ) (x : Phase) (says : LeaderSays) → u.misfits ≡ w.misfits
    → (leader_says u c s x says).misfits ≡ w.misfits
unfolding leader_says
said w u c s x LeaderNothing e = e
said w u c s x LeaderLater e = e
said w u c s x LeaderKept e = e
said w u c s x (LeaderIssues y) e = e

ordered : (o : Oracle) (w : World) (n : ℕ) (x : Line) (a : Arrival) → (command_comes o w n x a).misfits ≡ w.misfits
unfolding command_comes carries_next
ordered o w n x Next =
    cond_both {A = World} (w.foreign x.lane) _ _ (λ v. v.misfits ≡ w.misfits) (λ e. refl) (λ e. refl)
ordered o w n x Kept = refl
ordered o w n x Passed = refl

-- a reply to a client's command
own_replied : (o : Oracle) (w : World) (n : ℕ) (x : Line) → w.foreign x.lane ≡ false
    → (reply_comes o w n x).misfits ≡ w.misfits
unfolding reply_comes reply_applied
own_replied o w n x honest =
    rw honest (cond_both {A = World} (nat_eq n (w.acknowledged + 1) && nat_lt w.acknowledged (length w.commands)) _ _ (λ v. v.misfits ≡ w.misfits)
    (λ e. said w (with_leader (acknowledges w) x.lane (reply_step x.serial x.command).row) x.lane x.serial _ (reply_step x.serial x.command).says refl)
    (λ e. refl))

at_leader : (w : World) (c : ℕ) (r : Row) (says : Option ℕ) (y : Option Command)
    → (foreign_at_leader w c r says y).misfits ≡ w.misfits
unfolding foreign_at_leader
at_leader w c r says (Some y) = refl
at_leader w c r says None = refl

from_outside : (o : Oracle) (w : World) (to_leader : Bool) (lane : Option ℕ)
    → (injected_comes o w to_leader lane).misfits ≡ w.misfits
unfolding injected_comes foreign_frame_comes
from_outside o w to_leader None = refl
from_outside o w false (Some c) =
    cond_both {A = World} (w.foreign c) _ _ (λ v. v.misfits ≡ w.misfits) (λ e. refl) (λ e. refl)
from_outside o w true (Some c) = cond_both {A = World} (w.foreign c) _ _ (λ v. v.misfits ≡ w.misfits)
    (λ e. cond_both {A = World} (is_full (acted w)) _ _ (λ v. v.misfits ≡ w.misfits) (λ f. refl)
    (λ f. at_leader (acted w) c (o w.moment).row (o w.moment).says (o w.moment).issues)) (λ e. refl)

went_on : (w : World) (c : ℕ) (rs : List Request) → (goes_on w c rs).misfits ≡ w.misfits
unfolding goes_on
went_on w c [] = refl
went_on w c (r ∷ rest) = cond_both {A = World} (is_refused w c r) _ _ (λ v. v.misfits ≡ w.misfits) (λ e. went_on (notes w c _) c rest) (λ e. refl)

moved : (w : World) (c s : ℕ) (does : ClientDoes) → (client_moves w c s does).misfits ≡ w.misfits
unfolding client_moves
moved w c s Stays = refl
moved w c s GoesOn = refl
moved w c s Finishes = went_on (notes w c _) c (w.requests c).waiting

heard : (w : World) (c s : ℕ) (h : ClientHears) → (client_hears w c s h).misfits ≡ w.misfits
unfolding client_hears
heard w c s h = cond_both {A = World} (nat_eq s (w.lanes c).serial) _ _ (λ v. v.misfits ≡ w.misfits) (λ e. moved w c s (client_does h (w.lanes c).step)) (λ e. refl)

pub asks_fit : (w : World) (c : ℕ) (r : Request) → (asks w c r).misfits ≡ w.misfits
unfolding asks
asks_fit w c r = cond_both {A = World} (nat_eq (w.lanes c).step 0) _ _ (λ v. v.misfits ≡ w.misfits) (λ e. went_on w c _) (λ e. refl)

pub sends_fit : (w : World) (c : ℕ) → (client_sends w c).misfits ≡ w.misfits
unfolding client_sends
sends_fit w c = cond_both {A = World} (w.foreign c) _ _ (λ v. v.misfits ≡ w.misfits) (λ e. refl) (λ e. refl)

resent_fit : (w : World) (x : Option Line) → (resends w x).misfits ≡ w.misfits
unfolding resends
resent_fit w (Some x) = refl
resent_fit w None = refl

pub ticks_fit : (w : World) → (ticks w).misfits ≡ w.misfits
unfolding ticks
ticks_fit w = resent_fit w (slice_get w.commands w.acknowledged)

-- ---- a reply to a foreign command is read

-- a box gives as many bytes as the width
abbrev HasWidth : ℕ → Result → Type 0
HasWidth width (Gave n bytes) = length bytes ≡ width
HasWidth width r = Unit {0}

given_width : (b : Book) (i n : ℕ) (o : Option Mailbox) → Sound b → slice_get (shares_at b 1 i).boxes n ≡ o
    → HasWidth b.settings.width (given n o)
given_width b i n None sound e = tt
given_width b i n (Some box) sound e =
    cond_both {A = Result} box.live _ _ (HasWidth b.settings.width) (λ live. share_width b 1 i n box sound e) (λ dead. tt)

register_width : (b : Book) (i : ℕ) (o : Option ℕ)
    → HasWidth b.settings.width (register_result b.settings.boxes (shares_at b 1 i) o)
register_width b i (Some n) = tt
register_width b i None =
    cond_both {A = Result} (nat_le b.settings.boxes (length (shares_at b 1 i).boxes)) _ _ (HasWidth b.settings.width) (λ e. tt) (λ e. tt)

result_width : (b : Book) (i : ℕ) (x : Line) (does : Operation) → Sound b
    → HasWidth b.settings.width (result_of b.settings.boxes (writes_at b 1) (shares_at b 1 i) x does)
unfolding result_of
result_width b i x (AddBox a) sound = register_width b i (box_of a (shares_at b 1 i).boxes)
result_width b i x BeginWrite sound = tt
result_width b i x AuditWrite sound = tt
result_width b i x SettleWrite sound = tt
result_width b i x (ReadBox n) sound = given_width b i n (slice_get (shares_at b 1 i).boxes n) sound refl
result_width b i x (RetireBox n) sound = given_width b i n (slice_get (shares_at b 1 i).boxes n) sound refl
result_width b i x Refuse sound = tt

abbrev IsRead : ℕ → PlainBody → Type 0
IsRead width body = is_reply body && has_width width body ≡ true

reply_read : (b : Book) (i : ℕ) (x : Line) (r : Result) → HasWidth b.settings.width r
    → IsRead b.settings.width (reply_with b i x r)
unfolding reply_with
reply_read b i x (Registered n) h = refl
reply_read b i x (Taken n) h = refl
reply_read b i x (Full limit) h = refl
reply_read b i x (Began count) h = refl
reply_read b i x WasAudited h = refl
reply_read b i x (Settled true) h = refl
reply_read b i x (Settled false) h = refl
reply_read b i x (Gave n bytes) h = eq-eqb _ _ (masked_length bytes _ x.lane x.serial b.settings.width h)
reply_read b i x (NoBox n) h = refl
reply_read b i x Refused h = refl

pub foreign_read : (b : Book) (i : ℕ) (x : Line) (body : PlainBody) → Sound b → ForeignReply b i x body → IsRead b.settings.width body
foreign_read b i x body sound reply = elim (reply.answers) [
  | inl refused ↦ subst (IsRead b.settings.width) (sym refused.1.1) refl
  | inr did ↦
      subst (IsRead b.settings.width) (sym did.1) (reply_read b i x _ (result_width b i x reply.does sound))
]

foreign_replied : (b : Book) (f : FrameWorld) (v w : World) (n i : ℕ) (x : Line) (l : Letter) → Known b v w
    → slice_get w.pool i ≡ Some (token.Replied n x) → Follows b f w → b.foreign x.lane ≡ true → Carries b (token.Replied n x) l
    → (reply_comes (λ m. act_of f (token.Replied n x) l) w n x).misfits ≡ w.misfits
foreign_replied b f v w n i x l known e h foreign carries =
    let one : IsForeignLink b l ToLeaderLink n x (token.Replied n x) = rw foreign at carries in
    let g = one.frame in
    let claim = known.lawful.coherent.pool i (token.Replied n x) e in
    let fr = one.spelled.is_frame in
    let read : whole l.bytes ≡ Ok g = ap whole one.spelled.bytes ∙ whole_spelled g fr in
    let width : f.leader.settings.width ≡ b.settings.width = ap (λ s. s.width) h.leader.settings in
    let taken : is_reply g.body && has_width f.leader.settings.width g.body ≡ true =
    ap (λ m. is_reply g.body && has_width m g.body) width ∙ foreign_read b (n - 1) x g.body known.sound one.body in
    let found : linked is_reply f.leader.settings.width l.bytes ≡ Some g =
    linked_either f.leader.settings.width g l.bytes read ∙ ap (λ t. cond t (Some g) None) taken in
    fits_then b f v w n x g known h foreign claim.1.0 claim.1.1 one.link one.lane one.serial one.body fr
    (λ m. act_of f (token.Replied n x) l) (ap (λ z. ack_act (steps.if_reply f.leader z) x.lane) found)

-- ---- whatever comes

replied : (b : Book) (f : FrameWorld) (v w : World) (n i : ℕ) (x : Line) (l : Letter) → Known b v w
    → slice_get w.pool i ≡ Some (token.Replied n x) → Follows b f w → Carries b (token.Replied n x) l
    → (reply_comes (λ m. act_of f (token.Replied n x) l) w n x).misfits ≡ w.misfits
replied b f v w n i x l known e h carries = elim (cases_Bool (b.foreign x.lane)) [
  | inl foreign ↦ foreign_replied b f v w n i x l known e h foreign carries
  | inr honest ↦ own_replied (λ m. act_of f (token.Replied n x) l) w n x (ap (λ g. g x.lane) h.foreign ∙ honest)
]

pub come_fits : (b : Book) (f : FrameWorld) (v w : World) (t : Token) (i : ℕ) (l : Letter) → Known b v w
    → slice_get w.pool i ≡ Some t → Follows b f w → Carries b t l → (comes (λ m. act_of f t l) w t).misfits ≡ w.misfits
unfolding comes
come_fits b f v w (token.Deposit c s) i l known e h k = refl
come_fits b f v w (token.ProofToHelper c s) i l known e h k = refl
come_fits b f v w (token.Ordered n x) i l known e h k = ordered _ w n x (arrival_of w.window w.carried n)
come_fits b f v w (token.Submission c s y) i l known e h k = said w _ c s _ _ refl
come_fits b f v w (token.ProofToLeader c s) i l known e h k = said w _ c s _ _ refl
come_fits b f v w (token.Replied n x) i l known e h k = replied b f v w n i x l known e h k
come_fits b f v w (token.HeldDeposit c s) i l known e h k = heard w c s _
come_fits b f v w (token.Challenge c s) i l known e h k = heard w c s _
come_fits b f v w (token.HeldProof c s) i l known e h k = heard w c s _
come_fits b f v w (token.Answer c s) i l known e h k = heard w c s _
come_fits b f v w (token.Later c s) i l known e h k = refl
come_fits b f v w (token.Injected to_leader lane) i l known e h k = from_outside _ w to_leader lane
come_fits b f v w (token.Foreign c) i l known e h k = refl
