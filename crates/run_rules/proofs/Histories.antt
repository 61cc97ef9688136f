-- What was sent, issued and carried out is never taken back: so a token run within a history was always within it.
use Rattle.std.proofs.Common.{◌≡◌, ℕ, zero, suc, ◌+◌, nat_eq, nat_lt, ◌&&◌, true, false, Bool, List, [], ◌∷◌, ◌++◌, length, take, Option, Some, None, slice_get, refl, sym, ap, ◌∙◌, subst, append-nil, append_assoc, inl, inr}
use Rattle.std.proofs.lemmas.Bool.{cond_both, cases_eq}
use Rattle.mailbox_rules.specs.Requests.{Request, Line, entry, Operation, Command, Settles}
use Rattle.token_rules.specs.Tokens.{Token, Deposit, Submission, ProofToHelper, ProofToLeader, Ordered, Replied, HeldDeposit, HeldProof, Challenge, Answer, Later, Injected, Foreign, Row, Requests, Phase, World, Oracle, Told, put}
use Rattle.token_rules.specs.Rows.{Arrival, Next, Kept, Passed, arrival_of, LeaderSays, LeaderNothing, LeaderLater, LeaderKept, LeaderIssues, ClientDoes, Stays, GoesOn, Finishes, ClientHears, client_does, reply_step}
use Rattle.token_rules.specs.Run.{sent_of, with_leader, issues, line_of, leader_says, carries, carries_next, command_comes, acknowledges, acted, foreign_acks, has_settle, foreign_reply_comes, reply_applied, reply_comes, foreign_at_leader, foreign_frame_comes, injected_comes, is_full, notes, goes_on, is_refused, client_moves, client_hears, comes, delivers, delivers_at, client_sends, asks, resends, ticks, handed_last}
use Rattle.run_rules.specs.Book.{Book}
use Rattle.run_rules.specs.Follows.{Within}
use Rattle.run_rules.proofs.Basics.{put_here, put_other}

abbrev pub Longer : {X : Type 0} → List X → List X → Type 0
Longer {X} xs ys = (more : List X) × (ys ≡ xs ++ more)

same_list : {X : Type 0} (xs : List X) → Longer xs xs
same_list xs = ([], sym (append-nil xs))

longer_then : {X : Type 0} (xs ys zs : List X) → Longer xs ys → Longer ys zs → Longer xs zs
longer_then xs ys zs h k = (h.0 ++ k.0, k.1 ∙ ap (λ l. l ++ k.0) h.1 ∙ append_assoc xs h.0 k.0)

pub record Extends (w v : World) : Type 0 where
  pub sent : (c : ℕ) → Longer (sent_of w c) (sent_of v c)
  pub commands : Longer w.commands v.commands
  pub journal : Longer w.journal v.journal

same : (w : World) → Extends w w
same w =
    record { sent = λ c. same_list (sent_of w c); commands = same_list w.commands; journal = same_list w.journal }

then : (w v u : World) → Extends w v → Extends v u → Extends w u
then w v u h k = record {
  sent = λ c. longer_then (sent_of w c) (sent_of v c) (sent_of u c) (h.sent c) (k.sent c);
  commands = longer_then w.commands v.commands u.commands h.commands k.commands;
  journal = longer_then w.journal v.journal u.journal h.journal k.journal;
}

issued : (w : World) (x : Line) → Extends w (issues w x)
issued w x =
    record { sent = λ c. same_list (sent_of w c); commands = (x ∷ [], refl); journal = same_list w.journal }

carried : (w : World) (x : Line) (r : Row) (does : Operation) → Extends w (carries w x r does)
carried w x r does =
    record { sent = λ c. same_list (sent_of w c); commands = same_list w.commands; journal = (entry x does ∷ [], refl) }

-- a world with other requests, of which none was taken back
requested : (w : World) (c : ℕ) (mine : Requests) → Longer (sent_of w c) mine.sent → Extends w (record w { requests = put w.requests c mine })
requested w c mine h = record {
  sent = λ d. elim (cases_eq d c) [
    | inl e ↦ subst (λ i. Longer (sent_of w i) (put w.requests c mine i).sent) (sym e) (subst (λ r. Longer (sent_of w c) r.sent) (sym (put_here w.requests c mine)) h)
    | inr n ↦ subst (λ r. Longer (sent_of w d) r.sent) (sym (put_other w.requests c mine d n)) (same_list (sent_of w d))
  ];
  commands = same_list w.commands;
  journal = same_list w.journal;
}

noted : (w : World) (c : ℕ) (told : Told) → Extends w (notes w c told)
noted w c told =
    let h = requested w c (record (w.requests c) { told = (w.requests c).told + 1 }) (same_list _) in record { sent = h.sent; commands = same_list w.commands; journal = same_list w.journal }

went_on : (w : World) (c : ℕ) (rs : List Request) → Extends w (goes_on w c rs)
unfolding goes_on
went_on w c [] = requested w c (record (w.requests c) { waiting = [] }) (same_list _)
went_on w c (r ∷ rest) = cond_both {A = World} (is_refused w c r) _ _ (λ v. Extends w v)
    (λ e. then w _ _ (noted w c _) (went_on (notes w c _) c rest))
    (λ e. let h = requested w c (record (w.requests c) { sent = (w.requests c).sent ++ r ∷ []; waiting = rest }) (r ∷ [], refl) in record { sent = h.sent; commands = same_list w.commands; journal = same_list w.journal })

said : (w : World) (c s : ℕ) (x : Phase) (says : LeaderSays) → Extends w (leader_says w c s x says)
unfolding leader_says
said w c s x LeaderNothing = same w
said w c s x LeaderLater = record { sent = λ d. same_list _; commands = same_list _; journal = same_list _ }
said w c s x LeaderKept = record { sent = λ d. same_list _; commands = same_list _; journal = same_list _ }
said w c s x (LeaderIssues y) = issued w (line_of c s y)

at_row : (w v : World) (c : ℕ) (r : Row) → Extends (with_leader w c r) v → Extends w v
at_row w v c r h = record { sent = h.sent; commands = h.commands; journal = h.journal }

ordered : (o : Oracle) (w : World) (n : ℕ) (x : Line) (a : Arrival) → Extends w (command_comes o w n x a)
unfolding command_comes carries_next
ordered o w n x Next = cond_both {A = World} (w.foreign x.lane) _ _ (λ v. Extends w v)
    (λ e. let h = carried (acted w) x (o w.moment).row (o w.moment).does in record { sent = h.sent; commands = h.commands; journal = h.journal }) (λ e. carried w x _ _)
ordered o w n x Kept = record { sent = λ d. same_list _; commands = same_list _; journal = same_list _ }
ordered o w n x Passed = same w

replied : (o : Oracle) (w : World) (n : ℕ) (x : Line) → Extends w (reply_comes o w n x)
unfolding reply_comes reply_applied foreign_reply_comes foreign_acks
replied o w n x =
    cond_both {A = World} (nat_eq n (w.acknowledged + 1) && nat_lt w.acknowledged (length w.commands)) _ _ (λ v. Extends w v)
    (λ e. cond_both {A = World} (w.foreign x.lane) _ _ (λ v. Extends w v)
    (λ f. cond_both {A = World} (o w.moment).fits _ _ (λ v. Extends w v)
    (λ g. cond_both {A = World} (has_settle x.command (o w.moment).settles) _ _ (λ v. Extends w v)
    (λ i. let h = issued (with_leader (acknowledges (acted w)) x.lane (o w.moment).row) (line_of x.lane x.serial Settles) in record { sent = h.sent; commands = h.commands; journal = h.journal })
    (λ i. record { sent = λ d. same_list _; commands = same_list _; journal = same_list _ }))
    (λ g. record { sent = λ d. same_list _; commands = same_list _; journal = same_list _ }))
    (λ f. let h = said (with_leader (acknowledges w) x.lane (reply_step x.serial x.command).row) x.lane x.serial _ (reply_step x.serial x.command).says in record { sent = h.sent; commands = h.commands; journal = h.journal }))
    (λ e. same w)

moved : (w : World) (c s : ℕ) (does : ClientDoes) → Extends w (client_moves w c s does)
unfolding client_moves
moved w c s Stays = same w
moved w c s GoesOn = record { sent = λ d. same_list _; commands = same_list _; journal = same_list _ }
moved w c s Finishes = then w _ _ (noted w c _) (went_on (notes w c _) c (w.requests c).waiting)

heard : (w : World) (c s : ℕ) (h : ClientHears) → Extends w (client_hears w c s h)
unfolding client_hears
heard w c s h =
    cond_both {A = World} (nat_eq s (w.lanes c).serial) _ _ (λ v. Extends w v) (λ e. moved w c s (client_does h (w.lanes c).step)) (λ e. same w)

from_outside : (o : Oracle) (w : World) (to_leader : Bool) (lane : Option ℕ)
    → Extends w (injected_comes o w to_leader lane)
unfolding injected_comes foreign_frame_comes foreign_at_leader
from_outside o w to_leader None =
    record { sent = λ d. same_list _; commands = same_list _; journal = same_list _ }
from_outside o w true (Some c) = cond_both {A = World} (w.foreign c) _ _ (λ v. Extends w v)
    (λ e. cond_both {A = World} (is_full (acted w)) _ _ (λ v. Extends w v) (λ f. record { sent = λ d. same_list _; commands = same_list _; journal = same_list _ }) (λ f. by_issue (o w.moment).issues)) (λ e. same w)
  where
    by_issue : (y : Option Command)
        → Extends w (foreign_at_leader (acted w) c (o w.moment).row (o w.moment).says y)
    by_issue (Some y) = let h = issued (with_leader (acted w) c (o w.moment).row) (line_of c (o w.moment).row.serial y) in record { sent = h.sent; commands = h.commands; journal = h.journal }
    by_issue None = record { sent = λ d. same_list _; commands = same_list _; journal = same_list _ }
from_outside o w false (Some c) =
    cond_both {A = World} (w.foreign c) _ _ (λ v. Extends w v) (λ e. record { sent = λ d. same_list _; commands = same_list _; journal = same_list _ }) (λ e. same w)

pub comes_extends : (o : Oracle) (w : World) (t : Token) → Extends w (comes o w t)
unfolding comes
comes_extends o w (Deposit c s) =
    record { sent = λ d. same_list _; commands = same_list _; journal = same_list _ }
comes_extends o w (ProofToHelper c s) =
    record { sent = λ d. same_list _; commands = same_list _; journal = same_list _ }
comes_extends o w (Ordered n x) = ordered o w n x (arrival_of w.window w.carried n)
comes_extends o w (Submission c s y) = at_row w _ c _ (said (with_leader w c _) c s _ _)
comes_extends o w (ProofToLeader c s) = at_row w _ c _ (said (with_leader w c _) c s _ _)
comes_extends o w (Replied n x) = replied o w n x
comes_extends o w (HeldDeposit c s) = heard w c s _
comes_extends o w (Challenge c s) = heard w c s _
comes_extends o w (HeldProof c s) = heard w c s _
comes_extends o w (Answer c s) = heard w c s _
comes_extends o w (Later c s) = same w
comes_extends o w (Injected to_leader lane) = from_outside o w to_leader lane
comes_extends o w (Foreign c) = same w

-- ---- within a history

taken : {X : Type 0} (xs ys all : List X) → Longer xs ys → ys ≡ take (length ys) all
    → xs ≡ take (length xs) all
taken xs ys all h e = front xs h.0 all (length ys) (sym h.1 ∙ e)
  where
    front : {X : Type 0} (xs more all : List X) (n : ℕ) → xs ++ more ≡ take n all → xs ≡ take (length xs) all
    front [] more all n e = refl
    front (x ∷ xs) more (y ∷ all) (suc n) e = let one : x ≡ y = cc in let rest : xs ++ more ≡ take n all = cc in ap (λ z. z ∷ xs) one ∙ ap (λ zs. y ∷ zs) (front xs more all n rest)
    front (x ∷ xs) more [] (suc n) e = absurd (cc e)
    front (x ∷ xs) more all zero e = absurd (cc e)

pub within_back : (b : Book) (w v : World) → Extends w v → Within b v → Within b w
within_back b w v h k = record {
  sent = λ c. taken (sent_of w c) (sent_of v c) (b.sent c) (h.sent c) (k.sent c);
  commands = taken w.commands v.commands b.commands h.commands k.commands;
  journal = taken w.journal v.journal b.entries h.journal k.journal;
}

-- ---- so each move of a `finish` stays within a history only from a world that was within it

found_extends : (o : Oracle) (w : World) (t : Option Token) → Extends w (delivers o w t)
unfolding delivers
found_extends o w (Some t) = comes_extends o w t
found_extends o w None = same w

pub back_delivers : (b : Book) (o : Oracle) (w : World) (n : ℕ) → Within b (delivers_at o w n) → Within b w
unfolding delivers_at
back_delivers b o w n k = within_back b w _ (found_extends o w (slice_get w.pool n)) k

pub back_hands : (b : Book) (o : Oracle) (w : World) (c before : ℕ) → Within b (handed_last o w c before)
    → Within b w
unfolding handed_last
back_hands b o w c before k = within_back b w _ (found_extends o w _) k

pub back_sends : (b : Book) (w : World) (c : ℕ) → Within b (client_sends w c) → Within b w
unfolding client_sends
back_sends b w c k =
    within_back b w (client_sends w c) (cond_both {A = World} (w.foreign c) _ _ (λ v. Extends w v) (λ e. same w)
    (λ e. record { sent = λ d. same_list _; commands = same_list _; journal = same_list _ })) k

resent_extends : (w : World) (x : Option Line) → Extends w (resends w x)
unfolding resends
resent_extends w (Some x) = record { sent = λ d. same_list _; commands = same_list _; journal = same_list _ }
resent_extends w None = same w

pub back_ticks : (b : Book) (w : World) → Within b (ticks w) → Within b w
unfolding ticks
back_ticks b w k = within_back b w _ (resent_extends w (slice_get w.commands w.acknowledged)) k

-- ---- a client that is asked

asked_extends : (w : World) (c : ℕ) (r : Request) → Extends w (asks w c r)
unfolding asks
asked_extends w c r = cond_both {A = World} (nat_eq (w.lanes c).step 0) _ _ (λ v. Extends w v)
    (λ e. went_on w c ((w.requests c).waiting ++ r ∷ []))
    (λ e. requested w c (record (w.requests c) { waiting = (w.requests c).waiting ++ r ∷ [] }) (same_list _))

pub back_asks : (b : Book) (w : World) (c : ℕ) (r : Request) → Within b (asks w c r) → Within b w
back_asks b w c r k = within_back b w (asks w c r) (asked_extends w c r) k
