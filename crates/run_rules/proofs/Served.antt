-- An answer to a client's current request finds it served: all its commands were acknowledged.
use Rattle.std.proofs.Common.{◌≡◌, ◌∙◌, ◌<◌, ◌≤◌, ◌*◌, ◌+◌, ℕ, suc, nat_eq, true, false, Some, refl, sym, ap, subst, arith}
use Rattle.std.proofs.lemmas.Bool.{eq-eqb}
use Rattle.mailbox_rules.specs.Requests.{Request, Command, Registers, Begins, Audits, Settles, Reads, Retires, Line, opening_of, request_at}
use Rattle.mailbox_rules.specs.Tables.{Result, Registered, Taken, Full, Began, WasAudited, Settled, Gave, NoBox, Refused}
use Rattle.token_rules.specs.Tokens as token
use Rattle.token_rules.specs.Tokens.{World, Lane, Oracle}
use Rattle.token_rules.specs.Rows.{Finishes, HeardAnswer, client_does}
use Rattle.token_rules.specs.Run.{client_hears, client_moves, comes, sent_of}
use Rattle.token_rules.specs.Stages.{Stage, Asked, Noted, Heard, Opening, Opened, Invited, Proving, Shown, Trusted, Checking, Checked, Settling, Settled, Served, Rested, Fits, far, last_step}
use Rattle.token_rules.specs.Invariant.{Claims, Coherent, HasAll, Made, state}
use Rattle.step_rules.specs.Client.{Current}
use Rattle.step_rules.specs.ClientReplies.{refusal_in}
use Rattle.run_rules.specs.Letters.{FrameWorld}
use Rattle.run_rules.specs.Book.{Book, place, request_of}
use Rattle.run_rules.specs.Frames.{answer_at, answer_with, last_line, result_at}
use Rattle.run_rules.specs.Follows.{CurrentIs, Follows}
use Rattle.run_rules.specs.Known.{Known}
use Rattle.run_rules.specs.Laws.{ComesFollows}
use Rattle.run_rules.proofs.HelperOrders.{asked_was_sent}
use Rattle.run_rules.proofs.Answered.{Answers, EndsSo, IsPlain, answer_follows, answer_to}

served : (lane : Lane) (x : Stage) (s : ℕ) → Fits lane x → 32 * s + 15 ≤ far lane x → s ≡ lane.serial → 0 < lane.step
    → x ≡ Served
served lane Served s f l e pos = refl
served lane Rested s f l e pos = let d = f.step in absurd (omega (arith, d, pos))
served lane Asked s f l e pos = absurd (omega (arith, l, e))
served lane Noted s f l e pos = absurd (omega (arith, l, e))
served lane Heard s f l e pos = absurd (omega (arith, l, e))
served lane Opening s f l e pos = absurd (omega (arith, l, e))
served lane Opened s f l e pos = absurd (omega (arith, l, e))
served lane Invited s f l e pos = absurd (omega (arith, l, e))
served lane Proving s f l e pos = absurd (omega (arith, l, e))
served lane Shown s f l e pos = absurd (omega (arith, l, e))
served lane Trusted s f l e pos = absurd (omega (arith, l, e))
served lane Checking s f l e pos = absurd (omega (arith, l, e))
served lane Checked s f l e pos = absurd (omega (arith, l, e))
served lane Settling s f l e pos = absurd (omega (arith, l, e))
served lane Settled s f l e pos = absurd (omega (arith, l, e))

-- the client is at the last step of its request
pub record IsServed (w : World) (p : ℕ → Stage) (c : ℕ) : Type 0 where
  pub step : (w.lanes c).step ≡ last_step (w.lanes c).opening
  pub has : HasAll (state w p) c (w.lanes c).serial (w.lanes c).opening

pub is_served : (w : World) (p : ℕ → Stage) (c s : ℕ) → Coherent w p → Claims (state w p) (token.Answer c s)
    → s ≡ (w.lanes c).serial → 0 < (w.lanes c).step → IsServed w p c
is_served w p c s ok claim same pos =
    let fits = ok.fits c claim.0 in
    let at = served (w.lanes c) (p c) s fits claim.1 same pos in
    let here : Fits (w.lanes c) Served = subst (Fits (w.lanes c)) at fits in
    let made : Made (state w p) c (w.lanes c) Served = subst (Made (state w p) c (w.lanes c)) at (ok.made c claim.0) in
    record { step = here.step; has = made }

-- so the answer ends the request
pub hears_is : (w : World) (c s : ℕ) → s ≡ (w.lanes c).serial → client_does HeardAnswer (w.lanes c).step ≡ Finishes
    → client_hears w c s HeardAnswer ≡ client_moves w c s Finishes
unfolding client_hears
hears_is w c s same does = let t : nat_eq s (w.lanes c).serial ≡ true = eq-eqb _ _ same in rw (t, does) refl

-- ---- an answer is no refusal of bytes that are no frame

plain_with : (b : Book) (i : ℕ) (x : Line) (first second : Result) → IsPlain (refusal_in (answer_with b i x first second))
unfolding answer_with
plain_with b i x first (Registered n) = tt
plain_with b i x first (Taken n) = refl
plain_with b i x first (Full n) = refl
plain_with b i x first (Began n) = refl
plain_with b i x first WasAudited = refl
plain_with b i x first (Settled true) = tt
plain_with b i x first (Settled false) = refl
plain_with b i x (Gave m more) (Gave n bytes) = tt
plain_with b i x (Registered m) (Gave n bytes) = refl
plain_with b i x (Taken m) (Gave n bytes) = refl
plain_with b i x (Full m) (Gave n bytes) = refl
plain_with b i x (Began m) (Gave n bytes) = refl
plain_with b i x WasAudited (Gave n bytes) = refl
plain_with b i x (Settled t) (Gave n bytes) = refl
plain_with b i x (NoBox m) (Gave n bytes) = refl
plain_with b i x Refused (Gave n bytes) = refl
plain_with b i x first (NoBox n) = refl
plain_with b i x first Refused = refl

pub answer_plain : (b : Book) (c s : ℕ) → IsPlain (refusal_in (answer_at b c s))
unfolding answer_at
answer_plain b c s =
    let x = last_line b c s in
    let i = place b c s x.command in
    plain_with b i x (result_at b 0 i x) (result_at b 1 i x)

-- ---- so it is left to show how the client's request ends at its last step

abbrev pub EndsAt : Book → ℕ → ℕ → Type 0
EndsAt b c s = (f : FrameWorld) (v w : World) (known : Known b v w) → Follows b f w → w.foreign c ≡ false
    → s ≡ (w.lanes c).serial → IsServed w known.lawful.stages c → Known b v (client_moves w c s Finishes)
    → (now : Current) → CurrentIs b c (w.lanes c).step (w.lanes c).serial (Some now)
    → EndsSo b c s (f.clients c) (w.table.got c) (answer_to (f.clients c) now (answer_at b c s))

does_last : (y : Command) → client_does HeardAnswer (last_step y) ≡ Finishes
unfolding client_does
does_last Begins = refl
does_last Registers = refl
does_last Audits = refl
does_last Settles = refl
does_last Reads = refl
does_last Retires = refl

comes_answer : (o : Oracle) (w : World) (c s : ℕ) → comes o w (token.Answer c s) ≡ client_hears w c s HeardAnswer
unfolding comes
comes_answer o w c s = refl

pub request_ends : (b : Book) (c s : ℕ) → b.foreign c ≡ false → EndsAt b c s → ComesFollows b (token.Answer c s)
request_ends b c s hon ends o f v w i l known after e h letter_is =
    let claim = known.lawful.coherent.pool i (token.Answer c s) e in
    answer_follows b o f v w c s l known after h hon letter_is (answer_plain b c s)
    (λ m now at is current same.
    let pos : 0 < (w.lanes c).step = omega (arith, at) in
    let at_end = is_served w known.lawful.stages c s known.lawful.coherent claim same pos in
    let does : client_does HeardAnswer (w.lanes c).step ≡ Finishes = ap (client_does HeardAnswer) at_end.step ∙ does_last (w.lanes c).opening in
    let moves : comes o w (token.Answer c s) ≡ client_moves w c s Finishes = comes_answer o w c s ∙ hears_is w c s same does in
    let left = ends f v w known h claim.0 same at_end (subst (Known b v) moves after) now (subst (λ n. CurrentIs b c n (w.lanes c).serial (Some now)) (sym at) is) in
    let here : client_does HeardAnswer (suc m) ≡ Finishes = ap (client_does HeardAnswer) (sym at) ∙ does in
    subst (Answers b c s (f.clients c) (w.table.got c) (answer_to (f.clients c) now (answer_at b c s))) (sym here) left)

-- a client's last request is the history's
pub record RequestNow (w : World) (c : ℕ) (r : Request) : Type 0 where
  pub is : request_at (sent_of w) c (w.lanes c).serial ≡ Some r
  pub opening : (w.lanes c).opening ≡ opening_of r

pub request_now : (b : Book) (v w : World) (c s : ℕ) (r : Request) → Known b v w → w.foreign c ≡ false
    → 0 < (w.lanes c).step → (w.lanes c).serial ≡ s → request_of b c s ≡ Some r → RequestNow w c r
request_now b v w c s r k hon step same q =
    let last = k.lawful.openings c hon (k.lawful.numbered c hon step) in
    let sent : request_of b c s ≡ Some last.request = asked_was_sent b w c s last.request (k.within.sent c) (ap (request_at (sent_of w) c) (sym same) ∙ last.is) in
    let request : last.request ≡ r = same_request _ _ (sym sent ∙ q) in
    record { is = last.is ∙ ap Some request; opening = last.opening ∙ ap opening_of request }
  where
    same_request : (x y : Request) → Some x ≡ Some y → x ≡ y
    same_request x y e = cc
