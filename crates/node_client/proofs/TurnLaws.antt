-- What a reply leaves of a request: it goes on to a later step, whose frame can be sent, or none is current.
use Rattle.std.proofs.Common.{◌≡◌, ◌≢◌, ℕ, ◌<◌, Bool, true, false, cond, List, length, Option, Some, None, Result, Ok, Err, refl, sym, subst, arith}
use Rattle.std.specs.Prelude.{slice_get, nat_eq}
use Rattle.express_words.specs.declared.refusal.Refusal.{Refusal}
use Rattle.express_words.specs.declared.refusal.Refusal.TheVariants as refusal
use Rattle.frame_rules.specs.Frames as frame
use Rattle.frame_rules.specs.Frames.{PlainFrame, PlainBody}
use Rattle.frame_rules.specs.Whole.{whole}
use Rattle.mailbox_rules.specs.Requests.{Request, Register, Write, Read, Retire}
use Rattle.step_rules.specs.Client.{Client, Owned, Current, Step, Deposits, Submits, ProvesToHelper, ProvesToLeader, Progress, Next, Finished, Turn}
use Rattle.step_rules.specs.ClientAsks.{sends, sent_at, sent_with, body_of, deposit_of, read_deposit, submission_of, read_submission, proof_of}
use Rattle.step_rules.specs.ClientReplies.{ends, ended, on_refusal, on_deposit, on_registered, on_challenge, on_message, on_submission, on_helper_proof, on_leader_proof, by_step, goes_on, refusal_in, of_no_frame, is_mine, by_refusal, if_current, if_whole, on_reply}

-- ---- how many steps are left

abbrev pub left_in : Step → ℕ
left_in Deposits = 4
left_in Submits = 3
left_in (ProvesToHelper ckey) = 2
left_in (ProvesToLeader ckey) = 1

abbrev pub left_at : Option Current → ℕ
left_at None = 0
left_at (Some now) = left_in now.step

abbrev pub steps_left : Client → ℕ
steps_left c = left_at c.current

-- ---- what is left of a request

abbrev pub FaresBy : Progress → (old new : Client) → Type 0
FaresBy Next old new = (sends new ≢ None) × (steps_left new < steps_left old)
FaresBy (Finished outcome) old new = new.current ≡ None
FaresBy other old new = Unit {0}

abbrev pub Fares : Client → Turn → Type 0
Fares c t = FaresBy t.progress c t.client

either : (c : Client) (b : Bool) (x y : Turn) → Fares c x → Fares c y → Fares c (cond b x y)
either c true x y p q = p
either c false x y p q = q

-- ---- refusals

ended_fares : (c : Client) (step : Step) (r : Refusal) → Fares c (ended c step r)
ended_fares c step r = either c (ends step) _ _ refl tt

refusal_fares : (c : Client) (step : Step) (r : Refusal) → Fares c (on_refusal c step r)
unfolding on_refusal
refusal_fares c step (refusal.Lane limit) = refl
refusal_fares c step (refusal.Taken n) = ended_fares c step _
refusal_fares c step (refusal.Full limit) = ended_fares c step _
refusal_fares c step (refusal.NoBox n) = ended_fares c step _
refusal_fares c step (refusal.BadToken n) = ended_fares c step _
refusal_fares c step refusal.NoDeposit = ended_fares c step _
refusal_fares c step refusal.NotProved = ended_fares c step _
refusal_fares c step (refusal.Rejected o0 o1 t0 t1) = ended_fares c step _
refusal_fares c step r = tt

-- ---- the frame of the step behind

has_body : (c : Client) (step : Step) (o : Option PlainBody) → sent_with c step o ≢ None → o ≢ None
has_body c step None n = λ e. n refl
has_body c step (Some body) n = λ e. absurd (cc e)

is_sent : (c : Client) (step : Step) (o : Option PlainBody) → o ≢ None → sent_with c step o ≢ None
is_sent c step None n = λ e. n refl
is_sent c step (Some body) n = λ e. absurd (cc e)

reads : (c d : Client) (make : ℕ → ℕ → PlainBody) (o : Option Owned) → read_deposit c o ≢ None → read_submission d make o ≢ None
unfolding read_deposit read_submission
reads c d make None n = λ e. n refl
reads c d make (Some own) n = λ e. absurd (cc e)

submits : (c : Client) (now : Option Current) (request : Request) → deposit_of c request ≢ None → submission_of (record c { current = now }) request ≢ None
unfolding deposit_of submission_of
submits c now (Register address) n = λ e. absurd (cc e)
submits c now (Write target message) n = λ e. absurd (cc e)
submits c now (Read own) n = reads c (record c { current = now }) frame.Read (slice_get c.owned own) n
submits c now (Retire own) n = reads c (record c { current = now }) frame.Retire (slice_get c.owned own) n

proves : (c : Client) (now : Option Current) (request : Request) (ckey : List ℕ) → proof_of c request ckey 1 ≢ None → proof_of (record c { current = now }) request ckey 0 ≢ None
unfolding proof_of
proves c now (Write target message) ckey n = λ e. absurd (cc e)
proves c now r ckey n = λ e. n refl

-- ---- the present step

-- this is the present step, and its frame can be sent
record At (c : Client) (request : Request) (step : Step) : Type 0 where
  current : c.current ≡ Some (record { request = request; step = step })
  body : body_of c request step ≢ None

goes : (c : Client) (request : Request) (step next : Step) → At c request step
    → body_of (record c { current = Some (record { request = request; step = next }) }) request next ≢ None
    → left_in next < left_in step → Fares c (goes_on c request next)
unfolding sends
goes c request step next at body less =
    let now : Client = record c { current = Some (record { request = request; step = next }) } in
    (is_sent now next (body_of now request next) body, subst (λ (o : Option Current). left_in next < left_at o) (sym at.current) less)

deposit_fares : (c : Client) (request : Request) (body : PlainBody) → At c request Deposits → Fares c (on_deposit c request body)
unfolding on_deposit
deposit_fares c request (frame.Held false) at = goes c request Deposits Submits at (submits c _ request at.body) (omega arith)
deposit_fares c request body at = tt

registered_fares : (c : Client) (body : PlainBody) → Fares c (on_registered c body)
unfolding on_registered
registered_fares c (frame.Registered n) = refl
registered_fares c body = tt

challenge_fares : (c : Client) (target : ℕ) (message : List ℕ) (body : PlainBody) → At c (Write target message) Submits → Fares c (on_challenge c (Write target message) body)
unfolding on_challenge proof_of
challenge_fares c target message (frame.Challenge ckey) at =
    goes c (Write target message) Submits (ProvesToHelper ckey) at (λ e. absurd (cc e)) (omega arith)
challenge_fares c target message body at = tt

message_fares : (c : Client) (own : Option Owned) (body : PlainBody) → Fares c (on_message c own body)
unfolding on_message
message_fares c (Some own) (frame.Message zero one) = either c (nat_eq (length zero) c.width) _ _ refl tt
message_fares c own body = tt

submission_fares : (c : Client) (request : Request) (body : PlainBody) → At c request Submits → Fares c (on_submission c request body)
unfolding on_submission
submission_fares c (Register address) body at = registered_fares c body
submission_fares c (Write target message) body at = challenge_fares c target message body at
submission_fares c (Read own) body at = message_fares c (slice_get c.owned own) body
submission_fares c (Retire own) body at = message_fares c (slice_get c.owned own) body

helper_fares : (c : Client) (request : Request) (ckey : List ℕ) (body : PlainBody) → At c request (ProvesToHelper ckey) → Fares c (on_helper_proof c request ckey body)
unfolding on_helper_proof
helper_fares c request ckey (frame.Held true) at =
    goes c request (ProvesToHelper ckey) (ProvesToLeader ckey) at (proves c _ request ckey at.body) (omega arith)
helper_fares c request ckey body at = tt

leader_fares : (c : Client) (body : PlainBody) → Fares c (on_leader_proof c body)
unfolding on_leader_proof
leader_fares c frame.Accepted = refl
leader_fares c body = tt

step_fares : (c : Client) (request : Request) (step : Step) (body : PlainBody) → At c request step → Fares c (by_step c request step body)
step_fares c request Deposits body at = deposit_fares c request body at
step_fares c request Submits body at = submission_fares c request body at
step_fares c request (ProvesToHelper ckey) body at = helper_fares c request ckey body at
step_fares c request (ProvesToLeader ckey) body at = leader_fares c body

-- ---- any reply

found_fares : (c : Client) (now : Current) (f : PlainFrame) (why : Option Refusal) → At c now.request now.step → Fares c (by_refusal c now f why)
unfolding by_refusal
found_fares c now f None at = either c (is_mine c f) _ _ (step_fares c now.request now.step f.body at) tt
found_fares c now f (Some r) at = either c (of_no_frame r) _ _ tt (either c (is_mine c f) _ _ (refusal_fares c now.step r) tt)

current_fares : (c : Client) (f : PlainFrame) (o : Option Current) → c.current ≡ o → sent_at c o ≢ None → Fares c (if_current c f o)
unfolding if_current
current_fares c f None is n = tt
current_fares c f (Some now) is n =
    found_fares c now f (refusal_in f.body) (record { current = is; body = has_body c now.step _ n })

whole_fares : (c : Client) (r : Result PlainFrame Refusal) → sends c ≢ None → Fares c (if_whole c r)
unfolding sends if_whole
whole_fares c (Err r) n = tt
whole_fares c (Ok f) n = current_fares c f c.current refl n

pub fares : (c : Client) (bytes : List ℕ) → sends c ≢ None → Fares c (on_reply c bytes)
fares c bytes n = whole_fares c (whole bytes) n
