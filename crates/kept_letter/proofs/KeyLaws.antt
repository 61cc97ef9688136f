-- Where a client goes on it has the same request, at a step that has the key of its challenges.
use Rattle.std.proofs.Common.{◌≡◌, ◌≢◌, ℕ, Bool, true, false, List, Option, Some, None, Result, Ok, Err, refl}
use Rattle.std.proofs.Common.{sym, ◌∙◌, ap}
use Rattle.std.specs.Prelude.{if◌then◌else◌, ◌==◌, length, slice_get}
use Rattle.express_words.specs.declared.refusal.Refusal.{Refusal}
use Rattle.express_words.specs.declared.refusal.Refusal.TheVariants as refusal
use Rattle.frame_rules.specs.Frames as frame
use Rattle.frame_rules.specs.Frames.{PlainFrame, PlainBody}
use Rattle.frame_rules.specs.Whole.{whole}
use Rattle.mailbox_rules.specs.Requests.{Request, Register, Write, Read, Retire}
use Rattle.step_rules.specs.Client.{Client, Current, Owned, Next, Step, Deposits, Submits}
use Rattle.step_rules.specs.Client.{ProvesToHelper, ProvesToLeader, Turn}
use Rattle.step_rules.specs.ClientReplies.{by_step, by_refusal, ended, finished, if_current, if_whole}
use Rattle.step_rules.specs.ClientReplies.{ignores, is_mine, of_no_frame, on_challenge, on_deposit}
use Rattle.step_rules.specs.ClientReplies.{on_helper_proof, on_leader_proof, on_message, on_refusal}
use Rattle.step_rules.specs.ClientReplies.{on_registered, on_reply, on_submission, refusal_in, unmasked}
use Rattle.step_rules.specs.Client.{Message}
use Rattle.kept_letter.specs.Letters.{key_by, key_in}

-- the key of the challenges that a client's step has
abbrev pub key_at : Step → Option (List ℕ)
key_at Deposits = None
key_at Submits = None
key_at (ProvesToHelper ckey) = Some ckey
key_at (ProvesToLeader ckey) = Some ckey

-- the client goes on to a step of this request, with the key that it had, or that of the challenge which came
pub record GoesTo (c : Client) (request : Request) (key : Option (List ℕ)) (d : Client) : Type 0 where
  pub step : Step
  pub is : d ≡ record c { current = Some (record { request = request; step = step }) }
  pub key_is : key_at step ≡ key

abbrev Carries : Client → Request → Option (List ℕ) → PlainBody → Turn → Type 0
Carries c request key body t = t.progress ≡ Next → GoesTo c request (key_by body key) t.client

either : (c : Client) (request : Request) (key : Option (List ℕ)) (body : PlainBody) (b : Bool) (t u : Turn)
    → Carries c request key body t → Carries c request key body u
    → Carries c request key body (if b then t else u)
either c request key body true t u first second = first
either c request key body false t u first second = second

module _ (c : Client) (request : Request) where
  ended_carries : (key : Option (List ℕ)) (body : PlainBody) (step : Step) (r : Refusal)
      → Carries c request key body (ended c step r)
  ended_carries key body Deposits r e = absurd (cc e)
  ended_carries key body Submits r e = absurd (cc e)
  ended_carries key body (ProvesToHelper ckey) r e = absurd (cc e)
  ended_carries key body (ProvesToLeader ckey) r e = absurd (cc e)

  refusal_carries : (key : Option (List ℕ)) (body : PlainBody) (step : Step) (r : Refusal)
      → Carries c request key body (on_refusal c step r)
  unfolding on_refusal
  refusal_carries key body step (refusal.Lane limit) e = absurd (cc e)
  refusal_carries key body step (refusal.Taken n) e = ended_carries key body step (refusal.Taken n) e
  refusal_carries key body step (refusal.Full limit) e = ended_carries key body step (refusal.Full limit) e
  refusal_carries key body step (refusal.NoBox n) e = ended_carries key body step (refusal.NoBox n) e
  refusal_carries key body step (refusal.BadToken n) e = ended_carries key body step (refusal.BadToken n) e
  refusal_carries key body step refusal.NoDeposit e = ended_carries key body step refusal.NoDeposit e
  refusal_carries key body step refusal.NotProved e = ended_carries key body step refusal.NotProved e
  refusal_carries key body step (refusal.Rejected a b d g) e = ended_carries key body step (refusal.Rejected
      a b d g) e
  refusal_carries key body step (refusal.Stale serial) e = absurd (cc e)
  refusal_carries key body step (refusal.Phase phase) e = absurd (cc e)
  refusal_carries key body step (refusal.Again number) e = absurd (cc e)
  refusal_carries key body step (refusal.LinkDown count) e = absurd (cc e)
  refusal_carries key body step (refusal.Malformed place) e = absurd (cc e)
  refusal_carries key body step (refusal.Version version) e = absurd (cc e)

  deposit_carries : (body : PlainBody) → Carries c request None body (on_deposit c request body)
  unfolding on_deposit
  deposit_carries (frame.Held false) e = record { step = Submits; is = refl; key_is = refl }
  deposit_carries body e = absurd (cc e)

  registered_carries : (body : PlainBody) → Carries c request None body (on_registered c body)
  unfolding on_registered
  registered_carries (frame.Registered n) e = absurd (cc e)
  registered_carries body e = absurd (cc e)

  challenge_carries : (body : PlainBody) → Carries c request None body (on_challenge c request body)
  unfolding on_challenge
  challenge_carries (frame.Challenge ckey) e = record { step = ProvesToHelper ckey; is = refl; key_is = refl }
  challenge_carries body e = absurd (cc e)

  message_carries : (own : Option Owned) (body : PlainBody)
      → Carries c request None body (on_message c own body)
  unfolding on_message
  message_carries (Some own) (frame.Message zero one) =
      either c request None (frame.Message zero one) (length zero == c.width) (finished c (Message (unmasked
      c own zero one))) (ignores c)
      (λ e. absurd (cc e)) (λ e. absurd (cc e))
  message_carries own body = λ e. absurd (cc e)

  helper_proof_carries : (ckey : List ℕ) (body : PlainBody)
      → Carries c request (Some ckey) body (on_helper_proof c request ckey body)
  unfolding on_helper_proof
  helper_proof_carries ckey (frame.Held true) e = record {
    step = ProvesToLeader ckey;
    is = refl;
    key_is =
        refl;
  }
  helper_proof_carries ckey body e = absurd (cc e)

  leader_proof_carries : (key : Option (List ℕ)) (body : PlainBody)
      → Carries c request key body (on_leader_proof c body)
  unfolding on_leader_proof
  leader_proof_carries key frame.Accepted e = absurd (cc e)
  leader_proof_carries key body e = absurd (cc e)

submission_carries : (c : Client) (request : Request) (body : PlainBody)
    → Carries c request None body (on_submission c request body)
unfolding on_submission
submission_carries c (Register address) body = registered_carries c (Register address) body
submission_carries c (Write target message) body = challenge_carries c (Write target message) body
submission_carries c (Read own) body = message_carries c (Read own) (slice_get c.owned own) body
submission_carries c (Retire own) body = message_carries c (Retire own) (slice_get c.owned own) body

step_carries : (c : Client) (request : Request) (step : Step) (body : PlainBody)
    → Carries c request (key_at step) body (by_step c request step body)
step_carries c request Deposits body = deposit_carries c request body
step_carries c request Submits body = submission_carries c request body
step_carries c request (ProvesToHelper ckey) body = helper_proof_carries c request ckey body
step_carries c request (ProvesToLeader ckey) body = leader_proof_carries c request (Some ckey) body

frame_carries : (c : Client) (now : Current) (f : PlainFrame) (r : Option Refusal)
    → Carries c now.request (key_at now.step) f.body (by_refusal c now f r)
unfolding by_refusal
frame_carries c now f None =
    either c now.request (key_at now.step) f.body (is_mine c f) (by_step c now.request now.step f.body)
    (ignores c)
    (step_carries c now.request now.step f.body) (λ e. absurd (cc e))
frame_carries c now f (Some r) =
    either c now.request (key_at now.step) f.body (of_no_frame r) _ _ (λ e. absurd (cc e))
    (either c now.request (key_at now.step) f.body (is_mine c f) (on_refusal c now.step r) (ignores c)
    (refusal_carries c now.request (key_at now.step) f.body now.step r) (λ e. absurd (cc e)))

-- it had a request, and goes on with it
pub record GoesOn (c : Client) (bytes : List ℕ) (d : Client) : Type 0 where
  pub now : Current
  pub was : c.current ≡ Some now
  pub goes : GoesTo c now.request (key_in (whole bytes) (key_at now.step)) d

abbrev GoesOnBy : Client → Result PlainFrame Refusal → Option Current → Turn → Type 0
GoesOnBy c w None t = t.progress ≡ Next → ⊥
GoesOnBy c w (Some now) t = t.progress ≡ Next → GoesTo c now.request (key_in w (key_at now.step)) t.client

current_goes : (c : Client) (f : PlainFrame) (now : Option Current)
    → GoesOnBy c (Ok f) now (if_current c f now)
unfolding if_current
current_goes c f None = λ e. cc e
current_goes c f (Some now) = λ e. frame_carries c now f (refusal_in f.body) e

ignores_goes : (c : Client) (r : Refusal) (now : Option Current) → GoesOnBy c (Err r) now (ignores c)
ignores_goes c r None = λ e. cc e
ignores_goes c r (Some now) = λ e. absurd (cc e)

whole_goes : (c : Client) (w : Result PlainFrame Refusal) → GoesOnBy c w c.current (if_whole c w)
unfolding if_whole
whole_goes c (Err r) = ignores_goes c r c.current
whole_goes c (Ok f) = current_goes c f c.current

with_now : (c : Client) (bytes : List ℕ) (now : Option Current) (t : Turn) → c.current ≡ now
    → GoesOnBy c (whole bytes) now t → t.progress ≡ Next
    → GoesOn c bytes t.client
with_now c bytes None t at goes e = absurd (goes e)
with_now c bytes (Some now) t at goes e = record { now = now; was = at; goes = goes e }

pub next_goes_on : (c : Client) (bytes : List ℕ) → (on_reply c bytes).progress ≡ Next
    → GoesOn c bytes (on_reply c bytes).client
next_goes_on c bytes e = with_now c bytes c.current (on_reply c bytes) refl (whole_goes c (whole bytes)) e

pub goes_to : (c d : Client) (bytes : List ℕ) (g : GoesOn c bytes d)
    → d.current ≡ Some (record { request = g.now.request; step = g.goes.step })
goes_to c d bytes g = ap (λ (x : Client). x.current) g.goes.is

pub still_busy : (c d : Client) (bytes : List ℕ) → GoesOn c bytes d → d.current ≢ None
still_busy c d bytes g none =
    let no : Some (record { request = g.now.request; step = g.goes.step })
    ≡ None = sym (goes_to c d bytes g) ∙ none in
    absurd (cc no)
