-- What a client does with a reply.
use Rattle.std.proofs.Common.{◌≡◌, ◌≢◌, ◌<◌, ◌+◌, ℕ, List, [], length, Option, Some, None, Result, Ok, Err, refl, sym, ap, subst, ◌∙◌}
use Rattle.std.specs.Prelude.{IfSome, slice_get}
use Rattle.std.proofs.lemmas.Option.{slice_get-get_or}
use Rattle.std.proofs.lemmas.Bool.{eq-eqb, ne_eqb}
use Rattle.express_words.specs.Bytes.{xor_bytes}
use Rattle.express_words.proofs.Bytes.{xor_bytes_assoc, xor_bytes_comm}
use Rattle.express_words.specs.declared.refusal.Refusal.{Refusal}
use Rattle.frame_rules.specs.Frames as frame
use Rattle.frame_rules.specs.Frames.{PlainFrame}
use Rattle.frame_rules.specs.Whole.{whole}
use Rattle.dpf_rules.specs.Expansion.{mask}
use Rattle.step_rules.specs.Client.{Client, Owned, Current, Turn, Message}
use Rattle.client_core.specs.declared.stage.CurrentStep.{CurrentStep}
use Rattle.client_core.specs.declared.state.ClientState.{ClientState}
use Rattle.client_core.specs.States.{IsCurrent, IsState}
use Rattle.client_core.specs.declared.progress.Outcome.TheVariants as outcome
use Rattle.client_core.specs.declared.progress.Progress.TheVariants as progress
use Rattle.client_core.specs.Answers.{progress_in}
use Rattle.client_core.specs.GivingUp.{given_up, given_up_at}
use Rattle.step_rules.specs.ClientReplies.{on_reply, on_message, if_whole, if_current, by_refusal, refusal_in, ignores, finished, unmasked}

-- ---- no reply

idle_at : (c : Client) (r : Result PlainFrame Refusal) → c.current ≡ None → if_whole c r ≡ ignores c
unfolding if_whole if_current
idle_at c (Err r) e = refl
idle_at c (Ok f) e = ap (if_current c f) e

pub idle : (c : Client) (bytes : List ℕ) → c.current ≡ None → on_reply c bytes ≡ ignores c
idle c bytes e = idle_at c (whole bytes) e

pub no_frame : (c : Client) (bytes : List ℕ) (r : Refusal) → whole bytes ≡ Err r → on_reply c bytes ≡ ignores c
unfolding if_whole
no_frame c bytes r e = ap (if_whole c) e

-- ---- a reply

pub frame_heard : (c : Client) (bytes : List ℕ) (f : PlainFrame) (now : Current) (t : Turn) → whole bytes ≡ Ok f → c.current ≡ Some now → by_refusal c now f (refusal_in f.body) ≡ t → on_reply c bytes ≡ t
unfolding if_whole if_current
frame_heard c bytes f now t e at heard = ap (if_whole c) e ∙ (ap (if_current c f) at ∙ heard)

-- ---- a message

pub wrong_width : (c : Client) (o : Option Owned) (zero one : List ℕ) → length zero ≢ c.width → on_message c o (frame.Message zero one) ≡ ignores c
unfolding on_message
wrong_width c None zero one h = refl
wrong_width c (Some own) zero one h = rw (ne_eqb (length zero) c.width h) refl

pub right_width : (c : Client) (o : Option Owned) (own : Owned) (zero one : List ℕ) → o ≡ Some own → length zero ≡ c.width →
    on_message c o (frame.Message zero one) ≡ finished c (Message (unmasked c own zero one))
unfolding on_message
right_width c (Some x) own zero one e h = let same : x ≡ own = cc in rw (eq-eqb (length zero) c.width h) (ap (λ (o : Owned). finished c (Message (unmasked c o zero one))) same)
right_width c None own zero one e h = absurd (cc e)

-- one mask after the other, and then the other part
masks_off : (zero one m0 m1 : List ℕ) → xor_bytes (xor_bytes (xor_bytes zero m0) m1) one ≡ xor_bytes (xor_bytes zero m0) (xor_bytes one m1)
masks_off zero one m0 m1 = xor_bytes_assoc (xor_bytes zero m0) m1 one ∙ ap (xor_bytes (xor_bytes zero m0)) (xor_bytes_comm m1 one)

-- ---- the current request

pub current_of : (s : ClientState) (stage : CurrentStep) → s.stage ≡ Some stage → IsState s → IsCurrent s stage
current_of s stage e is = subst (λ (o : Option CurrentStep). IfSome o (IsCurrent s)) e is.current

-- ---- taking masks off

pub unmasked_is : (zero one m a b d k0 k1 : List ℕ) (lane s serial width : ℕ) →
    m ≡ zero → a ≡ xor_bytes m (mask k0 lane s (length m)) → b ≡ xor_bytes a (mask k1 lane s (length a)) → d ≡ xor_bytes b one → s ≡ serial → length m ≡ width → length a ≡ length m →
    d ≡ xor_bytes (xor_bytes zero (mask k0 lane serial width)) (xor_bytes one (mask k1 lane serial width))
unmasked_is zero one m a b d k0 k1 lane s serial width m_is a_is b_is d_is s_is hm ha =
    let m0 = mask k0 lane serial width in
    let m1 = mask k1 lane serial width in
    let am : a ≡ xor_bytes zero m0 =
    a_is ∙ (ap (λ n. xor_bytes m (mask k0 lane s n)) hm ∙ (ap (λ k. xor_bytes m (mask k0 lane k width)) s_is ∙ ap (λ x. xor_bytes x m0) m_is)) in
    let bm : b ≡ xor_bytes (xor_bytes zero m0) m1 =
    b_is ∙ (ap (λ n. xor_bytes a (mask k1 lane s n)) (ha ∙ hm) ∙ (ap (λ k. xor_bytes a (mask k1 lane k width)) s_is ∙ ap (λ x. xor_bytes x m1) am)) in
    d_is ∙ (ap (λ x. xor_bytes x one) bm ∙ masks_off zero one m0 m1)

-- a message of the width, of a box that is there
pub message_read : (c : Client) (own : ℕ) (zero one : List ℕ) → own < length c.owned → length zero ≡ c.width →
    progress.Finished outcome.Message ≡ progress_in (on_message c (slice_get c.owned own) (frame.Message zero one)).progress
message_read c own zero one there h =
    let some = slice_get-get_or c.owned own (record { number = 0; key0 = []; key1 = [] }) there in
    ap (λ (t : Turn). progress_in t.progress) (sym (right_width c (slice_get c.owned own) _ zero one some h))

pub message_dropped : (c : Client) (own : ℕ) (zero one : List ℕ) → length zero ≢ c.width →
    progress.Ignored ≡ progress_in (on_message c (slice_get c.owned own) (frame.Message zero one)).progress
message_dropped c own zero one h = ap (λ (t : Turn). progress_in t.progress) (sym (wrong_width c (slice_get c.owned own) zero one h))

-- ---- giving up

pub nothing_given_up : (c : Client) → c.current ≡ None → c ≡ given_up c
unfolding given_up
nothing_given_up c e = sym (ap (given_up_at c) e)

pub given_up_is : (c d : Client) (now : Current) → c.current ≡ Some now → d ≡ record c { current = None; serial = c.serial + 1 } → d ≡ given_up c
unfolding given_up
given_up_is c d now e is = is ∙ sym (ap (given_up_at c) e)
