-- What the sending says at an answer.
use Rattle.std.proofs.Common.{◌≡◌, ◌≢◌, ℕ, Bool, true, false, refl}
use Rattle.std.specs.Prelude.{◌==◌, ◌||◌, ◌+◌, cond}
use Rattle.express_words.specs.declared.refusal.Refusal.{Refusal}
use Rattle.express_words.specs.declared.refusal.Refusal.TheVariants as refusal
use Rattle.client_core.specs.declared.progress.Outcome.TheVariants as outcome
use Rattle.client_core.specs.declared.progress.Progress.{Progress}
use Rattle.client_core.specs.declared.progress.Progress.TheVariants as progress
use Rattle.desk_tries.specs.declared.heard.Answer.{Answer}
use Rattle.desk_tries.specs.declared.heard.Answer.TheVariants as answer
use Rattle.desk_tries.specs.declared.heard.Fate.{Fate}
use Rattle.desk_tries.specs.declared.heard.Fate.TheVariants as fate
use Rattle.desk_tries.specs.declared.sending.Next.TheVariants as next
use Rattle.desk_tries.specs.Fate.{fate_by, fate_by_refusal, by_proof}
use Rattle.desk_tries.specs.Steps.{SendingState, SendingTurn, again_at_address, elsewhere, turn_by, turn_of}
use Rattle.desk_outbox.specs.Answers.{answer_to}

either : (b : Bool) (x y : SendingTurn) → x.next ≢ next.GoOn → y.next ≢ next.GoOn → (cond b x y).next ≢ next.GoOn
either true x y p q = p
either false x y p q = q

again_ends : (s : SendingState) → (again_at_address s).next ≢ next.GoOn
unfolding again_at_address
again_ends s = either (s.further == 0) _ _ (λ e. absurd (cc e)) (λ e. absurd (cc e))

elsewhere_ends : (s : SendingState) → (elsewhere s).next ≢ next.GoOn
unfolding elsewhere
elsewhere_ends s = either ((s.further == 0) || (s.address + 1 == s.addresses)) _ _ (λ e. absurd (cc e)) (λ e. absurd (cc e))

on_only : (s : SendingState) (f : Fate) → (turn_by s f).next ≡ next.GoOn → f ≡ fate.GoesOn
unfolding turn_by
on_only s fate.GoesOn e = refl
on_only s fate.Again e = absurd (cc e)
on_only s fate.NotWritten e = absurd (again_ends s e)
on_only s fate.Unknown e = absurd (elsewhere_ends s e)
on_only s fate.Written e = absurd (cc e)

by_not : (out : Bool) (f : Fate) → f ≢ fate.GoesOn → by_proof out f ≢ fate.GoesOn
by_not true f n = n
by_not false f n = λ e. absurd (cc e)

refused_not : (out : Bool) (r : Refusal) → fate_by_refusal out r ≢ fate.GoesOn
unfolding fate_by_refusal
refused_not out (refusal.Again number) = λ e. absurd (cc e)
refused_not out (refusal.LinkDown count) = λ e. absurd (cc e)
refused_not out (refusal.Rejected o0 o1 t0 t1) = λ e. absurd (cc e)
refused_not out refusal.NotProved = λ e. absurd (cc e)
refused_not out refusal.NoDeposit = λ e. absurd (cc e)
refused_not out (refusal.Malformed place) = by_not out fate.Again (λ e. absurd (cc e))
refused_not out (refusal.Version version) = by_not out fate.Again (λ e. absurd (cc e))
refused_not out (refusal.Stale serial) = by_not out fate.Unknown (λ e. absurd (cc e))
refused_not out (refusal.Phase phase) = by_not out fate.Unknown (λ e. absurd (cc e))
refused_not out (refusal.Lane limit) = by_not out fate.Unknown (λ e. absurd (cc e))
refused_not out (refusal.Taken n) = by_not out fate.Unknown (λ e. absurd (cc e))
refused_not out (refusal.Full limit) = by_not out fate.Unknown (λ e. absurd (cc e))
refused_not out (refusal.NoBox n) = by_not out fate.Unknown (λ e. absurd (cc e))
refused_not out (refusal.BadToken n) = by_not out fate.Unknown (λ e. absurd (cc e))

fits_only : (out : Bool) (a : Answer) → fate_by out a ≡ fate.GoesOn → a ≡ answer.Fits
unfolding fate_by
fits_only out answer.Lost e = absurd (cc e)
fits_only out answer.Fits e = refl
fits_only out answer.Accepted e = absurd (by_not out fate.Written (λ x. absurd (cc x)) e)
fits_only out (answer.Refused r) e = absurd (refused_not out r e)
fits_only out answer.Other e = absurd (by_not out fate.Again (λ x. absurd (cc x)) e)

next_only : (p : Progress) → answer_to p ≡ answer.Fits → p ≡ progress.Next
next_only progress.Next e = refl
next_only (progress.Finished outcome.Accepted) e = absurd (cc e)
next_only (progress.Finished (outcome.Refused r)) e = absurd (cc e)
next_only (progress.Finished (outcome.Registered n)) e = absurd (cc e)
next_only (progress.Finished outcome.Message) e = absurd (cc e)
next_only (progress.Later r) e = absurd (cc e)
next_only progress.Ignored e = absurd (cc e)

-- the sending goes on only at a reply that fits
pub goes_on_only : (s : SendingState) (p : Progress) → (turn_of s (answer_to p)).next ≡ next.GoOn → p ≡ progress.Next
goes_on_only s p e = next_only p (fits_only s.proof_out (answer_to p) (on_only s _ e))

-- ---- what stays

stays : (b : Bool) (x y : SendingTurn) (n : ℕ) → x.state.addresses ≡ n → y.state.addresses ≡ n → (cond b x y).state.addresses ≡ n
stays true x y n p q = p
stays false x y n p q = q

again_stays : (s : SendingState) → (again_at_address s).state.addresses ≡ s.addresses
unfolding again_at_address
again_stays s = stays (s.further == 0) _ _ s.addresses refl refl

elsewhere_stays : (s : SendingState) → (elsewhere s).state.addresses ≡ s.addresses
unfolding elsewhere
elsewhere_stays s = stays ((s.further == 0) || (s.address + 1 == s.addresses)) _ _ s.addresses refl refl

turn_stays : (s : SendingState) (f : Fate) → (turn_by s f).state.addresses ≡ s.addresses
unfolding turn_by
turn_stays s fate.GoesOn = refl
turn_stays s fate.Again = refl
turn_stays s fate.NotWritten = again_stays s
turn_stays s fate.Unknown = elsewhere_stays s
turn_stays s fate.Written = refl

pub addresses_stay : (s : SendingState) (a : Answer) → (turn_of s a).state.addresses ≡ s.addresses
addresses_stay s a = turn_stays s (fate_by s.proof_out a)

-- a frame that was lost is sent again
pub lost_again : (s : SendingState) → (turn_of s answer.Lost).next ≡ next.SameAgain
unfolding turn_by fate_by
lost_again s = refl
