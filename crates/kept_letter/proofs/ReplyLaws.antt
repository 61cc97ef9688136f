-- What an answer does to the present try and its client.
use Rattle.std.proofs.Common.{◌≡◌, ◌≢◌, ℕ, Bool, true, false, Option, Some, None, refl}
use Rattle.std.specs.Prelude.{slice_get}
use Rattle.express_words.specs.declared.refusal.Refusal.{Refusal}
use Rattle.express_words.specs.declared.refusal.Refusal.TheVariants as refusal
use Rattle.step_rules.specs.Client.{Progress, Ignored, Later, Next, Finished, Registered, Accepted, Message}
use Rattle.step_rules.specs.Client.{Refused}
use Rattle.letter_copies.specs.declared.copies.Next.TheVariants.{GoOn}
use Rattle.letter_copies.specs.declared.copies.Try.{Try}
use Rattle.letter_copies.specs.declared.heard.Answer.{Answer}
use Rattle.letter_copies.specs.declared.heard.Answer.TheVariants as answer
use Rattle.letter_copies.specs.declared.heard.Fate.{Fate}
use Rattle.letter_copies.specs.declared.heard.Fate.TheVariants as fate
use Rattle.letter_copies.specs.declared.standing.Standing.{Standing}
use Rattle.letter_copies.specs.Copies.{CopiesState, turn_at, turn_by, turn_of, written_nothing}
use Rattle.letter_copies.specs.Fate.{by_proof, fate_by, fate_by_refusal}
use Rattle.kept_letter.specs.Letters.{answer_in}

-- ---- only what the step waits for lets a try go on

never : (out : Bool) (f g : Fate) → f ≢ fate.GoesOn → g ≢ fate.GoesOn → by_proof out f g ≢ fate.GoesOn
never true f g before after = after
never false f g before after = before

again : fate.Again ≢ fate.GoesOn
again e = cc e

unwritten : fate.NotWritten ≢ fate.GoesOn
unwritten e = cc e

unknown : fate.Unknown ≢ fate.GoesOn
unknown e = cc e

written : fate.Written ≢ fate.GoesOn
written e = cc e

no_refusal : (out : Bool) (r : Refusal) → fate_by_refusal out r ≢ fate.GoesOn
unfolding fate_by_refusal
no_refusal out (refusal.Again number) = again
no_refusal out (refusal.LinkDown count) = again
no_refusal out (refusal.Rejected a b d e) = unwritten
no_refusal out refusal.NotProved = unwritten
no_refusal out refusal.NoDeposit = unwritten
no_refusal out (refusal.Malformed place) = never out fate.NotWritten fate.Again unwritten again
no_refusal out (refusal.Version version) = never out fate.NotWritten fate.Again unwritten again
no_refusal out (refusal.Stale serial) = never out fate.NotWritten fate.Unknown unwritten unknown
no_refusal out (refusal.Phase phase) = never out fate.NotWritten fate.Unknown unwritten unknown
no_refusal out (refusal.Lane limit) = never out fate.NotWritten fate.Unknown unwritten unknown
no_refusal out (refusal.Taken n) = never out fate.NotWritten fate.Unknown unwritten unknown
no_refusal out (refusal.Full limit) = never out fate.NotWritten fate.Unknown unwritten unknown
no_refusal out (refusal.NoBox n) = never out fate.NotWritten fate.Unknown unwritten unknown
no_refusal out (refusal.BadToken n) = never out fate.NotWritten fate.Unknown unwritten unknown

fits_alone : (out : Bool) (a : Answer) → fate_by out a ≡ fate.GoesOn → a ≡ answer.Fits
unfolding fate_by
fits_alone out answer.Lost e = absurd (again e)
fits_alone out answer.NotYours e = absurd (never out fate.NotWritten fate.Unknown unwritten unknown e)
fits_alone out answer.EndedWritten e = absurd (never out fate.Unknown fate.Written unknown written e)
fits_alone out answer.EndedNotWritten e = absurd (unwritten e)
fits_alone out answer.Fits e = refl
fits_alone out answer.Accepted e = absurd (never out fate.Unknown fate.Written unknown written e)
fits_alone out (answer.Refused r) e = absurd (no_refusal out r e)
fits_alone out answer.Other e = absurd (never out fate.Unknown fate.Again unknown again e)

nothing_is_over : (s : CopiesState) (copy : ℕ) (standing : Option Standing)
    → (written_nothing s copy standing).next ≢ GoOn
nothing_is_over s copy None e = cc e
nothing_is_over s copy (Some standing) e = cc e

goes_only : (s : CopiesState) (copy : ℕ) (f : Fate) → (turn_by s copy f).next ≡ GoOn → f ≡ fate.GoesOn
unfolding turn_by
goes_only s copy fate.GoesOn e = refl
goes_only s copy fate.Again e = absurd (cc e)
goes_only s copy fate.NotWritten e = absurd (nothing_is_over s copy (slice_get s.standings copy) e)
goes_only s copy fate.Unknown e = absurd (cc e)
goes_only s copy fate.Written e = absurd (cc e)

fits_at : (s : CopiesState) (t : Option Try) (a : Answer) → (turn_at s t a).next ≡ GoOn → a ≡ answer.Fits
fits_at s None a e = absurd (cc e)
fits_at s (Some t) a e = fits_alone t.proof_out a (goes_only s t.copy (fate_by t.proof_out a) e)

next_alone : (p : Progress) → answer_in p ≡ answer.Fits → p ≡ Next
next_alone Ignored e = absurd (cc e)
next_alone (Later r) e = absurd (cc e)
next_alone Next e = refl
next_alone (Finished (Registered number)) e = absurd (cc e)
next_alone (Finished Accepted) e = absurd (cc e)
next_alone (Finished (Message bytes)) e = absurd (cc e)
next_alone (Finished (Refused r)) e = absurd (cc e)

-- the try goes on only where the client does
pub goes_next : (s : CopiesState) (p : Progress) → (turn_of s (answer_in p)).next ≡ GoOn → p ≡ Next
goes_next s p e = next_alone p (fits_at s s.present (answer_in p) e)

-- what was told lets no try go on
pub told_goes_not : (s : CopiesState) (a : Answer) → a ≢ answer.Fits → (turn_of s a).next ≢ GoOn
told_goes_not s a other e = other (fits_at s s.present a e)
