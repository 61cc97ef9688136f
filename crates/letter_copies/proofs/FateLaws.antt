-- What an answer tells.
use Rattle.std.proofs.Common.{◌≡◌, ◌⊎◌, inl, inr, Bool, true, false, ◌&&◌, ◌||◌, List, ◌∷◌, refl, ap, ◌∙◌}
use Rattle.std.specs.Prelude.{not}
use Rattle.std.specs.List.{list_any}
use Rattle.express_words.specs.declared.refusal.Refusal.{Refusal}
use Rattle.express_words.specs.declared.refusal.Refusal.TheVariants as refusal
use Rattle.letter_copies.specs.declared.heard.Answer.{Answer}
use Rattle.letter_copies.specs.declared.heard.Answer.TheVariants as answer
use Rattle.letter_copies.specs.declared.heard.Fate.{Fate}
use Rattle.letter_copies.specs.declared.heard.Fate.TheVariants.{Again, NotWritten, Unknown, Written}
use Rattle.letter_copies.specs.Fate.{by_proof, fate_by_refusal, fate_by}
use Rattle.letter_copies.specs.Runs.{closes, excludes}

by_proof_not : (out : Bool) (t : Fate) → by_proof out NotWritten t ≡ NotWritten → (t ≡ NotWritten → ⊥) → out ≡ false
by_proof_not true t h other = absurd (other h)
by_proof_not false t h other = refl

-- a try writes nothing only where its last proof didn't go out, or the answer excludes it
refused_not : (out : Bool) (r : Refusal) → fate_by_refusal out r ≡ NotWritten → (out ≡ false) ⊎ (closes r ≡ true)
unfolding fate_by_refusal
refused_not out (refusal.Again number) h = cc
refused_not out (refusal.LinkDown count) h = cc
refused_not out (refusal.Rejected o0 o1 t0 t1) h = inr refl
refused_not out refusal.NotProved h = inr refl
refused_not out refusal.NoDeposit h = inr refl
refused_not out (refusal.Malformed place) h = inl (by_proof_not out Again h (λ e. cc))
refused_not out (refusal.Version version) h = inl (by_proof_not out Again h (λ e. cc))
refused_not out (refusal.Stale serial) h = inl (by_proof_not out Unknown h (λ e. cc))
refused_not out (refusal.Phase phase) h = inl (by_proof_not out Unknown h (λ e. cc))
refused_not out (refusal.Lane limit) h = inl (by_proof_not out Unknown h (λ e. cc))
refused_not out (refusal.Taken n) h = inl (by_proof_not out Unknown h (λ e. cc))
refused_not out (refusal.Full limit) h = inl (by_proof_not out Unknown h (λ e. cc))
refused_not out (refusal.NoBox n) h = inl (by_proof_not out Unknown h (λ e. cc))
refused_not out (refusal.BadToken n) h = inl (by_proof_not out Unknown h (λ e. cc))

never_not : (out : Bool) → by_proof out Unknown Written ≡ NotWritten → ⊥
never_not true h = cc
never_not false h = cc

never_none : (out : Bool) → by_proof out Unknown Again ≡ NotWritten → ⊥
never_none true h = cc
never_none false h = cc

pub told_not : (out : Bool) (a : Answer) → fate_by out a ≡ NotWritten → (out ≡ false) ⊎ (excludes a ≡ true)
unfolding fate_by
told_not out answer.Lost h = cc
told_not out answer.NotYours h = inl (by_proof_not out Unknown h (λ e. cc))
told_not out answer.EndedWritten h = absurd (never_not out h)
told_not out answer.EndedNotWritten h = inr refl
told_not out answer.Fits h = cc
told_not out answer.Accepted h = absurd (never_not out h)
told_not out (answer.Refused r) h = refused_not out r h
told_not out answer.Other h = absurd (never_none out h)

refused_written : (out : Bool) (r : Refusal) → fate_by_refusal out r ≡ Written → ⊥
unfolding fate_by_refusal
refused_written true (refusal.Again number) h = cc
refused_written true (refusal.LinkDown count) h = cc
refused_written true (refusal.Rejected o0 o1 t0 t1) h = cc
refused_written true refusal.NotProved h = cc
refused_written true refusal.NoDeposit h = cc
refused_written true (refusal.Malformed place) h = cc
refused_written true (refusal.Version version) h = cc
refused_written true (refusal.Stale serial) h = cc
refused_written true (refusal.Phase phase) h = cc
refused_written true (refusal.Lane limit) h = cc
refused_written true (refusal.Taken n) h = cc
refused_written true (refusal.Full limit) h = cc
refused_written true (refusal.NoBox n) h = cc
refused_written true (refusal.BadToken n) h = cc
refused_written false (refusal.Again number) h = cc
refused_written false (refusal.LinkDown count) h = cc
refused_written false (refusal.Rejected o0 o1 t0 t1) h = cc
refused_written false refusal.NotProved h = cc
refused_written false refusal.NoDeposit h = cc
refused_written false (refusal.Malformed place) h = cc
refused_written false (refusal.Version version) h = cc
refused_written false (refusal.Stale serial) h = cc
refused_written false (refusal.Phase phase) h = cc
refused_written false (refusal.Lane limit) h = cc
refused_written false (refusal.Taken n) h = cc
refused_written false (refusal.Full limit) h = cc
refused_written false (refusal.NoBox n) h = cc
refused_written false (refusal.BadToken n) h = cc

-- a try is told as written only behind its last proof
pub told_written : (out : Bool) (a : Answer) → fate_by out a ≡ Written
    → (out ≡ true) × ((a ≡ answer.Accepted) ⊎ (a ≡ answer.EndedWritten))
unfolding fate_by
told_written out answer.Lost h = cc
told_written true answer.NotYours h = cc
told_written false answer.NotYours h = cc
told_written true answer.EndedWritten h = (refl, inr refl)
told_written false answer.EndedWritten h = cc
told_written out answer.EndedNotWritten h = cc
told_written out answer.Fits h = cc
told_written true answer.Accepted h = (refl, inl refl)
told_written false answer.Accepted h = cc
told_written out (answer.Refused r) h = absurd (refused_written out r h)
told_written true answer.Other h = cc
told_written false answer.Other h = cc

-- a try that heard such an answer can't have been accepted
pub excluded : (out : Bool) (a : Answer) (answers : List Answer) → (out ≡ false) ⊎ (excludes a ≡ true)
    → (out && not (list_any excludes (a ∷ answers))) ≡ false
excluded out a answers (inl none) = ap (λ t. t && not (list_any excludes (a ∷ answers))) none
excluded out a answers (inr closed) =
    ap (λ t. out && not (t || list_any excludes answers)) closed ∙ none out
  where
    none : (t : Bool) → (t && false) ≡ false
    none true = refl
    none false = refl
