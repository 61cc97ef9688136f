-- What an answer to a request of a try tells of its copy, by whether the try's last proof has gone out.
use Rattle.std.specs.Prelude.{Bool, true, false}
use Rattle.express_words.specs.declared.refusal.Refusal.{Refusal}
use Rattle.express_words.specs.declared.refusal.Refusal.TheVariants as refusal
use Rattle.letter_copies.specs.declared.heard.Answer.{Answer}
use Rattle.letter_copies.specs.declared.heard.Answer.TheVariants as answer
use Rattle.letter_copies.specs.declared.heard.Fate.{Fate}
use Rattle.letter_copies.specs.declared.heard.Fate.TheVariants.{GoesOn, Again, NotWritten, Unknown, Written}

-- what is heard before the last proof went out, and after it
abbrev pub by_proof : Bool → (before after : Fate) → Fate
by_proof true before after = after
by_proof false before after = before

unfoldable pub fate_by_refusal : Bool → Refusal → Fate
fate_by_refusal out (refusal.Again number) = Again
fate_by_refusal out (refusal.LinkDown count) = Again
fate_by_refusal out (refusal.Rejected o0 o1 t0 t1) = NotWritten
fate_by_refusal out refusal.NotProved = NotWritten
fate_by_refusal out refusal.NoDeposit = NotWritten
fate_by_refusal out (refusal.Malformed place) = by_proof out NotWritten Again
fate_by_refusal out (refusal.Version version) = by_proof out NotWritten Again
fate_by_refusal out (refusal.Stale serial) = by_proof out NotWritten Unknown
fate_by_refusal out (refusal.Phase phase) = by_proof out NotWritten Unknown
fate_by_refusal out (refusal.Lane limit) = by_proof out NotWritten Unknown
fate_by_refusal out (refusal.Taken n) = by_proof out NotWritten Unknown
fate_by_refusal out (refusal.Full limit) = by_proof out NotWritten Unknown
fate_by_refusal out (refusal.NoBox n) = by_proof out NotWritten Unknown
fate_by_refusal out (refusal.BadToken n) = by_proof out NotWritten Unknown

unfoldable pub fate_by : Bool → Answer → Fate
fate_by out answer.Lost = Again
fate_by out answer.NotYours = by_proof out NotWritten Unknown
fate_by out answer.EndedWritten = by_proof out Unknown Written
fate_by out answer.EndedNotWritten = NotWritten
fate_by out answer.Fits = GoesOn
fate_by out answer.Accepted = by_proof out Unknown Written
fate_by out (answer.Refused r) = fate_by_refusal out r
fate_by out answer.Other = by_proof out Unknown Again
