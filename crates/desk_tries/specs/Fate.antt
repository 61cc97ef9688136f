-- What an answer to a frame of a try tells of the letter, by whether the try's last proof has gone out.
use Rattle.std.specs.Prelude.{Bool, true, false}
use Rattle.express_words.specs.declared.refusal.Refusal.{Refusal}
use Rattle.express_words.specs.declared.refusal.Refusal.TheVariants as refusal
use Rattle.desk_tries.specs.declared.heard.Answer.{Answer}
use Rattle.desk_tries.specs.declared.heard.Answer.TheVariants as answer
use Rattle.desk_tries.specs.declared.heard.Fate.{Fate}
use Rattle.desk_tries.specs.declared.heard.Fate.TheVariants.{GoesOn, Again, NotWritten, Unknown, Written}

-- what else is heard before the last proof went out, and after it
abbrev pub by_proof : Bool → Fate → Fate
by_proof true after = after
by_proof false after = NotWritten

unfoldable pub fate_by_refusal : Bool → Refusal → Fate
fate_by_refusal out (refusal.Again number) = Again
fate_by_refusal out (refusal.LinkDown count) = Again
fate_by_refusal out (refusal.Rejected o0 o1 t0 t1) = NotWritten
fate_by_refusal out refusal.NotProved = NotWritten
fate_by_refusal out refusal.NoDeposit = NotWritten
fate_by_refusal out (refusal.Malformed place) = by_proof out Again
fate_by_refusal out (refusal.Version version) = by_proof out Again
fate_by_refusal out (refusal.Stale serial) = by_proof out Unknown
fate_by_refusal out (refusal.Phase phase) = by_proof out Unknown
fate_by_refusal out (refusal.Lane limit) = by_proof out Unknown
fate_by_refusal out (refusal.Taken n) = by_proof out Unknown
fate_by_refusal out (refusal.Full limit) = by_proof out Unknown
fate_by_refusal out (refusal.NoBox n) = by_proof out Unknown
fate_by_refusal out (refusal.BadToken n) = by_proof out Unknown

unfoldable pub fate_by : Bool → Answer → Fate
fate_by out answer.Lost = Again
fate_by out answer.Fits = GoesOn
fate_by out answer.Accepted = by_proof out Written
fate_by out (answer.Refused r) = fate_by_refusal out r
fate_by out answer.Other = by_proof out Again
