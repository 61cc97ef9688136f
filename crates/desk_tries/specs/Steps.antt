-- The sending of one letter, answer by answer.
use Rattle.std.specs.Prelude.{ℕ, ◌+◌, ◌-◌, ◌==◌, ◌||◌, not, if◌then◌else◌, Bool, true, false}
use Rattle.desk_tries.specs.declared.heard.Answer.{Answer}
use Rattle.desk_tries.specs.declared.heard.Fate.{Fate}
use Rattle.desk_tries.specs.declared.heard.Fate.TheVariants.{GoesOn, Again, NotWritten, Unknown, Written}
use Rattle.desk_tries.specs.declared.sending.LetterEnd.{LetterEnd}
use Rattle.desk_tries.specs.declared.sending.LetterEnd.TheVariants as end
use Rattle.desk_tries.specs.declared.sending.Next.{Next}
use Rattle.desk_tries.specs.declared.sending.Next.TheVariants.{GoOn, SameAgain, NewTry, NextAddress, Stop}
use Rattle.desk_tries.specs.Fate.{fate_by}

-- The addresses of the card, the present one of them, how many further tries are left, and whether the
-- present try's last proof has gone out. All addresses before the present one were left because it isn't
-- known whether the letter was written there.
pub record SendingState : Type 0 where
  pub addresses : ℕ
  pub address : ℕ
  pub further : ℕ
  pub proof_out : Bool

-- behind the first try there are five
abbrev pub started : ℕ → SendingState
started addresses = record { addresses = addresses; address = 0; further = 5; proof_out = false }

abbrev pub after_proof : SendingState → SendingState
after_proof s = record s { proof_out = true }

-- a new try, at the same address or at the next
abbrev pub new_try : SendingState → ℕ → SendingState
new_try s address = record s { address = address; further = s.further - 1; proof_out = false }

-- the end where no try is left and the present one writes nothing
abbrev pub end_of : SendingState → LetterEnd
end_of s = if s.address == 0 then end.NotWritten else end.MaybeWritten

-- whether a try so far can have written the letter: the present one, once its last proof goes out, or one at an
-- address before
abbrev pub may_be_written : SendingState → Bool
may_be_written s = s.proof_out || not (s.address == 0)

-- what is done next, and where the sending then stands
pub record SendingTurn : Type 0 where
  pub next : Next
  pub state : SendingState

abbrev pub turn : Next → SendingState → SendingTurn
turn next s = record { next = next; state = s }

-- where this try writes nothing, and where that isn't known
unfoldable pub again_at_address : SendingState → SendingTurn
again_at_address s =
    if s.further == 0 then turn (Stop (end_of s)) s else turn NewTry (new_try s s.address)

unfoldable pub elsewhere : SendingState → SendingTurn
elsewhere s =
    if (s.further == 0) || (s.address + 1 == s.addresses) then turn (Stop end.MaybeWritten) s
    else turn NextAddress (new_try s (s.address + 1))

unfoldable pub turn_by : SendingState → Fate → SendingTurn
turn_by s GoesOn = turn GoOn s
turn_by s Again = turn SameAgain s
turn_by s Written = turn (Stop end.Written) s
turn_by s NotWritten = again_at_address s
turn_by s Unknown = elsewhere s

abbrev pub turn_of : SendingState → Answer → SendingTurn
turn_of s answer = turn_by s (fate_by s.proof_out answer)

abbrev pub next_of : SendingState → Answer → Next
next_of s answer = (turn_of s answer).next

abbrev pub state_after : SendingState → Answer → SendingState
state_after s answer = (turn_of s answer).state
