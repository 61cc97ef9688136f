-- How the copies of a letter stand. A letter has parts, each with as many copies; they are numbered from 0, those of
-- the first part first.
use Rattle.std.specs.Prelude.{◌≡◌, ◌≤◌, ℕ, suc, zero, ◌-◌, ◌*◌, ◌==◌, ◌&&◌, ◌||◌, not, if◌then◌else◌, Bool, true, false}
use Rattle.std.specs.Prelude.{List, length, take, drop, Option, Some, None, position, slice_get, slice_set}
use Rattle.std.specs.List.{list_any, list_all}
use Rattle.std.proofs.Math.ListN.{replicate}
use Rattle.letter_copies.specs.declared.copies.LetterEnd.{LetterEnd}
use Rattle.letter_copies.specs.declared.copies.LetterEnd.TheVariants as end
use Rattle.letter_copies.specs.declared.copies.Next.{Next}
use Rattle.letter_copies.specs.declared.copies.Next.TheVariants.{GoOn, SameAgain, TryIsOver}
use Rattle.letter_copies.specs.declared.copies.Try.{Try}
use Rattle.letter_copies.specs.declared.heard.Answer.{Answer}
use Rattle.letter_copies.specs.declared.heard.Fate.{Fate}
use Rattle.letter_copies.specs.declared.heard.Fate.TheVariants as fate
use Rattle.letter_copies.specs.declared.standing.Standing.{Standing}
use Rattle.letter_copies.specs.declared.standing.Standing.TheVariants.{Waits, Written, NotWritten, Unknown}
use Rattle.letter_copies.specs.Fate.{fate_by}

-- ---- one copy

abbrev pub is_waiting : Standing → Bool
is_waiting (Waits further) = true
is_waiting s = false

abbrev pub is_written : Standing → Bool
is_written Written = true
is_written s = false

-- no try so far can have written it
abbrev pub is_unwritten : Standing → Bool
is_unwritten (Waits further) = true
is_unwritten NotWritten = true
is_unwritten s = false

-- behind a try that wrote nothing
abbrev pub tried_again : Standing → Standing
tried_again (Waits further) = if further == 0 then NotWritten else Waits (further - 1)
tried_again s = s

-- ---- all of them

-- how many parts, how many copies of each, how the copies stand, and the try that is under way
pub record CopiesState : Type 0 where
  pub parts : ℕ
  pub each : ℕ
  pub standings : List Standing
  pub present : Option Try

-- behind the first try of a copy there are five
abbrev pub started : (parts each : ℕ) → CopiesState
started parts each =
    record { parts = parts; each = each; standings = replicate (parts * each) (Waits 5); present = None }

-- the first copy that waits
abbrev pub waiting : CopiesState → Option ℕ
waiting s = position is_waiting s.standings

abbrev pub begun_at : CopiesState → Option ℕ → CopiesState
begun_at s None = s
begun_at s (Some copy) = record s { present = Some (record { copy = copy; proof_out = false }) }

abbrev pub begun_by : CopiesState → Option Try → CopiesState
begun_by s None = begun_at s (waiting s)
begun_by s (Some t) = s

-- where no try is under way, one of the first copy that waits begins
abbrev pub begun : CopiesState → CopiesState
begun s = begun_by s s.present

abbrev pub proof_by : CopiesState → Option Try → CopiesState
proof_by s None = s
proof_by s (Some t) = record s { present = Some (record t { proof_out = true }) }

-- the last proof of the try that is under way goes out
abbrev pub after_proof : CopiesState → CopiesState
after_proof s = proof_by s s.present

-- ---- an answer

-- what is done next, and how the copies then stand
pub record CopiesTurn : Type 0 where
  pub next : Next
  pub state : CopiesState

abbrev pub goes_on : CopiesState → Next → CopiesTurn
goes_on s next = record { next = next; state = s }

-- the try is over, and its copy stands so
abbrev pub over : CopiesState → ℕ → Standing → CopiesTurn
over s copy standing = record {
  next = TryIsOver;
  state = record s { standings = slice_set s.standings copy standing; present = None };
}

abbrev pub written_nothing : CopiesState → ℕ → Option Standing → CopiesTurn
written_nothing s copy None = over s copy Unknown
written_nothing s copy (Some standing) = over s copy (tried_again standing)

unfoldable pub turn_by : CopiesState → ℕ → Fate → CopiesTurn
turn_by s copy fate.GoesOn = goes_on s GoOn
turn_by s copy fate.Again = goes_on s SameAgain
turn_by s copy fate.NotWritten = written_nothing s copy (slice_get s.standings copy)
turn_by s copy fate.Unknown = over s copy Unknown
turn_by s copy fate.Written = over s copy Written

abbrev pub turn_at : CopiesState → Option Try → Answer → CopiesTurn
turn_at s None a = goes_on s TryIsOver
turn_at s (Some t) a = turn_by s t.copy (fate_by t.proof_out a)

abbrev pub turn_of : CopiesState → Answer → CopiesTurn
turn_of s a = turn_at s s.present a

-- ---- the letter

-- each part has a copy that is written
unfoldable pub all_written : (parts each : ℕ) → List Standing → Bool
all_written zero each standings = true
all_written (suc parts) each standings =
    list_any is_written (take each standings) && all_written parts each (drop each standings)

abbrev pub is_unknown : Standing → Bool
is_unknown Unknown = true
is_unknown s = false

-- what became of it, where no copy waits any longer
abbrev pub settled_end : CopiesState → LetterEnd
settled_end s =
    if all_written s.parts s.each s.standings then end.Written
    else if list_any is_unknown s.standings then end.MaybeWritten
    else end.NotWritten

unfoldable pub end_of : CopiesState → Option LetterEnd
end_of s = if list_any is_waiting s.standings then None else Some (settled_end s)

abbrev pub is_proof_out : Option Try → Bool
is_proof_out None = false
is_proof_out (Some t) = t.proof_out

-- a try so far can have written some copy
abbrev pub may_be_written : CopiesState → Bool
may_be_written s = not (list_all is_unwritten s.standings) || is_proof_out s.present

-- ---- what is always so

abbrev pub IsPresent : List Standing → Option Try → Type 0
IsPresent standings None = Unit {0}
IsPresent standings (Some t) = (further : ℕ) × (slice_get standings t.copy ≡ Some (Waits further))

pub record IsWhole (s : CopiesState) : Type 0 where
  pub some : 1 ≤ s.each
  pub few : s.parts * s.each ≤ 255
  pub length_is : length s.standings ≡ s.parts * s.each
  -- the try under way is one of a copy that waits
  pub present_is : IsPresent s.standings s.present
