-- What a server makes of bytes.
use Rattle.std.specs.Prelude.{ℕ, ◌≤◌, ⊤, Bool, List, take, Option, Some, None}
use Rattle.many_words.specs.declared.door.Door.{Door}
use Rattle.many_conns.specs.declared.said.Key.{Key}
use Rattle.many_conns.specs.declared.said.Said.{Said}
use Rattle.many_conns.specs.declared.said.Said.TheVariants as said

-- What becomes of a frame: it is answered at once, at its own place; it is so, and is the last that is taken of its
-- connection; its place waits for the answer to this lane's serial; a command goes to the other server, and its place
-- waits for that answer, if one is named; it brings that answer for whoever waits for it; or none is due.
pub data Outcome : Type 0 where
  Answers : (bytes : List ℕ) → Outcome
  Lasts : (bytes : List ℕ) → Outcome
  Waits : (key : Key) → Outcome
  Commands : (key : Option Key) (bytes : List ℕ) → Outcome
  Replies : (key : Key) (bytes : List ℕ) → Outcome
  Nothing : Outcome

-- what a step says, with the bytes that it wrote
abbrev pub outcome_of : Said → (out : List ℕ) → Outcome
outcome_of (said.Answer count) out = Answers (take count out)
outcome_of (said.Last count) out = Lasts (take count out)
outcome_of (said.Wait key) out = Waits key
outcome_of (said.Command key count) out = Commands key (take count out)
outcome_of (said.Reply key count) out = Replies key (take count out)
outcome_of said.Nothing out = Nothing

-- it says no more bytes than were written
abbrev pub IsWithin : Said → (room : ℕ) → Type 0
IsWithin (said.Answer count) room = count ≤ room
IsWithin (said.Last count) room = count ≤ room
IsWithin (said.Wait key) room = ⊤
IsWithin (said.Command key count) room = count ≤ room
IsWithin (said.Reply key count) room = count ≤ room
IsWithin said.Nothing room = ⊤

pub record Rules (S : Type 0) : Type 0 where
  -- how many of these bytes, which came through a door, are the first whole frame, if one is
  pub whole : Door → List ℕ → Option ℕ
  -- a frame that takes long
  pub is_dear : Door → List ℕ → Bool
  -- how many frames of clients it can take now
  pub room : S → ℕ
  -- what the log notes of a frame before it is taken, if anything
  pub noted : S → Door → List ℕ → Option (List ℕ)
  -- what becomes of a frame, with what was noted of it
  pub says : S → Door → (frame : List ℕ) → (noted : Option (List ℕ)) → Outcome
  -- what it is behind a record
  pub after : S → (noted : List ℕ) → S
  -- the commands that are unanswered, from the oldest on
  pub outstanding : S → List (List ℕ)

-- what it is behind a frame, of which this was noted: without a record it stays as it is
abbrev pub after_noted : {S : Type 0} → Rules S → S → Option (List ℕ) → S
after_noted rules s None = s
after_noted rules s (Some noted) = rules.after s noted

-- the bytes that were written, where any were
abbrev pub written : Option ℕ → (out : List ℕ) → Option (List ℕ)
written None out = None
written (Some count) out = Some (take count out)
