-- What the calls of a disk do to its bytes, and what a crash may do between two syncs.
use Rattle.std.specs.Prelude.{◌≡◌, ◌⊎◌, ℕ, ◌+◌, ◌-◌, ◌≤◌, max, min, List, ◌++◌, length, take, drop}
pub use Rattle.express_words.specs.Causes.{CountsFault}

-- new is old with these bytes at this offset
abbrev pub Holds : ℕ → List ℕ → List ℕ → List ℕ → Type 0
Holds at bytes old new = new ≡ take at old ++ bytes ++ drop (at + length bytes) old

-- after a write of n bytes that a crash cuts short: any bytes in the range and past the old end, the same
-- elsewhere
pub record Torn (at n : ℕ) (old new : List ℕ) : Type 0 where
  pub before : take at new ≡ take at old
  pub after : drop (at + n) new ≡ drop (at + n) old
  pub no_shorter : length old ≤ length new
  pub no_longer : length new ≤ max (length old) (at + n)

-- a read of so many bytes gave the bytes there into the front of the buffer, fewer than asked only where
-- the disk ends
abbrev pub Copies : ℕ → ℕ → List ℕ → List ℕ → List ℕ → Type 0
Copies at n old_buffer new_buffer content =
    (n ≡ min (length content - at) (length old_buffer))
    × (new_buffer ≡ take n (drop at content) ++ drop n old_buffer)

-- each new content comes from an old one by a step
abbrev pub Follows :
    (List ℕ → List ℕ → Type 0) → (List ℕ → Type 0) → (List ℕ → Type 0) → Type 0
Follows step old new = (c : List ℕ) → new c → (d : List ℕ) × old d × step d c

-- each content of the one kind is of the other
abbrev pub Within : (List ℕ → Type 0) → (List ℕ → Type 0) → Type 0
Within some others = (c : List ℕ) → some c → others c

-- What a disk shows: the contents that a read may give and those that a crash now may leave, this moment as a
-- number that doesn't fall, and what a crash at some moment since that one might have left, during a call or
-- between two.
pub record DiskSeen : Type 1 where
  pub reads : List ℕ → Type 0
  pub may_leave : List ℕ → Type 0
  pub moment : ℕ
  pub left_since : ℕ → List ℕ → Type 0

-- A read gives the same content as before, and a crash leaves nothing that it mightn't have left before.
pub record IsUntouched (old new : DiskSeen) : Type 0 where
  pub gives : Within new.reads old.reads
  pub still : Within old.reads new.reads
  pub crash : Within new.may_leave old.may_leave

-- Time goes on: a crash since t might have left what it might have left before, or what it may leave now.
pub record Elapses (old new : DiskSeen) : Type 0 where
  pub later : old.moment ≤ new.moment
  pub nothing_else : (t : ℕ) (c : List ℕ) → t ≤ old.moment → new.left_since t c
      → old.left_since t c ⊎ new.may_leave c
  pub keeps : (t : ℕ) (c : List ℕ) → t ≤ old.moment → old.left_since t c → new.left_since t c

-- A crash at any moment since old leaves a content that has P.
pub record LeavesOnly (old new : DiskSeen) (P : List ℕ → Type 0) : Type 0 where
  pub later : old.moment ≤ new.moment
  pub each : (c : List ℕ) → new.left_since old.moment c → P c
  -- for a run that began earlier
  pub before : (t : ℕ) (c : List ℕ) → t ≤ old.moment → new.left_since t c → old.left_since t c ⊎ P c
