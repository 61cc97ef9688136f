-- Lists of calls of a link's two ends, and what they leave.
use Rattle.std.specs.Prelude.{◌≡◌, ℕ, ◌+◌, ◌==◌, ◌&&◌, nat_lt, Bool, if◌then◌else◌, List, [], ◌∷◌, ◌++◌}
use Rattle.std.specs.Prelude.{length, drop, zero, suc}
use Rattle.link_order.specs.Link.{Outstanding, Carried, last, none_issued, with_issued, with_removed}
use Rattle.link_order.specs.Link.{none_carried, with_carried}

-- ---- the end that carries commands out

-- the link after commands with these replies were carried out, the first of them first
abbrev pub after_carries : Carried → List (List ℕ) → Carried
after_carries link [] = link
after_carries link (reply ∷ replies) = after_carries (with_carried link reply) replies

-- the replies that are kept are the last of all, as many as the window
abbrev pub KeepsTheLast : Type 0
KeepsTheLast =
    (window size : ℕ) (replies : List (List ℕ)) →
    after_carries (none_carried window size) replies ≡ record {
      carried = length replies;
      window = window;
      size = size;
      replies = last window replies;
    }

-- ---- the end that issues commands

pub data Call : Type 0 where
  Issues : List ℕ → Call
  Acknowledges : ℕ → Call

abbrev pub is_full : Outstanding → Bool
is_full link = length link.frames == link.window

-- whether a command is outstanding and the oldest one has this number
abbrev pub is_oldest : Outstanding → ℕ → Bool
is_oldest link number = nat_lt 0 (length link.frames) && (number + length link.frames == link.next)

-- a call changes nothing where the window is full, or the number isn't the oldest one's
abbrev pub called : Outstanding → Call → Outstanding
called link (Issues frame) = if is_full link then link else with_issued link frame
called link (Acknowledges number) = if is_oldest link number then with_removed link else link

abbrev pub after : Outstanding → List Call → Outstanding
after link [] = link
after link (call ∷ calls) = after (called link call) calls

-- the command that a call issues, if any
abbrev pub issued_by : Outstanding → Call → List (List ℕ)
issued_by link (Issues frame) = if is_full link then [] else frame ∷ []
issued_by link (Acknowledges number) = []

-- the number that a call acknowledges, if any
abbrev pub removed_by : Outstanding → Call → List ℕ
removed_by link (Issues frame) = []
removed_by link (Acknowledges number) = if is_oldest link number then number ∷ [] else []

-- all commands that were issued, the first of them first
abbrev pub issued : Outstanding → List Call → List (List ℕ)
issued link [] = []
issued link (call ∷ calls) = issued_by link call ++ issued (called link call) calls

-- all numbers that were acknowledged
abbrev pub removed : Outstanding → List Call → List ℕ
removed link [] = []
removed link (call ∷ calls) = removed_by link call ++ removed (called link call) calls

-- so many numbers from one on
abbrev pub numbers_from : ℕ → ℕ → List ℕ
numbers_from first zero = []
numbers_from first (suc count) = first ∷ numbers_from (first + 1) count

-- The commands are numbered from 1 on in the order in which they were issued and are acknowledged in that
-- order, and those that weren't are outstanding.
pub record GoesInOrder (window size : ℕ) (calls : List Call) : Type 0 where
  pub in_order : removed (none_issued window size) calls
      ≡ numbers_from 1 (length (removed (none_issued window size) calls))
  pub left : after (none_issued window size) calls ≡ record {
    next = 1 + length (issued (none_issued window size) calls);
    window = window;
    size = size;
    frames = drop (length (removed (none_issued window size) calls)) (issued (none_issued window size) calls);
  }

abbrev pub IssuesInOrder : Type 0
IssuesInOrder = (window size : ℕ) (calls : List Call) → GoesInOrder window size calls
