-- What is drawn for a try, one draw behind the other.
use Rattle.std.specs.Prelude.{◌≡◌, ◌≢◌, ◌<◌, ◌==◌, nat_lt, if◌then◌else◌, ℕ, ◌+◌, ◌-◌, ◌%◌, ◌^◌, max}
use Rattle.std.specs.Prelude.{List, Option, Some, None}
use Rattle.rand_core.specs.Stream.{Stream, fill_bytes, next_u32, next_u64}
use Rattle.client_restart.specs.declared.opening.ClientOpening.{ClientOpening}
use Rattle.express_words.specs.declared.refusal.Refusal.TheVariants as refusal
use Rattle.desk_draws.specs.Streams.{behind}
use Rattle.desk_tries.specs.declared.heard.Answer.{Answer}
use Rattle.desk_tries.specs.declared.heard.Answer.TheVariants as answer
use Rattle.desk_tries.specs.Draws.{next_lane, other_lane}
use Rattle.desk_texts.specs.declared.sheet.CardHead.{CardHead}

-- a seed of 32 bytes is drawn first
abbrev pub seed_in : Stream → List ℕ
seed_in s = (fill_bytes 32 s).0

abbrev pub behind_seed : Stream → Stream
behind_seed s = behind (fill_bytes 32) s

-- of a first try then the letter's id
abbrev pub id_in : Stream → ℕ
id_in s = (next_u64 (behind_seed s)).0

-- the first address of so many
abbrev pub first_in : ℕ → Stream → ℕ
first_in addresses s = (next_u64 (behind next_u64 (behind_seed s))).0 % addresses

-- and a lane with a serial from 1 to 65,536
abbrev pub lane_in : CardHead → Stream → ℕ
lane_in h s = h.from + (next_u64 s).0 % (h.to - h.from + 1)

abbrev pub serial_in : Stream → ℕ
serial_in s = 1 + (next_u32 (behind next_u64 s)).0 % 2 ^ 16

abbrev pub behind_letter : Stream → Stream
behind_letter s = behind next_u64 (behind next_u64 (behind_seed s))

-- what is left once a lane and serial are drawn too
abbrev pub behind_first : Stream → Stream
behind_first s = behind next_u32 (behind next_u64 (behind_letter s))

-- how a first try's client is opened
abbrev pub first_opening : CardHead → Stream → ClientOpening
first_opening h s = record {
  lane = lane_in h (behind_letter s);
  width = h.width;
  capacity = 0;
  first_serial = serial_in (behind_letter s);
  seed = seed_in s;
}

-- ---- the lane of a next try

-- the highest serial that is known of a lane on which this one was used, and maybe another was named
abbrev pub known_of : ℕ → Option ℕ → ℕ
known_of serial None = serial
known_of serial (Some named) = max serial named

-- a serial from 1 to 65,536
abbrev pub short_in : Stream → ℕ
short_in s = 1 + (next_u32 s).0 % 2 ^ 16

-- what the last answer named, as it was answered
abbrev pub answer_by : Option ℕ → Answer
answer_by None = answer.Other
answer_by (Some named) = answer.Refused (refusal.Stale named)

-- the lane that is drawn first
abbrev pub next_lane_in : CardHead → (last : ℕ) → Option ℕ → Stream → ℕ
next_lane_in h last named s = next_lane h.from h.to last (answer_by named) (next_u64 s).0

-- another lane, with one of its first serials; none where the card has no other
abbrev pub other_in : CardHead → (last : ℕ) → Stream → Option (ℕ × ℕ)
other_in h last s = if other_lane h.from h.to last (next_u64 s).0 == last then None
    else Some (other_lane h.from h.to last (next_u64 s).0, short_in (behind next_u64 s))

-- the same lane, with a serial above those that are known of it; where none is left, another
abbrev pub same_in : CardHead → (last known : ℕ) → Stream → Option (ℕ × ℕ)
same_in h last known s = if nat_lt (known + short_in s) (2 ^ 32) then Some (last, known + short_in s)
    else other_in h last (behind next_u32 s)

-- The lane and serial that are drawn behind a try of this lane and serial, whose last answer named a serial or
-- none.
abbrev pub next_in : CardHead → (last serial : ℕ) → Option ℕ → Stream → Option (ℕ × ℕ)
next_in h last serial named s = if next_lane_in h last named s == last
    then same_in h last (known_of serial named) (behind next_u64 s)
    else Some (next_lane_in h last named s, short_in (behind next_u64 s))

-- ---- what is left behind them

abbrev pub behind_other : CardHead → (last : ℕ) → Stream → Stream
behind_other h last s = if other_lane h.from h.to last (next_u64 s).0 == last then behind next_u64 s
    else behind next_u32 (behind next_u64 s)

abbrev pub behind_same : CardHead → (last known : ℕ) → Stream → Stream
behind_same h last known s = if nat_lt (known + short_in s) (2 ^ 32) then behind next_u32 s
    else behind_other h last (behind next_u32 s)

-- A lane and a serial were drawn, and where none was left on the lane another lane.
abbrev pub behind_next : CardHead → (last serial : ℕ) → Option ℕ → Stream → Stream
behind_next h last serial named s = if next_lane_in h last named s == last
    then behind_same h last (known_of serial named) (behind next_u64 s)
    else behind next_u32 (behind next_u64 s)

-- ---- what is known of them

-- Behind a try of this lane and serial, whose last answer named a serial or none: on the same lane the next
-- serial is above all that are known. Where none was named it is another lane, if there is one.
pub record Follows (h : CardHead) (lane serial : ℕ) (named : Option ℕ) (next_lane next_serial : ℕ)
    : Type 0 where
  pub above : next_lane ≡ lane → known_of serial named < next_serial
  pub other : named ≡ None → h.from < h.to → next_lane ≢ lane
