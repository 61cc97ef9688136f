-- The lane of a try, by a number that is drawn, and what an answer says of a lane: the highest serial that is known of it.
use Rattle.std.specs.Prelude.{ℕ, ◌+◌, ◌-◌, ◌%◌, ◌==◌, nat_lt, if◌then◌else◌, max, Bool, true, false}
use Rattle.express_words.specs.declared.refusal.Refusal.{Refusal}
use Rattle.express_words.specs.declared.refusal.Refusal.TheVariants as refusal
use Rattle.desk_tries.specs.declared.heard.Answer.{Answer}
use Rattle.desk_tries.specs.declared.heard.Answer.TheVariants as answer

abbrev pub named_in : ℕ → Refusal → ℕ
named_in highest (refusal.Stale serial) = max highest serial
named_in highest r = highest

abbrev pub highest_named : ℕ → Answer → ℕ
highest_named highest (answer.Refused r) = named_in highest r
highest_named highest a = highest

-- the lane's row stands at a higher serial
abbrev pub names_serial : Refusal → Bool
names_serial (refusal.Stale serial) = true
names_serial r = false

abbrev pub is_stale : Answer → Bool
is_stale (answer.Refused r) = names_serial r
is_stale a = false

-- a lane of a range, both ends with it
abbrev pub lane_among : (from to drawn : ℕ) → ℕ
lane_among from to drawn = from + drawn % (to - from + 1)

-- Of the lanes but the last one, in order, the one at this place.
abbrev pub left_out : (last lane : ℕ) → ℕ
left_out last lane = if nat_lt lane last then lane else lane + 1

-- a lane of the range but the last one, where there is another
abbrev pub other_lane : (from to last drawn : ℕ) → ℕ
other_lane from to last drawn = if from == to then last else left_out last (lane_among from (to - 1) drawn)

-- the lane of the next try
abbrev pub next_lane : (from to last : ℕ) → Answer → (drawn : ℕ) → ℕ
next_lane from to last a drawn = if is_stale a then last else other_lane from to last drawn
