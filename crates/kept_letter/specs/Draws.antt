-- What the tries of a letter draw: slices of the streams that its seed is expanded into. Try t, counted from
-- 0, has the streams 2t and 2t + 1.
use Rattle.std.specs.Prelude.{◌≡◌, ◌≢◌, ◌⊎◌, ℕ, ◌+◌, ◌*◌, ◌≤◌, List, take, drop}
use Rattle.dpf_rules.specs.Expansion.{draw32, stream_bytes}
use Rattle.lane_gate.specs.declared.ticket.Ticket.{Ticket}

-- the seed of the client of a try
abbrev pub try_seed : List ℕ → ℕ → List ℕ
try_seed seed t = draw32 seed (2 * t)

-- its ticket at the leader, and that at the helper: the halves of one draw
abbrev pub leader_ticket : List ℕ → ℕ → Ticket
leader_ticket seed t = record { 0 = take 16 (draw32 seed (2 * t + 1)) }

abbrev pub helper_ticket : List ℕ → ℕ → Ticket
helper_ticket seed t = record { 0 = drop 16 (draw32 seed (2 * t + 1)) }

-- ---- no two draws have a byte in common

pub data Drawn : Type 0 where
  Seed : (number : ℕ) → Drawn
  LeaderTicket : (number : ℕ) → Drawn
  HelperTicket : (number : ℕ) → Drawn

abbrev pub drawn : List ℕ → Drawn → List ℕ
drawn seed (Seed t) = try_seed seed t
drawn seed (LeaderTicket t) = (leader_ticket seed t).0
drawn seed (HelperTicket t) = (helper_ticket seed t).0

-- so many bytes from a place on, of a stream of the letter's seed
pub record Slice : Type 0 where
  pub stream : ℕ
  pub from : ℕ
  pub size : ℕ

abbrev pub bytes_of_slice : List ℕ → Slice → List ℕ
bytes_of_slice seed s = stream_bytes seed s.stream s.from s.size

-- no byte of the one is a byte of the other
abbrev pub AreApart : Slice → Slice → Type 0
AreApart s t = (s.stream ≢ t.stream) ⊎ (s.from + s.size ≤ t.from) ⊎ (t.from + t.size ≤ s.from)

-- Each draw of a letter's tries is a slice, and the slices of two draws are apart: of two tries, of a try's
-- seed and its tickets, of its two tickets.
pub record TriesShareNoDraw : Type 0 where
  pub slice : Drawn → Slice
  pub is : (seed : List ℕ) (x : Drawn) → drawn seed x ≡ bytes_of_slice seed (slice x)
  pub apart : (x y : Drawn) → x ≢ y → AreApart (slice x) (slice y)
