-- How the last requests ended.
use Rattle.std.specs.Prelude.{◌≡◌, ◌≢◌, ◌+◌, ◌≤◌, ◌⊎◌, ℕ, List, [], ◌∷◌, slice_get, Option, Some, None}
use Rattle.std.specs.Prelude.{bytes_eq, if◌then◌else◌}
use Rattle.lane_gate.specs.declared.ticket.TicketHash.{TicketHash}
use Rattle.lane_leases.specs.declared.ended.End.{End}
use Rattle.lane_leases.specs.declared.ended.Ended.{Ended}

-- none of the ends from this place on is of the ticket of this hash
abbrev pub NoneFrom : ℕ → List Ended → TicketHash → Type 0
NoneFrom start ends hash = (place : ℕ) (ended : Ended) → start ≤ place →
    slice_get ends place ≡ Some ended → ended.hash ≢ hash

-- the last of the ends that are of this ticket
pub record IsLastEnd (ends : List Ended) (hash : TicketHash) (end : End) : Type 0 where
  pub place : ℕ
  pub at : slice_get ends place ≡ Some (record { hash = hash; end = end })
  pub last : NoneFrom (place + 1) ends hash

-- how the request of the ticket ended, where that is remembered
abbrev pub IsEndOf : List Ended → TicketHash → Option End → Type 0
IsEndOf ends hash (Some end) = IsLastEnd ends hash end
IsEndOf ends hash None = NoneFrom 0 ends hash

-- the end that was found, or that of this one where it is of this ticket
abbrev pub IsLater : Option End → Option Ended → TicketHash → Option End → Type 0
IsLater found None hash now = now ≡ found
IsLater found (Some ended) hash now =
    ((ended.hash ≡ hash) × (now ≡ Some ended.end)) ⊎ ((ended.hash ≢ hash) × (now ≡ found))

-- this end, where it is of this ticket
abbrev pub end_if_of : TicketHash → Ended → Option End
end_if_of hash ended = if bytes_eq ended.hash.0 hash.0 then Some ended.end else None

abbrev pub later_or : Option End → Option End → Option End
later_or None before = before
later_or (Some end) before = Some end

-- how the request of the ticket ended, as a function of the ends
abbrev pub last_end : List Ended → TicketHash → Option End
last_end [] hash = None
last_end (ended ∷ ends) hash = later_or (last_end ends hash) (end_if_of hash ended)
