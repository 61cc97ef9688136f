-- Where a number stands at the end that carries commands out.
use Rattle.std.specs.Prelude.{◌≡◌, ℕ, ◌+◌, ◌<◌, ◌≤◌, ◌⊎◌, List, Some, length, slice_get}
use Rattle.link_order.specs.Link.{Carried, IsKeptAt}
use Rattle.link_order.specs.declared.incoming.Arrival.{Arrival}
use Rattle.link_order.specs.declared.incoming.Arrival.TheVariants.{Next, Kept, Passed}

-- Next exactly for the next number, Kept exactly for the last ones with their replies, and else Passed
abbrev pub IsArrival : Carried → ℕ → Arrival → Type 0
IsArrival link number Next = number ≡ link.carried + 1
IsArrival link number (Kept reply) =
    (place : ℕ) × IsKeptAt link number place × (slice_get link.replies place ≡ Some reply.now)
IsArrival link number Passed = (link.carried + 1 < number) ⊎ (number + length link.replies ≤ link.carried)

-- the reply that is kept, if one is
abbrev pub IfKept : Arrival → (List ℕ → Type 0) → Type 0
IfKept Next P = Unit {0}
IfKept (Kept reply) P = P reply.now
IfKept Passed P = Unit {0}
