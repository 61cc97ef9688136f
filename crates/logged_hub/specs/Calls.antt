-- The records of a log, by the calls.
use Rattle.std.specs.Prelude.{◌≡◌, ℕ, Bool, true, false, List, [], ◌∷◌, ◌++◌, map, Option, Some, None}
use Rattle.many_words.specs.Events.{Entry, Event, Logged, LogFailed, records_of}
use Rattle.many_words.specs.declared.door.Door.TheVariants.{Clients}

-- the records that a call wrote to the log
abbrev pub written_by : Event → List (List ℕ)
written_by (Logged entries) = records_of entries
written_by other = []

-- those that these calls wrote, in their order
abbrev pub written : List Event → List (List ℕ)
written [] = []
written (event ∷ events) = written_by event ++ written events

-- a record that was there before the first call, of whose frame nothing is known
abbrev pub entry_of : List ℕ → Entry
entry_of bytes = record { place = 0; door = Clients; frame = []; noted = Some bytes }

-- a log was opened that held these records
abbrev pub opening : List (List ℕ) → Event
opening records = Logged (map entry_of records)

-- a call of the connections: it isn't the log's
abbrev pub is_of_wires : Event → Bool
is_of_wires (Logged entries) = false
is_of_wires LogFailed = false
is_of_wires other = true

-- these calls behind the others, where there is a history of them
abbrev pub AddsAll : Option (List Event) → Option (List Event) → List Event → Type 0
AddsAll old None events = Unit {0}
AddsAll None (Some new) events = ⊥
AddsAll (Some old) (Some new) events = new ≡ old ++ events
