-- Lists of registrations, and the boxes that they leave.
use Rattle.std.specs.Prelude.{◌≡◌, ℕ, ◌==◌, not, is_ok, if◌then◌else◌, List, [], ◌∷◌, filter, take}
use Rattle.box_registry.specs.Boxes.{Box, Boxes, answer_to, with_box}

abbrev pub no_boxes : ℕ → Boxes
no_boxes limit = record { limit = limit; boxes = [] }

-- a registration that is refused changes nothing
abbrev pub added : Boxes → Box → Boxes
added r asked = if is_ok (answer_to r asked.address) then with_box r asked.address asked.key else r

-- the boxes after the registrations, the first of them first
abbrev pub after : Boxes → List Box → Boxes
after r [] = r
after r (asked ∷ rest) = after (added r asked) rest

-- of each address the first registration alone, in order
abbrev pub first_of_each : List Box → List Box
first_of_each [] = []
first_of_each (asked ∷ rest) =
    asked ∷ filter (λ other. not (asked.address == other.address)) (first_of_each rest)

-- after every list of registrations the boxes are the first registrations of the addresses, up to the limit
abbrev pub FirstsStand : Type 0
FirstsStand =
    (limit : ℕ) (asked : List Box) →
    after (no_boxes limit) asked ≡ record { limit = limit; boxes = take limit (first_of_each asked) }
