-- The blocks of a class, read from the slots that hold them.
use Rattle.std.specs.Prelude.{ℕ, Bool, true, false, List, Option, Some, None, All, ◌≡◌, length}
use Rattle.block_region.specs.declared.shelf.Slot.{Slot}

abbrev pub content_if : Bool → List ℕ → Option (List ℕ)
content_if true bytes = Some bytes
content_if false bytes = None

abbrev pub content : Slot → Option (List ℕ)
content slot = content_if slot.out slot.bytes.items

abbrev pub HaveSize : ℕ → List Slot → Type 0
HaveSize size slots = All (λ slot. length slot.bytes.items ≡ size) slots
