-- Every box has as many bytes as the width, whatever a journal writes, reads and retires.
use Rattle.std.specs.Prelude.{◌≡◌, ◌≤◌, ℕ, true, List, length, Some, slice_get}
use Rattle.mailbox_rules.specs.Requests.{Entry}
use Rattle.mailbox_rules.specs.Tables.{Mailbox, Writes, table_after}

-- no accepted write adds more bytes than the width
abbrev pub AddsWithin : ℕ → Writes → Type 0
AddsWithin width writes = (lane serial address : ℕ) → writes.accepts lane serial ≡ true
    → length (writes.adds lane serial address) ≤ width

abbrev pub BoxesHaveWidth : Type 0
BoxesHaveWidth = (limit width : ℕ) (writes : Writes) (entries : List Entry) (n : ℕ) (box : Mailbox)
    → AddsWithin width writes → slice_get (table_after limit width writes entries).boxes n ≡ Some box
    → length box.bytes ≡ width
