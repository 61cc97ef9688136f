-- Letters that are given up.
use Rattle.std.proofs.Common.{inl, inr, Bool, true, false}
use Rattle.node_journal.specs.Disk.{DiskSeen}
use Rattle.desk_outside.specs.declared.folder.Slot.{Slot}
use Rattle.desk_send.specs.Waiting.{GivesUpAny, GivesUpIf, View}

pub gives_up_any : {D : Type 0} (shows : D → DiskSeen) (was_copied : Bool) (slot : Slot) (old new : View D)
    (there : Bool)
    → GivesUpIf shows was_copied slot old new there → GivesUpAny shows was_copied slot old new
gives_up_any shows was_copied slot old new true up = inr up
gives_up_any shows was_copied slot old new false none = inl none
