-- Steps on the desk's folder, one behind another.
use Rattle.std.proofs.Common.{◌≡◌, ◌∙◌, Bool, true, List, Option, ap, inl, inr, sym}
use Rattle.express_words.specs.Seen.{Seen}
use Rattle.node_journal.specs.Disk.{DiskSeen}
use Rattle.desk_outside.specs.Calls.{Adds, FolderCall, Placed, Removed}
use Rattle.desk_outside.specs.declared.folder.DeskFile.TheVariants.{Ledger, NextLedger, NextOutbox, Outbox}
use Rattle.desk_outside.specs.declared.folder.Slot.{Slot}
use Rattle.kept_machine.specs.Kept.{KeptState}
use Rattle.kept_letter.specs.declared.machine.KeptLetter.{KeptLetter}
use Rattle.kept_ledger.specs.Ledgers.{LedgerState}
use Rattle.desk_around.specs.Chains.{Chain, goes}
use Rattle.desk_steps.specs.declared.finding.Found.{Found}
use Rattle.desk_steps.specs.declared.finding.Found.TheVariants as found
use Rattle.desk_steps.specs.Finding.{IsAt, is_taken}
use Rattle.desk_steps.specs.Folder.{FolderStep, IsGentle, IsNextLedger, IsOver, IsUnsent, WasLookedAt, gentle, ledger}
use Rattle.desk_steps.specs.Folder.{letter, over}

pub on_gentle : {D : Type 0} (shows : D → DiskSeen) (counts : D → Seen) (call : FolderCall D)
    (a b : Option (List (FolderCall D))) → IsGentle call → Adds a b call
    → (start : Option (List (FolderCall D))) → Chain (FolderStep shows counts) start a
    → Chain (FolderStep shows counts) start b
on_gentle shows counts call a b is adds start s = goes a b s (gentle call is adds)

pub on_ledger : {D : Type 0} (shows : D → DiskSeen) (counts : D → Seen) (next : LedgerState) (failed : Bool)
    (a b : Option (List (FolderCall D))) → IsNextLedger next → Adds a b (Placed NextLedger Ledger failed)
    → (start : Option (List (FolderCall D))) → Chain (FolderStep shows counts) start a
    → Chain (FolderStep shows counts) start b
on_ledger shows counts next failed a b is adds start s = goes a b s (ledger next failed is adds)

pub on_letter : {D : Type 0} (shows : D → DiskSeen) (counts : D → Seen) (slot : Slot)
    (next : KeptState KeptLetter D) (failed : Bool) (a b : Option (List (FolderCall D)))
    → IsUnsent next.machine.letter → Adds a b (Placed (NextOutbox slot) (Outbox slot) failed)
    → (start : Option (List (FolderCall D))) → Chain (FolderStep shows counts) start a
    → Chain (FolderStep shows counts) start b
on_letter shows counts slot next failed a b is adds start s = goes a b s (letter slot next failed is adds)

pub on_over : {D : Type 0} (shows : D → DiskSeen) (counts : D → Seen) (slot : Slot) (failed : Bool)
    (a b : Option (List (FolderCall D))) → IsOver shows counts slot a → Adds a b (Removed (Outbox slot) failed)
    → (start : Option (List (FolderCall D))) → Chain (FolderStep shows counts) start a
    → Chain (FolderStep shows counts) start b
on_over shows counts slot failed a b is adds start s = goes a b s (over slot failed is adds)

-- ---- what stands at a place is looked at

not_taken : {P D : Type 0} (f : Found D) → f ≡ found.Nothing → is_taken f ≡ true → P
not_taken f is taken = let wrong = sym taken ∙ ap is_taken is in absurd (cc wrong)

pub looked_at : {D : Type 0} (shows : D → DiskSeen) (slot : Slot) (a b : Option (List (FolderCall D)))
    (f : Found D) → IsAt shows slot a b f → is_taken f ≡ true → WasLookedAt shows slot b
looked_at shows slot a b f (inl none) taken = not_taken f none.nothing taken
looked_at shows slot a b f (inr there) taken = record { before = a; found = f; looked = there }
