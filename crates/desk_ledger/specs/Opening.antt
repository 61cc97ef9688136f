-- How a desk is opened, and why it isn't.
use Rattle.std.specs.Prelude.{◌≡◌, ◌<◌, ℕ, List, [], ◌∷◌, Option, Some, None, length, map, slice_get}
use Rattle.node_journal.specs.Disk.{DiskSeen}
use Rattle.node_journal.specs.declared.fault.JournalFault.TheVariants.{Closed, NotEmpty, Full, Disk, Damaged}
use Rattle.kept_machine.specs.declared.fault.KeepFault.TheVariants.{Journal, NoMemory, Foreign}
use Rattle.client_restart.specs.declared.opening.ClientOpening.{ClientOpening}
use Rattle.client_restart.specs.Kept.{HoldsNoNotes, HoldsNotes, IsDamagedBehindNotes}
use Rattle.client_restart.specs.Notes.{Noted}
use Rattle.client_restart.specs.Openings.{IsClientOpening}
use Rattle.client_restart.specs.Records.{AllNotes}
use Rattle.client_restart.specs.Steps.{fold}
use Rattle.desk_entries.specs.declared.entry.Entry.{Entry}
use Rattle.desk_entries.specs.declared.entry.Entry.TheVariants as entry
use Rattle.desk_entries.specs.Records.{AreEntries, IsNoEntry, entry_record}
use Rattle.desk_texts.specs.declared.sheet.CardHead.{CardHead}
use Rattle.desk_texts.specs.declared.sheet.Head.TheVariants.{Card}
use Rattle.desk_texts.specs.declared.sheet.PairHead.{PairHead}
use Rattle.desk_texts.specs.declared.sheet.Sheet.{Sheet}
use Rattle.desk_texts.specs.Spelling.{IsFirstBadLine, SpellsSheet}
use Rattle.desk_ledger.specs.declared.fault.OpenFault.{OpenFault}
use Rattle.desk_ledger.specs.declared.fault.OpenFault.TheVariants.{BadLine, NoPairFile, TooLong, Keep, NoPair}
use Rattle.desk_ledger.specs.declared.fault.OpenFault.TheVariants.{NoEntry}
use Rattle.desk_ledger.specs.declared.pair.Pair.{Pair}
use Rattle.desk_ledger.specs.Handing.{OnKeeping}
use Rattle.desk_ledger.specs.Ledgers.{IsDesk, IsOfPair, LedgerState}

-- on the owner's lane, with room for as many boxes as the servers have, from serial 1 on
abbrev pub opening_of : PairHead → List ℕ → ClientOpening
opening_of head seed = record {
  lane = head.lane;
  width = head.width;
  capacity = head.boxes;
  first_serial = 1;
  seed = seed;
}

-- the text is a card's
abbrev pub SpellsCard : List ℕ → Type 0
SpellsCard text = (sheet : Sheet) × (head : CardHead) × SpellsSheet sheet text × (sheet.head ≡ Card head)

-- what is wrong with the text of a pair file, or no memory was found
abbrev pub IsOfText : List ℕ → OpenFault → Type 0
IsOfText text (BadLine line) = IsFirstBadLine line text
IsOfText text NoPairFile = SpellsCard text
IsOfText text TooLong = ⊥
IsOfText text (Keep fault) = fault ≡ NoMemory
IsOfText text NoPair = ⊥
IsOfText text (NoEntry number) = ⊥

-- where the text is refused, what is wrong with it, and P
abbrev pub OnText : OpenFault → List ℕ → Type 0 → Type 0
OnText (BadLine line) text P = IsFirstBadLine line text × P
OnText NoPairFile text P = SpellsCard text × P
OnText TooLong text P = (8212 < length text) × P
OnText (Keep fault) text P = Unit {0}
OnText NoPair text P = ⊥
OnText (NoEntry number) text P = ⊥

-- why the journal of a new ledger isn't made
abbrev pub OnOpening : ℕ → (List ℕ → Type 0) → List ℕ → OpenFault → Type 0
OnOpening limit reads text (Keep fault) = OnKeeping limit reads [] (entry.Pair text ∷ []) fault
OnOpening limit reads text other = Unit {0}

-- ---- why a disk holds no desk

-- the remark of this number, counted from 0, is no entry
abbrev pub LacksEntry : ℕ → List (List ℕ) → Type 0
LacksEntry number remarks = (words : List ℕ) × (slice_get remarks number ≡ Some words) × IsNoEntry words

abbrev pub IsNoDesk : List (List ℕ) → Type 0
IsNoDesk remarks = (p : Pair) (entries : List Entry) → IsDesk p entries remarks → ⊥

-- P of the remarks of a client, where the disk holds its notes
abbrev pub OfRemarks : (List ℕ → Type 0) → (List (List ℕ) → Type 0) → Type 0
OfRemarks reads P = (o : ClientOpening) (notes : List Noted) (c : List ℕ) → reads c → IsClientOpening o
    → AllNotes notes → HoldsNotes o notes reads → P (fold o notes).remarks

-- Why the desk on a disk isn't opened again.
abbrev pub IsOfReopening : ℕ → DiskSeen → OpenFault → Type 0
IsOfReopening limit disk (Keep (Foreign n)) = HoldsNoNotes disk.reads
IsOfReopening limit disk (Keep (Journal (Damaged at))) =
    (c : List ℕ) → disk.reads c → IsDamagedBehindNotes limit at c
IsOfReopening limit disk (Keep (Journal (Disk faults))) = Unit {0}
IsOfReopening limit disk (Keep NoMemory) = Unit {0}
IsOfReopening limit disk (Keep (Journal Closed)) = ⊥
IsOfReopening limit disk (Keep (Journal NotEmpty)) = ⊥
IsOfReopening limit disk (Keep (Journal (Full end))) = ⊥
IsOfReopening limit disk NoPair = OfRemarks disk.reads IsNoDesk
IsOfReopening limit disk (NoEntry number) = OfRemarks disk.reads (LacksEntry number)
IsOfReopening limit disk (BadLine line) = ⊥
IsOfReopening limit disk NoPairFile = ⊥
IsOfReopening limit disk TooLong = ⊥

-- the same of the remarks alone, for which memory may lack too
abbrev pub IsOfRemarks : List (List ℕ) → OpenFault → Type 0
IsOfRemarks remarks (Keep fault) = fault ≡ NoMemory
IsOfRemarks remarks NoPair = IsNoDesk remarks
IsOfRemarks remarks (NoEntry number) = LacksEntry number remarks
IsOfRemarks remarks (BadLine line) = ⊥
IsOfRemarks remarks NoPairFile = ⊥
IsOfRemarks remarks TooLong = ⊥

-- of the remark of this number
abbrev pub IsOfRemark : ℕ → List ℕ → OpenFault → Type 0
IsOfRemark number words (Keep fault) = fault ≡ NoMemory
IsOfRemark number words (NoEntry n) = (n ≡ number) × IsNoEntry words
IsOfRemark number words NoPair = ⊥
IsOfRemark number words (BadLine line) = ⊥
IsOfRemark number words NoPairFile = ⊥
IsOfRemark number words TooLong = ⊥

-- the text of the first entry, if it is a pair file's
abbrev pub first_text : List Entry → Option (List ℕ)
first_text (entry.Pair text ∷ entries) = Some text
first_text other = None

-- what is told where it isn't a pair file's
abbrev pub as_no_pair : OpenFault → OpenFault
as_no_pair (Keep fault) = Keep fault
as_no_pair other = NoPair

-- of the first entry
abbrev pub IsOfFirst : List Entry → OpenFault → Type 0
IsOfFirst entries (Keep fault) = fault ≡ NoMemory
IsOfFirst entries NoPair = (p : Pair) → IsOfPair p entries → ⊥
IsOfFirst entries (NoEntry number) = ⊥
IsOfFirst entries (BadLine line) = ⊥
IsOfFirst entries NoPairFile = ⊥
IsOfFirst entries TooLong = ⊥

-- ---- the ledger that stands on a disk

-- of the notes that a disk holds, whose remarks are these entries, the ledger is the one
abbrev pub IsAsHeld : {D : Type 0} → DiskSeen → LedgerState D → Type 0
IsAsHeld disk l = (o : ClientOpening) (notes : List Noted) (c : List ℕ) (entries : List Entry)
    → disk.reads c → IsClientOpening o → AllNotes notes → HoldsNotes o notes disk.reads
    → AreEntries entries → (fold o notes).remarks ≡ map entry_record entries
    → (l.client.opening ≡ o) × (l.client.core ≡ fold o notes) × (l.entries ≡ entries)
