-- An owner's desk on a disk.
use Rattle.std.specs.Prelude.{◌≡◌, ℕ, false, List, [], ◌∷◌, ◌++◌, map, Option, Some, unwrap_or}
use Rattle.desk_entries.specs.declared.entry.Entry.{Entry}
use Rattle.desk_entries.specs.declared.entry.Entry.TheVariants as entry
use Rattle.desk_entries.specs.Desks.{closed_at}
use Rattle.desk_entries.specs.Records.{AreEntries, entry_record}
use Rattle.desk_texts.specs.declared.day.Day.{Day}
use Rattle.desk_texts.specs.Spelling.{SpellsSheet}
use Rattle.desk_texts.specs.declared.sheet.Head.TheVariants as head
use Rattle.desk_texts.specs.declared.sheet.Sheet.{Sheet}
use Rattle.node_journal.specs.Disk.{DiskSeen}
use Rattle.client_restart.specs.Kept.{ClientState, StandsByNotes}
use Rattle.desk_ledger.specs.declared.pair.Pair.{Pair}

-- its pair of servers, its entries, and the client that remembers
pub record LedgerState (D : Type 0) : Type 0 where
  pub pair : Pair
  pub entries : List Entry
  pub client : ClientState D

-- the text is a pair file's, of this pair
pub record SaysPair (p : Pair) (text : List ℕ) : Type 0 where
  pub sheet : Sheet
  pub spells : SpellsSheet sheet text
  pub head : sheet.head ≡ head.Pair p.head
  pub leader : sheet.leader ≡ p.leader
  pub helper : sheet.helper ≡ p.helper

-- the first entry is the text of a pair file, of this pair
abbrev pub IsOfPair : Pair → List Entry → Type 0
IsOfPair p (entry.Pair text ∷ entries) = SaysPair p text
IsOfPair p other = ⊥

-- The entries are what the client's remarks tell, and the first is the pair's.
pub record IsDesk (p : Pair) (entries : List Entry) (remarks : List (List ℕ)) : Type 0 where
  pub are : AreEntries entries
  pub told : remarks ≡ map entry_record entries
  pub pair : IsOfPair p entries

-- behind the old entries this one
abbrev pub AddsEntry : {D : Type 0} → Entry → (old new : LedgerState D) → Type 0
AddsEntry e old new = new.entries ≡ old.entries ++ e ∷ []

-- the entry of a name, of boxes at these addresses and a card with this last day
abbrev pub AddsName : {D : Type 0} → (name addresses : List ℕ) → Option Day → (old new : LedgerState D)
    → Type 0
AddsName name addresses until old new =
    AddsEntry (entry.Named (record { name = name; addresses = addresses; until = until })) old new

-- A name is closed on this day, unless it was before.
abbrev pub IsClosedOn : (name : List ℕ) → Day → (old new : List Entry) → Type 0
IsClosedOn name day old new = closed_at new name ≡ Some (unwrap_or (closed_at old name) day)

-- what a ledger's disk holds gives its client
abbrev pub IsOnDisk : {D : Type 0} → (D → DiskSeen) → LedgerState D → Type 0
IsOnDisk shows l = l.client.journal.closed ≡ false
    → StandsByNotes l.client.opening l.client.core (shows l.client.disk).reads

-- Of a desk nothing but its entries has changed.
pub record EntriesOnly {D : Type 0} (old new : LedgerState D) : Type 0 where
  pub pair : new.pair ≡ old.pair
  pub opening : new.client.opening ≡ old.client.opening
  pub boxes : new.client.core.boxes ≡ old.client.core.boxes
  pub client : new.client.core.client ≡ old.client.core.client
  pub untold : new.client.core.untold ≡ old.client.core.untold
