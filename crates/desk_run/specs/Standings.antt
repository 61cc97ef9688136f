-- What is told of how a desk stands.
use Rattle.std.specs.Prelude.{◌≡◌, ◌≤◌, ◌^◌, ℕ, ◌*◌, ◌/◌, ◌-◌, ◌&&◌, min, Bool, true, false, List, [], ◌++◌}
use Rattle.std.specs.Prelude.{length, is_none, codes}
use Rattle.std.specs.Fmt.{decimal}
use Rattle.std.specs.List.{filter, flat_map}
use Rattle.desk_entries.specs.declared.entry.Entry.{Entry}
use Rattle.desk_entries.specs.declared.entry.Entry.TheVariants as entry
use Rattle.desk_entries.specs.declared.entry.NamedBoxes.{NamedBoxes}
use Rattle.desk_entries.specs.declared.standing.Standing.{Standing}
use Rattle.desk_entries.specs.declared.standing.Standing.TheVariants.{Live, Retired, Waiting}
use Rattle.desk_entries.specs.Letters.{letters_of, shown_of}
use Rattle.desk_entries.specs.Standings.{stands}
use Rattle.desk_ledger.specs.declared.pair.Pair.{Pair}
use Rattle.desk_ledger.specs.Ledgers.{LedgerState}
use Rattle.desk_ledger.specs.Tasks.{next_task}
use Rattle.desk_run.specs.Closing.{closed_line}

unfoldable pub pair_line : Pair → List ℕ
pair_line p = codes "servers: " ++ p.leader ++ codes " and " ++ p.helper ++ codes "\n"

-- how many of the boxes of a name stand so
abbrev pub count_of : List Entry → NamedBoxes → Standing → ℕ
count_of entries n standing = length (filter (stands entries standing) n.addresses)

unfoldable pub boxes_line : List ℕ → ℕ → ℕ → ℕ → List ℕ
boxes_line name live waiting retired =
    codes "box " ++ name ++ codes ": " ++ decimal live ++ codes " in use, " ++ decimal waiting
    ++ codes " to be made yet, " ++ decimal retired ++ codes " retired\n"

-- of an entry that gives boxes a name, how many there are; of one that closes them, since when
abbrev pub line_of : List Entry → Entry → List ℕ
line_of entries (entry.Named n) =
    boxes_line n.name (count_of entries n Live) (count_of entries n Waiting) (count_of entries n Retired)
line_of entries (entry.Closed c) = closed_line c.name c.day
line_of entries other = []

abbrev pub boxes_lines : List Entry → List ℕ
boxes_lines entries = flat_map (line_of entries) entries

abbrev pub work_words : Bool → List ℕ
work_words true = codes "nothing is under way\n"
work_words false = codes "something is under way: run resume\n"

-- how many letters there are, and how many were not shown
unfoldable pub letters_line : ℕ → ℕ → List ℕ
letters_line letters new =
    codes "letters: " ++ decimal letters ++ codes ", of which " ++ decimal new ++ codes " weren't shown yet\n"

-- how many hundredths are full
unfoldable pub full_line : ℕ → List ℕ
full_line full = codes "the desk is " ++ decimal full ++ codes "% full; forget empties it\n"

-- whether nothing is under way, the letters, and the room
abbrev pub work_text : Bool → ℕ → ℕ → ℕ → List ℕ
work_text is_done letters new full = work_words is_done ++ (letters_line letters new ++ full_line full)

-- of the 2^28 bytes that a ledger may take
abbrev pub hundredths : ℕ → ℕ
hundredths used = (min used 268435456 * 100) / 268435456

-- whether no request is under way and nothing is left to be done; a client has fewer than 2^32 boxes
abbrev pub IsDone : {D : Type 0} → LedgerState D → Bool → Type 0
IsDone l is_done = length l.client.core.boxes ≤ 2 ^ 32 → is_done
    ≡ (is_none l.client.core.client.current && is_none (next_task l.entries l.client.core.boxes))

-- what is told of a desk's work
pub record TellsWork {D : Type 0} (l : LedgerState D) (text : List ℕ) : Type 0 where
  pub is_done : Bool
  pub done : IsDone l is_done
  pub is : text ≡ work_text is_done (length (letters_of l.entries))
      (length (letters_of l.entries) - shown_of l.entries) (hundredths l.client.journal.end)

-- the pair, each name with its boxes, and the work
pub record TellsDesk {D : Type 0} (l : LedgerState D) (text : List ℕ) : Type 0 where
  pub work : List ℕ
  pub tells : TellsWork l work
  pub is : text ≡ pair_line l.pair ++ (boxes_lines l.entries ++ work)

abbrev pub no_desk : List ℕ
no_desk = codes "there is no desk here\n"
