-- The card of a name.
use Rattle.std.specs.Prelude.{◌≡◌, ◌≢◌, ℕ, List, [], length, Option, Some, None}
use Rattle.std.specs.List.{filter}
use Rattle.desk_entries.specs.declared.entry.Entry.{Entry}
use Rattle.desk_entries.specs.declared.entry.NamedBoxes.{NamedBoxes}
use Rattle.desk_entries.specs.declared.standing.Standing.TheVariants.{Live}
use Rattle.desk_entries.specs.Desks.{last_day, named}
use Rattle.desk_entries.specs.Standings.{stands}
use Rattle.desk_texts.specs.declared.day.Day.{Day}
use Rattle.desk_texts.specs.declared.sheet.Head.TheVariants.{Card}
use Rattle.desk_texts.specs.declared.sheet.Sheet.{Sheet}
use Rattle.desk_ledger.specs.Ledgers.{LedgerState}
use Rattle.desk_ledger.specs.declared.pair.Pair.{Pair}

abbrev pub live_of : List Entry → Option NamedBoxes → List ℕ
live_of entries (Some n) = filter (stands entries Live) n.addresses
live_of entries None = []

-- the addresses of a name at which live boxes stand, in order
abbrev pub card_addresses : List Entry → List ℕ → List ℕ
card_addresses entries name = live_of entries (named entries name)

-- a card of these addresses, of which there are some, for the pair's servers, width and strangers' lanes,
-- with this last day
pub record IsCardOf (p : Pair) (standing : List ℕ) (until : Option Day) (s : Sheet) : Type 0 where
  pub some : standing ≢ []
  pub addresses : s.addresses ≡ standing
  pub head : s.head ≡ Card (record {
    width = p.head.width;
    from = p.head.from;
    to = p.head.to;
    addresses = length standing;
    until = until;
  })
  pub leader : s.leader ≡ p.leader
  pub helper : s.helper ≡ p.helper

-- the card of a name, of a ledger's live boxes, with the last day that is noted
abbrev pub IsCardAt : {D : Type 0} → LedgerState D → (name : List ℕ) → Sheet → Type 0
IsCardAt l name s = IsCardOf l.pair (card_addresses l.entries name) (last_day l.entries name) s
