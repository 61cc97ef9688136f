-- The card of a name.
use Rattle.std.specs.Prelude.{◌≡◌, ◌⊎◌, ℕ, ◌==◌, not, if◌then◌else◌, Bool, true, false, List, length}
use Rattle.std.specs.Prelude.{Option, Some, None}
use Rattle.express_words.specs.Streams.{Took}
use Rattle.desk_around.specs.declared.trouble.Trouble.{Trouble}
use Rattle.desk_around.specs.declared.trouble.Trouble.TheVariants as trouble
use Rattle.desk_lines.specs.Boxes.{retired_line}
use Rattle.desk_lines.specs.Closing.{closed_line}
use Rattle.desk_sheets.specs.declared.sheet.Card.{Card}
use Rattle.desk_sheets.specs.Printing.{printed_card}
use Rattle.desk_texts.specs.declared.day.Day.{Day}
use Rattle.kept_ledger.specs.declared.entry.NamedBoxes.{NamedBoxes}
use Rattle.kept_ledger.specs.declared.standing.Standing.{Standing}
use Rattle.kept_ledger.specs.declared.standing.Standing.TheVariants as standing
use Rattle.kept_ledger.specs.Ledgers.{LedgerState}
use Rattle.kept_ledger.specs.Standings.{addresses_that, named_boxes}
use Rattle.owner_mail.specs.declared.cards.NamedCard.{NamedCard}
use Rattle.owner_mail.specs.declared.cards.NamedCard.TheVariants as named
use Rattle.owner_mail.specs.Places.{card_addresses}

-- an address of the name stands so
abbrev pub has_any : LedgerState → List ℕ → Standing → Bool
has_any s name standing = not (length (addresses_that s name standing) == 0)

-- the addresses of its boxes, at the pair's servers
abbrev pub the_card : LedgerState → List ℕ → Option Day → Card
the_card s name until = record {
  width = s.pair.width;
  until = until;
  leader = s.pair.leader.place;
  helper = s.pair.helper.place;
  addresses = card_addresses s name;
}

-- of boxes that are open there is a card once none waits and some is live
abbrev pub open_card : LedgerState → List ℕ → Option Day → NamedCard
open_card s name until =
    if has_any s name standing.Waiting then named.Waiting else
    (if has_any s name standing.Live then named.Card (the_card s name until) else named.NoBox)

abbrev pub card_if_open : LedgerState → List ℕ → (closed until : Option Day) → NamedCard
card_if_open s name (Some day) until = named.Closed day
card_if_open s name None until = open_card s name until

abbrev pub card_by : LedgerState → List ℕ → Option NamedBoxes → NamedCard
card_by s name None = named.NoBox
card_by s name (Some n) = if n.is_retiring then named.Retired else card_if_open s name n.closed n.until

-- what there is of the card of a name
abbrev pub card_of : LedgerState → List ℕ → NamedCard
card_of s name = card_by s name (named_boxes s.named name)

-- The card is printed, or the line that says why it isn't handed out any more. Whether it is the card is
-- said.
abbrev pub SaysCard : NamedCard → List ℕ → Bool → (old new : Option (List ℕ)) → Type 0
SaysCard (named.Card card) name is_card old new = (is_card ≡ true) × Took old new (printed_card card)
SaysCard (named.Closed day) name is_card old new = (is_card ≡ false) × Took old new (closed_line name day)
SaysCard named.Retired name is_card old new = (is_card ≡ false) × Took old new (retired_line name)
SaysCard named.Waiting name is_card old new = ⊥
SaysCard named.NoBox name is_card old new = ⊥

-- the output failed, or there is no memory
abbrev pub IsUnsaid : Trouble → Type 0
IsUnsaid t = (t ≡ trouble.Out) ⊎ (t ≡ trouble.NoMemory)
