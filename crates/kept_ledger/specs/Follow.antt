-- The notes with which a ledger begins that follows another one.
use Rattle.std.specs.Prelude.{ℕ, ◌+◌, if◌then◌else◌, Bool, true, false, List, [], ◌∷◌, ◌++◌, map, Option}
use Rattle.std.specs.Prelude.{Some, None}
use Rattle.std.specs.Prelude.{is_some}
use Rattle.std.specs.List.{flat_map}
use Rattle.desk_texts.specs.declared.day.Day.{Day}
use Rattle.kept_ledger.specs.declared.entry.Denial.TheVariants as denial
use Rattle.kept_ledger.specs.declared.entry.LedgerBox.{LedgerBox}
use Rattle.kept_ledger.specs.declared.entry.NamedBoxes.{NamedBoxes}
use Rattle.kept_ledger.specs.declared.follow.Keeping.{Keeping}
use Rattle.kept_ledger.specs.declared.follow.Keeping.TheVariants.{WithoutLetters, All}
use Rattle.kept_ledger.specs.Ledgers.{LedgerState}
use Rattle.kept_ledger.specs.Notes.{Noted, Named, Closed, Retiring, Marked, Owned, Denied, Carried}

abbrev pub closed_notes : List ℕ → Option Day → List Noted
closed_notes name None = []
closed_notes name (Some day) = Closed name day ∷ []

abbrev pub retiring_notes : List ℕ → Bool → List Noted
retiring_notes name true = Retiring name ∷ []
retiring_notes name false = []

-- the name, the day on which it was closed, and that it is to be retired
abbrev pub name_notes : NamedBoxes → List Noted
name_notes n =
    Named (record { name = n.name; addresses = n.addresses; until = n.until })
    ∷ closed_notes n.name n.closed ++ retiring_notes n.name n.is_retiring

-- a live box is owned; of a retired one stays that it is
abbrev pub box_note : LedgerBox → Noted
box_note b =
    if b.is_retired then Denied (record { address = b.address; denial = denial.Retired })
    else Owned (record { number = b.number; serial = b.serial; address = b.address })

abbrev pub letter_notes : Keeping → LedgerState → List Noted
letter_notes WithoutLetters s = []
letter_notes All s = map Carried s.readings ++ map Marked s.marks

-- names, addresses without a box, boxes, and where letters are kept what boxes held and the marks
abbrev pub kept_notes : Keeping → LedgerState → List Noted
kept_notes keeping s =
    flat_map name_notes s.named
    ++ (map Denied s.denied ++ (map box_note s.boxes ++ letter_notes keeping s))

-- the serial from which it goes on: a request that is under way has used its own
abbrev pub next_serial : LedgerState → ℕ
next_serial s = if is_some s.client.current then s.client.serial + 1 else s.client.serial
