-- How a try begins.
use Rattle.std.specs.Prelude.{◌≡◌, ◌≤◌, ◌≢◌, ℕ, List, [], ◌∷◌, Option, Some, None, length, slice_get}
use Rattle.mailbox_rules.specs.Requests.{Write}
use Rattle.node_journal.specs.Disk.{DiskSeen}
use Rattle.client_restart.specs.Kept.{HoldsNotes}
use Rattle.client_restart.specs.Notes.{Asked, Noted, Remark}
use Rattle.client_restart.specs.Steps.{fold}
use Rattle.desk_letters.specs.Letters.{letter_of, room}
use Rattle.desk_letters.specs.Opening.{fault_of}
use Rattle.desk_texts.specs.declared.sheet.CardHead.{CardHead}
use Rattle.desk_texts.specs.declared.sheet.Sheet.{Sheet}
use Rattle.desk_texts.specs.Printing.{printed}
use Rattle.rand_core.specs.Stream.{Stream, next_u64}
use Rattle.desk_draws.specs.Streams.{behind}
use Rattle.desk_outbox.specs.Drawing.{behind_first, behind_next, behind_seed, first_in, first_opening, id_in}
use Rattle.desk_outbox.specs.Drawing.{next_in, seed_in, Follows}
use Rattle.desk_outbox.specs.Outboxes.{OutboxState, message_in}
use Rattle.desk_outbox.specs.Places.{address_at, first_place, next_place, place_record}
use Rattle.desk_outbox.specs.declared.fault.StartFault.{StartFault}
use Rattle.desk_outbox.specs.declared.fault.StartFault.TheVariants as fault
use Rattle.desk_outbox.specs.declared.place.Place.{Place}

-- the card's text, the place, and last the write of these bytes to that place's address
abbrev pub begun_notes : Sheet → Place → ℕ → List ℕ → List Noted
begun_notes card place target message =
    Remark (printed card) ∷ Remark (place_record place) ∷ Asked (Write target message) ∷ []

-- A try of these bytes stands at its beginning, at this place of the card; all that it needs is on its disk.
pub record Begins {D : Type 0} (shows : D → DiskSeen) (card : Sheet) (place : Place) (message : List ℕ)
    (o : OutboxState D) : Type 0 where
  pub on_card : o.card ≡ card
  pub at_place : o.place ≡ place
  pub target : ℕ
  pub there : slice_get card.addresses (address_at (length card.addresses) place) ≡ Some target
  pub core : o.kept.core ≡ fold o.kept.opening (begun_notes card place target message)
  pub held : HoldsNotes o.kept.opening (begun_notes card place target message) (shows o.kept.disk).reads

-- ---- a first try

-- a text that makes a letter is a try at an address that is drawn, under a fresh seed
pub record Starts {D : Type 0} (shows : D → DiskSeen) (card : Sheet) (h : CardHead) (text : List ℕ)
    (s : Stream) (o : OutboxState D) : Type 0 where
  pub begins : Begins shows card (first_place (first_in h.addresses s)) (letter_of h.width (id_in s) text) o
  pub opening : o.kept.opening ≡ first_opening h s

-- a text that makes a letter in boxes of that width
pub record MakesLetter (width : ℕ) (text : List ℕ) : Type 0 where
  pub some : 1 ≤ length text
  pub most : length text ≤ room width

-- where the text is refused that is why, and P
abbrev pub OnLetter : StartFault → ℕ → List ℕ → Type 0 → Type 0
OnLetter (fault.Letter why) width text P = (why ≡ fault_of width text) × (MakesLetter width text → ⊥) × P
OnLetter other width text P = Unit {0}

-- only a next try finds no lane
abbrev pub IsOfStart : StartFault → Type 0
IsOfStart why = why ≢ fault.Spent

-- what is left of the draws, where it isn't begun: of a text that makes no letter but a seed and an id were drawn
abbrev pub left_by : StartFault → Stream → Stream
left_by (fault.Letter why) s = behind next_u64 (behind_seed s)
left_by fault.Spent s = behind_first s
left_by (fault.Keep why) s = behind_first s

-- ---- a next try

-- the lane and serial that are drawn for it, behind its seed
abbrev pub drawn_for : {D : Type 0} → CardHead → OutboxState D → Stream → Option (ℕ × ℕ)
drawn_for h old s =
    next_in h old.kept.opening.lane old.kept.opening.first_serial old.place.named (behind_seed s)

-- what is left behind these
abbrev pub left_for : {D : Type 0} → CardHead → OutboxState D → Stream → Stream
left_for h old s =
    behind_next h old.kept.opening.lane old.kept.opening.first_serial old.place.named (behind_seed s)

-- no lane and serial are left
abbrev pub OnSpent : {D : Type 0} → CardHead → OutboxState D → Stream → StartFault → Type 0
OnSpent h old s why = why ≡ fault.Spent → drawn_for h old s ≡ None

-- the same bytes at the place's address, under a fresh seed, on a lane and serial that no try before had
pub record Retries {D E : Type 0} (shows : E → DiskSeen) (h : CardHead) (old : OutboxState D) (s : Stream)
    (o : OutboxState E) : Type 0 where
  pub begins : Begins shows old.card (next_place old.place) (message_in old.kept.core.client.current) o
  pub seed : o.kept.opening.seed ≡ seed_in s
  pub follows : Follows h old.kept.opening.lane old.kept.opening.first_serial old.place.named
      o.kept.opening.lane o.kept.opening.first_serial
  pub drawn : drawn_for h old s ≡ Some (o.kept.opening.lane, o.kept.opening.first_serial)

-- it is the same letter
abbrev pub IsOfNext : StartFault → Type 0
IsOfNext (fault.Letter why) = ⊥
IsOfNext fault.Spent = Unit {0}
IsOfNext (fault.Keep why) = Unit {0}
