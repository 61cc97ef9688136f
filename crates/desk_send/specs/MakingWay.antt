-- Earlier letters with a card.
use Rattle.std.specs.Prelude.{◌≡◌, ◌≢◌, ◌⊎◌, ℕ, List, Option, codes}
use Rattle.express_words.specs.Seen.{Seen}
use Rattle.node_journal.specs.Disk.{DiskSeen}
use Rattle.desk_outside.specs.Calls.{FolderCall}
use Rattle.desk_outside.specs.declared.folder.Slot.{Slot}
use Rattle.desk_sheets.specs.declared.sheet.Card.{Card}
use Rattle.letter_copies.specs.declared.copies.LetterEnd.{LetterEnd}
use Rattle.desk_around.specs.Scenes.{Scene}
use Rattle.desk_around.specs.declared.trouble.Trouble.{Trouble}
use Rattle.desk_steps.specs.Finding.{IsAt}
use Rattle.desk_steps.specs.declared.finding.Found.{Found}
use Rattle.desk_steps.specs.declared.finding.Found.TheVariants as found
use Rattle.desk_send.specs.declared.placed.OnItsWay.{OnItsWay}
use Rattle.desk_send.specs.Ends.{EndsLetter, IfUntold, StaysOpen}
use Rattle.desk_send.specs.Places.{EachPlace, slot_at}

abbrev pub earlier : List ℕ
earlier = codes "your earlier letter "

abbrev pub HasOtherCard : {D : Type 0} → Card → Found D → Type 0
HasOtherCard card found.Nothing = Unit {0}
HasOtherCard card (found.Letter letter) = letter.machine.letter.plan.card ≢ card
HasOtherCard card found.Unreadable = ⊥

-- The letter at the place has another card, if there is one, and nothing is done.
pub record PassesOther {D : Type 0} (shows : D → DiskSeen) (card : Card) (slot : Slot) (old new : Scene D)
    : Type 0 where
  pub found : Found D
  pub is_at : IsAt shows slot old.files new.files found
  pub other : HasOtherCard card found
  pub calls : new.calls ≡ old.calls
  pub written : new.written ≡ old.written

-- The letter at the place is worked off, its end is told, and it is removed.
pub record EndsAt {D : Type 0} (shows : D → DiskSeen) (counts : D → Seen) (whose : List ℕ) (slot : Slot)
    (sent : OnItsWay D) (end : LetterEnd) (old new : Scene D) : Type 0 where
  pub at_slot : sent.slot ≡ slot
  pub opened : Option (List (FolderCall D))
  pub is_at : IsAt shows slot old.files opened (found.Letter sent.letter)
  pub ends : EndsLetter shows counts whose sent end (record old { files = opened }) new

-- The letter at the place isn't at its end, or nothing could be told of it.
pub record LeavesOpen {D : Type 0} (shows : D → DiskSeen) (counts : D → Seen) (slot : Slot) (t : Trouble)
    (old new : Scene D) : Type 0 where
  pub sent : OnItsWay D
  pub at_slot : sent.slot ≡ slot
  pub opened : Option (List (FolderCall D))
  pub is_at : IsAt shows slot old.files opened (found.Letter sent.letter)
  pub stays : StaysOpen shows counts sent t (record old { files = opened }) new

-- Where it is told why not: nothing was asked on the net, or of one letter. Where the output couldn't take
-- its line the letter is there still.
pub record HoldsOpen {D : Type 0} (shows : D → DiskSeen) (counts : D → Seen) (slot : Slot) (t : Trouble)
    (old new : Scene D) : Type 0 where
  pub untold : IfUntold shows new.files t
  pub stays : (new.calls ≡ old.calls) ⊎ LeavesOpen shows counts slot t old new

-- It has this card.
pub record EndsSame {D : Type 0} (shows : D → DiskSeen) (counts : D → Seen) (card : Card) (slot : Slot)
    (old new : Scene D) : Type 0 where
  pub sent : OnItsWay D
  pub same_card : sent.letter.machine.letter.plan.card ≡ card
  pub end : LetterEnd
  pub ends : EndsAt shows counts earlier slot sent end old new

abbrev pub MakesWayAt : {D : Type 0} → (D → DiskSeen) → (D → Seen) → Card → Slot → (old new : Scene D)
    → Type 0
MakesWayAt shows counts card slot old new =
    PassesOther shows card slot old new ⊎ EndsSame shows counts card slot old new

-- at each of the eight places
abbrev pub MakesWay : {D : Type 0} → (D → DiskSeen) → (D → Seen) → Card → (old new : Scene D) → Type 0
MakesWay shows counts card old new = EachPlace (λ n. MakesWayAt shows counts card (slot_at n)) old 8 new

-- The first places are worked off so, and at one more it is told why not.
pub record MakesWayInPart {D : Type 0} (shows : D → DiskSeen) (counts : D → Seen) (card : Card) (t : Trouble)
    (old new : Scene D) : Type 0 where
  pub number : ℕ
  pub mid : Scene D
  pub before : EachPlace (λ n. MakesWayAt shows counts card (slot_at n)) old number mid
  pub holds : HoldsOpen shows counts (slot_at number) t mid new
