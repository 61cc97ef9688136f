-- How a letter that is to be left gets on its way.
use Rattle.std.specs.Prelude.{◌≡◌, ◌≢◌, ◌⊎◌, ℕ, List, [], Option, codes}
use Rattle.express_words.specs.Seen.{Seen}
use Rattle.node_journal.specs.Disk.{DiskSeen}
use Rattle.desk_outside.specs.Calls.{FolderCall}
use Rattle.desk_outside.specs.declared.folder.Slot.{Slot}
use Rattle.desk_texts.specs.declared.sheet.Sheet.{Sheet}
use Rattle.desk_tries.specs.declared.sending.LetterEnd.{LetterEnd}
use Rattle.desk_outbox.specs.Outboxes.{IsCardSheet}
use Rattle.desk_run.specs.declared.ending.WordEnd.{WordEnd}
use Rattle.desk_run.specs.declared.finding.Found.{Found}
use Rattle.desk_run.specs.declared.finding.Found.TheVariants as found
use Rattle.desk_run.specs.declared.finding.OnItsWay.{OnItsWay}
use Rattle.desk_run.specs.Finds.{EachPlace, IsAt, slot_at}
use Rattle.desk_run.specs.LetterEnds.{EndsLetter, word_end}
use Rattle.desk_run.specs.Scenes.{Scene}
use Rattle.desk_run.specs.Searching.{FindsFirst, HaveOthers, IsFirstFree}
use Rattle.desk_run.specs.Tries.{IsFirstTry, PutsTry}

-- ---- earlier letters

abbrev pub earlier : List ℕ
earlier = codes "your earlier letter "

abbrev pub HasOtherCard : {D : Type 0} → Sheet → Found D → Type 0
HasOtherCard card found.Nothing = Unit {0}
HasOtherCard card (found.Letter o) = o.card ≢ card
HasOtherCard card found.Unreadable = ⊥

-- The letter at the place has another card, if there is one, and nothing is done.
pub record PassesOther {D : Type 0} (shows : D → DiskSeen) (card : Sheet) (slot : Slot) (old new : Scene D)
    : Type 0 where
  pub found : Found D
  pub is_at : IsAt shows slot old.files new.files found
  pub other : HasOtherCard card found
  pub calls : new.calls ≡ old.calls
  pub written : new.written ≡ old.written

-- Or it has this card: it is worked off, its end is told, and it is removed.
pub record EndsSame {D : Type 0} (shows : D → DiskSeen) (counts : D → Seen) (card : Sheet) (slot : Slot)
    (old new : Scene D) : Type 0 where
  pub letter : OnItsWay D
  pub at_slot : letter.slot ≡ slot
  pub same_card : letter.outbox.card ≡ card
  pub opened : Option (List (FolderCall D))
  pub is_at : IsAt shows slot old.files opened (found.Letter letter.outbox)
  pub end : LetterEnd
  pub ends : EndsLetter shows counts earlier letter end (record old { files = opened }) new

abbrev pub MakesWayAt : {D : Type 0} → (D → DiskSeen) → (D → Seen) → Sheet → Slot → (old new : Scene D) → Type 0
MakesWayAt shows counts card slot old new =
    PassesOther shows card slot old new ⊎ EndsSame shows counts card slot old new

-- at each of the eight places
abbrev pub MakesWay : {D : Type 0} → (D → DiskSeen) → (D → Seen) → Sheet → (old new : Scene D) → Type 0
MakesWay shows counts card old new = EachPlace (λ n. MakesWayAt shows counts card (slot_at n)) old 8 new

-- ---- the letter

-- A first try of the letter is put in this place.
pub record StartsAt {D : Type 0} (shows : D → DiskSeen) (card : Sheet) (text : List ℕ) (slot : Slot)
    (old new : Option (List (FolderCall D))) (letter : OnItsWay D) : Type 0 where
  pub at_slot : letter.slot ≡ slot
  pub first : IsFirstTry shows card text letter.outbox
  pub puts : PutsTry slot old new

-- That is the first free one.
pub record StartsFree {D : Type 0} (shows : D → DiskSeen) (card : Sheet) (text : List ℕ)
    (old new : Option (List (FolderCall D))) (letter : OnItsWay D) : Type 0 where
  pub slot : Slot
  pub found : Option (List (FolderCall D))
  pub free : IsFirstFree shows old found slot
  pub starts : StartsAt shows card text slot found new letter

-- Earlier letters with the card are worked off before.
pub record BeginsAnew {D : Type 0} (shows : D → DiskSeen) (counts : D → Seen) (card : Sheet) (text : List ℕ)
    (letter : OnItsWay D) (old new : Scene D) : Type 0 where
  pub mid : Scene D
  pub makes_way : MakesWay shows counts card old mid
  pub starts : StartsFree shows card text mid.files new.files letter
  pub calls : new.calls ≡ mid.calls
  pub written : new.written ≡ mid.written

-- The letter is on its way already.
pub record IsThere {D : Type 0} (shows : D → DiskSeen) (card : Sheet) (text : List ℕ) (letter : OnItsWay D)
    (old new : Scene D) : Type 0 where
  pub first : FindsFirst shows card text old.files new.files letter
  pub calls : new.calls ≡ old.calls
  pub written : new.written ≡ old.written

-- Or it is at none of the places, and is begun.
pub record IsNew {D : Type 0} (shows : D → DiskSeen) (counts : D → Seen) (card : Sheet) (text : List ℕ)
    (letter : OnItsWay D) (old new : Scene D) : Type 0 where
  pub searched : Option (List (FolderCall D))
  pub nowhere : HaveOthers shows card text old.files 8 searched
  pub begins : BeginsAnew shows counts card text letter (record old { files = searched }) new

abbrev pub IsBegun : {D : Type 0} → (D → DiskSeen) → (D → Seen) → Sheet → List ℕ → OnItsWay D
    → (old new : Scene D) → Type 0
IsBegun shows counts card text letter old new =
    IsThere shows card text letter old new ⊎ IsNew shows counts card text letter old new

-- ---- the word

-- The letter gets on its way, or was; its tries are worked off one after another, what became of it is printed last, and
-- then its file is removed.
pub record LeavesLetter {D : Type 0} (shows : D → DiskSeen) (counts : D → Seen) (end : WordEnd)
    (old new : Scene D) : Type 0 where
  pub card : Sheet
  pub is_card : IsCardSheet card
  pub text : List ℕ
  pub letter : OnItsWay D
  pub mid : Scene D
  pub begun : IsBegun shows counts card text letter old mid
  pub letter_end : LetterEnd
  pub comes : EndsLetter shows counts [] letter letter_end mid new
  pub ends : end ≡ word_end letter_end
