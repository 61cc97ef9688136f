-- How a letter that is to be left gets on its way, and what becomes of it.
use Rattle.std.specs.Prelude.{◌≡◌, ◌⊎◌, ℕ, List, [], Option}
use Rattle.express_words.specs.Seen.{Seen}
use Rattle.rand_chacha.specs.ChaCha.{ChaCha}
use Rattle.desk_draws.specs.Streams.{stream_from}
use Rattle.node_journal.specs.Disk.{DiskSeen}
use Rattle.desk_outside.specs.Calls.{FolderCall}
use Rattle.desk_sheets.specs.declared.sheet.Card.{Card}
use Rattle.letter_copies.specs.declared.copies.LetterEnd.{LetterEnd}
use Rattle.desk_around.specs.Scenes.{Scene, scene}
use Rattle.desk_around.specs.declared.around.Around.{Around}
use Rattle.desk_around.specs.declared.ending.WordEnd.{WordEnd}
use Rattle.desk_around.specs.declared.trouble.Trouble.{Trouble}
use Rattle.desk_send.specs.declared.placed.OnItsWay.{OnItsWay}
use Rattle.desk_send.specs.Cards.{ReadsCard, ReadsText}
use Rattle.desk_send.specs.Ends.{EndsLetter, StaysOpen, word_end}
use Rattle.desk_send.specs.Letters.{behind_letter}
use Rattle.desk_send.specs.MakingWay.{MakesWay, MakesWayInPart}
use Rattle.desk_send.specs.Searching.{FindsFirst, HaveOthers}
use Rattle.desk_send.specs.Starting.{StartsFree}

-- ---- on its way

-- Earlier letters with the card are worked off, and then the letter is made of the draws, of which these
-- are left.
pub record BeginsAnew {D : Type 0} (shows : D → DiskSeen) (counts : D → Seen) (card : Card) (text : List ℕ)
    (draws left : ChaCha) (sent : OnItsWay D) (old new : Scene D) : Type 0 where
  pub mid : Scene D
  pub makes_way : MakesWay shows counts card old mid
  pub starts : StartsFree shows counts card text (stream_from draws) mid.files new.files sent
  pub drawn : stream_from left ≡ behind_letter (stream_from draws)
  pub calls : new.calls ≡ mid.calls
  pub written : new.written ≡ mid.written

-- The letter is on its way already.
pub record IsThere {D : Type 0} (shows : D → DiskSeen) (card : Card) (text : List ℕ) (draws left : ChaCha)
    (sent : OnItsWay D) (old new : Scene D) : Type 0 where
  pub first : FindsFirst shows card text old.files new.files sent
  pub undrawn : stream_from left ≡ stream_from draws
  pub calls : new.calls ≡ old.calls
  pub written : new.written ≡ old.written

-- Or it is at none of the places, and is begun.
pub record IsNew {D : Type 0} (shows : D → DiskSeen) (counts : D → Seen) (card : Card) (text : List ℕ)
    (draws left : ChaCha) (sent : OnItsWay D) (old new : Scene D) : Type 0 where
  pub searched : Option (List (FolderCall D))
  pub nowhere : HaveOthers shows card text old.files 8 searched
  pub begins : BeginsAnew shows counts card text draws left sent (record old { files = searched }) new

abbrev pub IsBegun : {D : Type 0} → (D → DiskSeen) → (D → Seen) → Card → List ℕ → (draws left : ChaCha)
    → OnItsWay D → (old new : Scene D) → Type 0
IsBegun shows counts card text draws left sent old new =
    IsThere shows card text draws left sent old new ⊎ IsNew shows counts card text draws left sent old new

-- ---- the word

-- The letter of this card and text gets on its way, or was; it is worked off, what became of it is printed
-- last, and then its file is removed.
pub record LeavesLetter {D : Type 0} (shows : D → DiskSeen) (counts : D → Seen) (card : Card) (text : List ℕ)
    (draws left : ChaCha) (end : WordEnd) (old new : Scene D) : Type 0 where
  pub sent : OnItsWay D
  pub mid : Scene D
  pub begun : IsBegun shows counts card text draws left sent old mid
  pub letter_end : LetterEnd
  pub comes : EndsLetter shows counts [] sent letter_end mid new
  pub ends : end ≡ word_end letter_end

-- A file that was read whole spells the card, and the text is that of a file, or else all that the input
-- gave. The letter of these is left.
pub record SendsLetter {D S K N F P C Q A : Type 0} (shows : D → DiskSeen) (counts : D → Seen)
    (inputs : S → Seen) (outs : K → Seen) (nets : N → Seen) (files : F → Option (List (FolderCall D)))
    (papers : Q → Seen) (file : Option A) (draws left : ChaCha) (old new : Around S K N F P C) (end : WordEnd)
    : Type 0 where
  pub card : Card
  pub is_card : ReadsCard papers card
  pub text : List ℕ
  pub is_text : ReadsText papers file (inputs old.input).content (inputs new.input).content text
  pub leaves : LeavesLetter shows counts card text draws left end
      (scene outs nets files old) (scene outs nets files new)

-- ---- where it isn't done

-- Nothing was asked on the net; or earlier letters were worked off in part; or all of them, and the letter
-- isn't made.
abbrev pub BeginsInPart : {D : Type 0} → (D → DiskSeen) → (D → Seen) → Card → Trouble → (old new : Scene D)
    → Type 0
BeginsInPart {D} shows counts card t old new = (new.calls ≡ old.calls)
    ⊎ (MakesWayInPart shows counts card t old new
    ⊎ ((mid : Scene D) × MakesWay shows counts card old mid × (new.calls ≡ mid.calls)))

-- none of the places has the letter, and it isn't made
pub record IsNotMade {D : Type 0} (shows : D → DiskSeen) (counts : D → Seen) (card : Card) (text : List ℕ)
    (t : Trouble) (old new : Scene D) : Type 0 where
  pub searched : Option (List (FolderCall D))
  pub nowhere : HaveOthers shows card text old.files 8 searched
  pub begins : BeginsInPart shows counts card t (record old { files = searched }) new

abbrev pub IsNotBegun : {D : Type 0} → (D → DiskSeen) → (D → Seen) → Card → List ℕ → Trouble
    → (old new : Scene D) → Type 0
IsNotBegun shows counts card text t old new =
    (new.calls ≡ old.calls) ⊎ IsNotMade shows counts card text t old new

-- the letter is on its way, and isn't at its end, or nothing could be told of it
pub record StaysBegun {D : Type 0} (shows : D → DiskSeen) (counts : D → Seen) (card : Card) (text : List ℕ)
    (draws left : ChaCha) (t : Trouble) (old new : Scene D) : Type 0 where
  pub sent : OnItsWay D
  pub mid : Scene D
  pub begun : IsBegun shows counts card text draws left sent old mid
  pub stays : StaysOpen shows counts sent t mid new

abbrev pub LeavesInPart : {D : Type 0} → (D → DiskSeen) → (D → Seen) → Card → List ℕ → (draws left : ChaCha)
    → Trouble → (old new : Scene D) → Type 0
LeavesInPart shows counts card text draws left t old new =
    IsNotBegun shows counts card text t old new ⊎ StaysBegun shows counts card text draws left t old new

-- nothing was asked on the net, or something was for the letter of a card and a text that were read
abbrev pub SendsInPart : {D S K N F P C Q A : Type 0} → (D → DiskSeen) → (D → Seen) → (S → Seen) → (K → Seen)
    → (N → Seen) → (F → Option (List (FolderCall D))) → (Q → Seen) → Option A → (draws left : ChaCha)
    → (old new : Around S K N F P C) → Trouble → Type 0
SendsInPart shows counts inputs outs nets files papers file draws left old new t =
    ((nets new.net).calls ≡ (nets old.net).calls) ⊎ ((card : Card) × (text : List ℕ) × ReadsCard papers card
    × ReadsText papers file (inputs old.input).content (inputs new.input).content text
    × LeavesInPart shows counts card text draws left t
    (scene outs nets files old) (scene outs nets files new))
