-- What resume does: letters, and then the desk.
use Rattle.std.specs.Prelude.{◌≡◌, ◌⊎◌, ◌&&◌, ℕ, Bool, true, List, Option, Result, Ok, codes}
use Rattle.express_words.specs.Seen.{Seen}
use Rattle.express_words.specs.Streams.{Took}
use Rattle.node_journal.specs.Disk.{DiskSeen}
use Rattle.desk_ledger.specs.Ledgers.{LedgerState}
use Rattle.desk_outside.specs.Calls.{FolderCall}
use Rattle.desk_outside.specs.declared.folder.Slot.{Slot}
use Rattle.desk_tries.specs.declared.sending.LetterEnd.{LetterEnd}
use Rattle.desk_run.specs.declared.ending.WordEnd.{WordEnd}
use Rattle.desk_run.specs.declared.finding.Found.TheVariants as found
use Rattle.desk_run.specs.declared.finding.OnItsWay.{OnItsWay}
use Rattle.desk_run.specs.declared.trouble.Trouble.{Trouble}
use Rattle.desk_run.specs.Carried.{ResumesIf}
use Rattle.desk_run.specs.Finds.{EachPlace, IsAt, slot_at}
use Rattle.desk_run.specs.LetterEnds.{EndsLetter, is_written, resume_end}
use Rattle.desk_run.specs.Scenes.{Scene}

-- ---- a letter

abbrev pub resumed : List ℕ
resumed = codes "the letter that was on its way, "

-- Nothing stands at the place, and nothing is done.
pub record ResumesNothing {D : Type 0} (shows : D → DiskSeen) (slot : Slot) (old new : Scene D) : Type 0 where
  pub is_at : IsAt shows slot old.files new.files found.Nothing
  pub calls : new.calls ≡ old.calls
  pub written : new.written ≡ old.written

-- Or a letter does: it is worked off, its end is told, and it is removed.
pub record ResumesLetter {D : Type 0} (shows : D → DiskSeen) (counts : D → Seen) (slot : Slot)
    (old new : Scene D) (is : Bool) : Type 0 where
  pub letter : OnItsWay D
  pub at_slot : letter.slot ≡ slot
  pub opened : Option (List (FolderCall D))
  pub is_at : IsAt shows slot old.files opened (found.Letter letter.outbox)
  pub end : LetterEnd
  pub ends : EndsLetter shows counts resumed letter end (record old { files = opened }) new
  pub written : is ≡ is_written end

-- whether what stands there, if anything does, is written now
abbrev pub ResumesAt : {D : Type 0} → (D → DiskSeen) → (D → Seen) → Slot → (written : Bool) → (old new : Scene D)
    → Type 0
ResumesAt shows counts slot written old new =
    (ResumesNothing shows slot old new × (written ≡ true)) ⊎ ResumesLetter shows counts slot old new written

-- ---- all of them

-- two answers, both without a trouble
pub record Joins (before next : Result Bool Trouble) (both : Bool) : Type 0 where
  pub first : Bool
  pub second : Bool
  pub first_is : before ≡ Ok first
  pub second_is : next ≡ Ok second
  pub is : both ≡ (first && second)

-- what was done so far, and whether all letters are written
pub record SoFar (D : Type 0) : Type 0 where
  pub scene : Scene D
  pub all_written : Bool

abbrev pub so_far : {D : Type 0} → Scene D → Bool → SoFar D
so_far scene all = record { scene = scene; all_written = all }

-- one more letter
pub record ResumesOne {D : Type 0} (shows : D → DiskSeen) (counts : D → Seen) (slot : Slot) (old new : SoFar D)
    : Type 0 where
  pub written : Bool
  pub resumes : ResumesAt shows counts slot written old.scene new.scene
  pub all : new.all_written ≡ (old.all_written && written)

-- those of the first places
abbrev pub ResumeTo : {D : Type 0} → (D → DiskSeen) → (D → Seen) → (old : Scene D) → ℕ → (new : Scene D)
    → (all_written : Bool) → Type 0
ResumeTo shows counts old n new all =
    EachPlace (λ k. ResumesOne shows counts (slot_at k)) (so_far old true) n (so_far new all)

-- of the eight
abbrev pub ResumesLetters : {D : Type 0} → (D → DiskSeen) → (D → Seen) → (all_written : Bool)
    → (old new : Scene D) → Type 0
ResumesLetters shows counts all old new = ResumeTo shows counts old 8 new all

-- ---- the word

-- Each letter that is on its way is worked off, and what was left to be done at the desk is carried on, if there is one.
pub record ResumesAll {D : Type 0} (shows : D → DiskSeen) (counts : D → Seen) (end : WordEnd) (old new : Scene D)
    : Type 0 where
  pub all_written : Bool
  pub mid : Scene D
  pub letters : ResumesLetters shows counts all_written old mid
  pub found : Option (LedgerState D)
  pub carried : Scene D
  pub desk : ResumesIf shows mid carried found
  pub files : new.files ≡ carried.files
  pub calls : new.calls ≡ carried.calls
  pub told : Took carried.written new.written (codes "nothing is under way any more\n")
  pub ends : end ≡ resume_end all_written
