-- Letters on their way, as resume works them off.
use Rattle.std.specs.Prelude.{◌≡◌, ◌⊎◌, ◌&&◌, ℕ, Bool, true, List, Result, Ok, Err, codes}
use Rattle.express_words.specs.Seen.{Seen}
use Rattle.node_journal.specs.Disk.{DiskSeen}
use Rattle.desk_outside.specs.declared.folder.Slot.{Slot}
use Rattle.letter_copies.specs.declared.copies.LetterEnd.{LetterEnd}
use Rattle.desk_around.specs.Scenes.{Scene}
use Rattle.desk_around.specs.declared.trouble.Trouble.{Trouble}
use Rattle.desk_steps.specs.Finding.{IsAt}
use Rattle.desk_steps.specs.declared.finding.Found.TheVariants as found
use Rattle.desk_send.specs.declared.placed.OnItsWay.{OnItsWay}
use Rattle.desk_send.specs.Ends.{is_written}
use Rattle.desk_send.specs.MakingWay.{EndsAt, HoldsOpen}
use Rattle.desk_send.specs.Places.{EachPlace, slot_at}

-- ---- a letter

abbrev pub resumed : List ℕ
resumed = codes "the letter that was on its way, "

-- Nothing stands at the place, and nothing is done.
pub record ResumesNothing {D : Type 0} (shows : D → DiskSeen) (slot : Slot) (old new : Scene D) : Type 0 where
  pub is_at : IsAt shows slot old.files new.files found.Nothing
  pub calls : new.calls ≡ old.calls
  pub written : new.written ≡ old.written

-- Or a letter does: it is worked off, its end is told, and it is removed.
pub record ResumesLetter {D : Type 0} (shows : D → DiskSeen) (counts : D → Seen) (slot : Slot)
    (old new : Scene D) (is : Bool) : Type 0 where
  pub sent : OnItsWay D
  pub end : LetterEnd
  pub ends : EndsAt shows counts resumed slot sent end old new
  pub written : is ≡ is_written end

-- whether what stands there, if anything does, is written now, or why it isn't at its end
abbrev pub ResumesAt : {D : Type 0} → (D → DiskSeen) → (D → Seen) → Slot → Result Bool Trouble
    → (old new : Scene D) → Type 0
ResumesAt shows counts slot (Ok written) old new =
    (ResumesNothing shows slot old new × (written ≡ true)) ⊎ ResumesLetter shows counts slot old new written
ResumesAt shows counts slot (Err t) old new = HoldsOpen shows counts slot t old new

-- ---- all of them

-- whether all are written, of those before and of one more; the last trouble, where there was one
abbrev pub joined : (before next : Result Bool Trouble) → Result Bool Trouble
joined before (Err t) = Err t
joined (Err t) (Ok written) = Err t
joined (Ok all) (Ok written) = Ok (all && written)

pub record SoFar (D : Type 0) : Type 0 where
  pub scene : Scene D
  pub all_written : Result Bool Trouble

abbrev pub so_far : {D : Type 0} → Scene D → Result Bool Trouble → SoFar D
so_far scene all = record { scene = scene; all_written = all }

-- one more letter
pub record ResumesOne {D : Type 0} (shows : D → DiskSeen) (counts : D → Seen) (slot : Slot)
    (old new : SoFar D) : Type 0 where
  pub written : Result Bool Trouble
  pub resumes : ResumesAt shows counts slot written old.scene new.scene
  pub all : new.all_written ≡ joined old.all_written written

-- those of the first places
abbrev pub ResumeTo : {D : Type 0} → (D → DiskSeen) → (D → Seen) → (old : Scene D) → ℕ → (new : Scene D)
    → (all_written : Result Bool Trouble) → Type 0
ResumeTo shows counts old n new all =
    EachPlace (λ k. ResumesOne shows counts (slot_at k)) (so_far old (Ok true)) n (so_far new all)

-- of the eight: one that can't be worked off now holds none of the others back
abbrev pub ResumesLetters : {D : Type 0} → (D → DiskSeen) → (D → Seen) → (all_written : Result Bool Trouble)
    → (old new : Scene D) → Type 0
ResumesLetters shows counts all old new = ResumeTo shows counts old 8 new all
