-- Letters that are resumed, one after another.
use Rattle.std.proofs.Common.{◌≡◌, ◌∙◌, ℕ, ◌+◌, Bool, Result, Ok, Err, IfErr, IsErrAnd, subst, sym}
use Rattle.express_words.specs.Seen.{Seen}
use Rattle.node_journal.specs.Disk.{DiskSeen}
use Rattle.desk_outside.specs.declared.folder.Slot.{Slot}
use Rattle.desk_around.specs.Ends.{IsUndone, Unfailed}
use Rattle.desk_around.specs.Scenes.{Scene}
use Rattle.desk_around.specs.declared.trouble.Trouble.{Trouble}
use Rattle.desk_send.specs.MakingWay.{HoldsOpen}
use Rattle.desk_send.specs.Places.{next, slot_at}
use Rattle.desk_send.specs.Resuming.{ResumeTo, ResumesAt, joined, so_far}

pub undone_joined : (before after : Result Bool Trouble) → IfErr before IsUndone → IfErr after IsUndone
    → IfErr (joined before after) IsUndone
undone_joined before (Err t) one two = two
undone_joined (Err t) (Ok w) one two = one
undone_joined (Ok all) (Ok w) one two = tt

pub unfailed_joined : (before after : Result Bool Trouble) (a b c : ℕ) → IfErr before IsUndone
    → IfErr after IsUndone → Unfailed a b before → Unfailed b c after → Unfailed a c (joined before after)
unfailed_joined before (Err t) a b c undone also one two = λ other. absurd (other also)
unfailed_joined (Err t) (Ok w) a b c undone also one two = λ other. absurd (other undone)
unfailed_joined (Ok all) (Ok w) a b c undone also one two = two ∙ one

pub resumes_more : {D : Type 0} (shows : D → DiskSeen) (counts : D → Seen)
    (before after all : Result Bool Trouble)
    (old mid new : Scene D) (n : ℕ) → all ≡ joined before after → ResumeTo shows counts old n mid before
    → ResumesAt shows counts (slot_at n) after mid new → ResumeTo shows counts old (n + 1) new all
resumes_more shows counts before after all old mid new n is each step =
    next n (so_far mid before) (so_far new all) each (record { written = after; resumes = step; all = is })

pub undone_as : (before after all : Result Bool Trouble) → all ≡ joined before after → IfErr before IsUndone
    → IfErr after IsUndone → IfErr all IsUndone
undone_as before after all is one two = rw is (undone_joined before after one two)

pub unfailed_as : (before after all : Result Bool Trouble) (a b c : ℕ) → all ≡ joined before after
    → IfErr before IsUndone → IfErr after IsUndone → Unfailed a b before → Unfailed b c after
    → Unfailed a c all
unfailed_as before after all a b c is undone also one two =
    rw is (unfailed_joined before after a b c undone also one two)

-- ---- where a place isn't worked off

pub holds_as : {D : Type 0} (shows : D → DiskSeen) (counts : D → Seen) (slot : Slot) (r : Result Bool Trouble)
    (t : Trouble) (old new : Scene D) → IsErrAnd r (λ e. e ≡ t) → HoldsOpen shows counts slot t old new
    → ResumesAt shows counts slot r old new
holds_as shows counts slot (Ok value) t old new is holds = absurd is
holds_as shows counts slot (Err e) t old new is holds =
    subst (λ (x : Trouble). HoldsOpen shows counts slot x old new) (sym is) holds
