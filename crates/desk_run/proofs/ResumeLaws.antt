-- Letters that are resumed, one after another.
use Rattle.std.proofs.Common.{◌≡◌, ◌∙◌, ℕ, ◌+◌, Bool, Result, Ok, Err, IfErr, subst}
use Rattle.std.specs.Prelude.{IfOk}
use Rattle.express_words.specs.Seen.{Seen}
use Rattle.node_journal.specs.Disk.{DiskSeen}
use Rattle.desk_run.specs.declared.trouble.Trouble.{Trouble}
use Rattle.desk_run.specs.Ends.{IsUndone, Unfailed}
use Rattle.desk_run.specs.Finds.{next, slot_at}
use Rattle.desk_run.specs.Resuming.{Joins, ResumeTo, ResumesAt, so_far}
use Rattle.desk_run.specs.Scenes.{Scene}

pub unfailed_joined : (before after all : Result Bool Trouble) (a b c : ℕ) → IfErr all IsUndone → IfOk all (Joins before after)
    → Unfailed a b before → Unfailed b c after → Unfailed a c all
unfailed_joined before after (Err t) a b c undone joins one two = λ other. absurd (other undone)
unfailed_joined before after (Ok v) a b c undone joins one two =
    let first : b ≡ a = subst (λ (x : Result Bool Trouble). Unfailed a b x) joins.first_is one in
    let second : c ≡ b = subst (λ (x : Result Bool Trouble). Unfailed b c x) joins.second_is two in
    second ∙ first

pub resumes_more : {D : Type 0} (shows : D → DiskSeen) (counts : D → Seen) (before after all : Result Bool Trouble)
    (old mid new : Scene D) (n : ℕ) → IfOk all (Joins before after)
    → IfOk before (λ (done : Bool). ResumeTo shows counts old n mid done)
    → IfOk after (λ (written : Bool). ResumesAt shows counts (slot_at n) written mid new)
    → IfOk all (λ (done : Bool). ResumeTo shows counts old (n + 1) new done)
resumes_more shows counts before after (Err t) old mid new n joins one two = tt
resumes_more shows counts before after (Ok v) old mid new n joins one two =
    let each = subst (λ (x : Result Bool Trouble). IfOk x (λ (done : Bool). ResumeTo shows counts old n mid done)) joins.first_is one in
    let step = subst (λ (x : Result Bool Trouble). IfOk x (λ (written : Bool). ResumesAt shows counts (slot_at n) written mid new))
    joins.second_is two in
    next n (so_far mid joins.first) (so_far new v) each
    (record { written = joins.second; resumes = step; all = joins.is })

pub all_resumed : {D : Type 0} (shows : D → DiskSeen) (counts : D → Seen) (all : Result Bool Trouble) (old new : Scene D) (m n : ℕ)
    → m ≡ n → IfOk all (λ (done : Bool). ResumeTo shows counts old m new done)
    → IfOk all (λ (done : Bool). ResumeTo shows counts old n new done)
all_resumed shows counts all old new m n is each =
    subst (λ (k : ℕ). IfOk all (λ (done : Bool). ResumeTo shows counts old k new done)) is each
