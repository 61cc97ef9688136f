-- What a word has done.
use Rattle.std.proofs.Common.{◌≡◌, ◌≢◌, inl, inr, ℕ, Bool, if◌then◌else◌, List, [], ◌∷◌, ◌++◌, Option, Result, Ok, Err, ap, refl, sym, ◌∙◌, subst}
use Rattle.std.specs.Prelude.{IfOk, IfSome, OnOk, codes}
use Rattle.std.specs.List.{list_any}
use denote.Bor.{Bor}
use Rattle.express_words.specs.Calls.{Call}
use Rattle.express_words.specs.Streams.{Took}
use Rattle.desk_outside.specs.Calls.{FolderCall}
use Rattle.express_words.specs.Seen.{Seen}
use Rattle.node_journal.specs.Disk.{DiskSeen}
use Rattle.desk_entries.specs.declared.entry.Entry.{Entry}
use Rattle.desk_entries.specs.declared.entry.Reading.{Reading}
use Rattle.desk_ledger.specs.Ledgers.{LedgerState}
use Rattle.desk_ledger.specs.Tags.{tag_of}
use Rattle.desk_texts.specs.Days.{IsDay}
use Rattle.desk_texts.specs.declared.day.Day.{Day}
use Rattle.desk_words.specs.declared.task.DeskTask.{DeskTask}
use Rattle.desk_words.specs.declared.task.DeskTask.TheVariants as task
use Rattle.desk_run.specs.declared.boxes.Wanted.{Wanted}
use Rattle.desk_run.specs.declared.ending.WordEnd.{WordEnd}
use Rattle.desk_run.specs.declared.ending.WordEnd.TheVariants as end
use Rattle.desk_run.specs.declared.trouble.Trouble.{Trouble}
use Rattle.desk_run.specs.declared.trouble.Trouble.TheVariants as trouble
use Rattle.desk_run.specs.Carried.{ComesBack, HasNothingLeft, Resumes}
use Rattle.desk_run.specs.Changes.{NotesShown, NotesTold, Renews, TellsCard, TellsNewAnd, WantsBoxes, WantsRetired, advice, forgotten_line, retired_line}
use Rattle.desk_run.specs.Ends.{status_by, status_of}
use Rattle.desk_run.specs.Holds.{Clears, IsTaken}
use Rattle.desk_run.specs.Printing.{Prints, PrintsSome}
use Rattle.desk_run.specs.Rooms.{IsNearlyFull}
use Rattle.desk_run.specs.Scenes.{Scene}
use Rattle.desk_run.specs.Shown.{Each, IsCardFor, ShowsEach, is_met, new_letters, none}
use Rattle.desk_run.specs.Told.{TellsEach, TellsLetters, TellsOne, end_of, told_of}
use Rattle.desk_run.specs.Words.{Does, DoesAlone, DoesWord, DoneBy, FetchesLetters, ForgetsLetters, OpensBoxes, RetiresBoxes}
use Rattle.desk_run.specs.Works.{Goes, ReadsLive}
use Rattle.desk_run.proofs.PrintLaws.{took_both, took_nothing}
use Rattle.desk_run.proofs.StatusLaws.{only_met}

no_zero : (t : Trouble) → status_by t ≡ 0 → ⊥
no_zero (trouble.Name fault) is = cc
no_zero trouble.InUse is = cc
no_zero _ is = cc

only_done : (r : Result WordEnd Trouble) → status_of r ≡ 0 → r ≡ Ok end.Done
only_done (Ok end.Done) is = refl
only_done (Ok end.NotWritten) is = cc
only_done (Ok end.Met) is = cc
only_done (Err t) is = absurd (no_zero t is)

-- the status tells how the word ended
pub done_by : {D : Type 0} (shows : D → DiskSeen) (counts : D → Seen) (t : DeskTask) (n : ℕ) (r : Result WordEnd Trouble) (old new : Scene D)
    → (n ≢ 1 → n ≡ status_of r) → IfOk r (λ e. DoesWord shows counts t e old new) → DoneBy shows counts t n old new
done_by shows counts t n r old new told does = record {
  done = λ zero. subst (λ (x : Result WordEnd Trouble). IfOk x (λ e. DoesWord shows counts t e old new))
      (only_done r (sym (told (λ one. cc)) ∙ zero)) does;
  met = λ five. subst (λ (x : Result WordEnd Trouble). IfOk x (λ e. DoesWord shows counts t e old new))
      (only_met r (sym (told (λ one. cc)) ∙ five)) does;
}

still_done : {D : Type 0} (shows : D → DiskSeen) (counts : D → Seen) (t : DeskTask) (r : Result WordEnd Trouble) (old : Scene D)
    (was now : Option (List ℕ)) (calls : Option (List Call)) (files : Option (List (FolderCall D)))
    → IfOk r (λ e. now ≡ was)
    → IfOk r (λ e. DoesWord shows counts t e old (record { written = was; calls = calls; files = files }))
    → IfOk r (λ e. DoesWord shows counts t e old (record { written = now; calls = calls; files = files }))
still_done shows counts t (Ok e) old was now calls files same does =
    subst (λ (w : Option (List ℕ)). DoesWord shows counts t e old (record { written = w; calls = calls; files = files }))
    (sym same) does
still_done shows counts t (Err why) old was now calls files same does = tt

-- nothing more is printed where the word is done
pub done_told : {D : Type 0} (shows : D → DiskSeen) (counts : D → Seen) (t : DeskTask) (n : ℕ) (r : Result WordEnd Trouble) (old : Scene D)
    (was now : Option (List ℕ)) (calls : Option (List Call)) (files : Option (List (FolderCall D)))
    → (n ≢ 1 → n ≡ status_of r) → IfOk r (λ e. now ≡ was)
    → IfOk r (λ e. DoesWord shows counts t e old (record { written = was; calls = calls; files = files }))
    → DoneBy shows counts t n old (record { written = now; calls = calls; files = files })
done_told shows counts t n r old was now calls files told same does =
    done_by shows counts t n r old (record { written = now; calls = calls; files = files }) told
    (still_done shows counts t r old was now calls files same does)

-- a fact of the output says the same of its text
pub ok_written : {K : Type 0} (outs : K → Seen) (r : Result WordEnd Trouble) (was now : K) → IfOk r (λ e. now ≡ was)
    → IfOk r (λ e. (outs now).written ≡ (outs was).written)
ok_written outs (Ok e) was now same = ap (λ out. (outs out).written) same
ok_written outs (Err why) was now same = tt

pub alone : {D : Type 0} (shows : D → DiskSeen) (counts : D → Seen) (t : DeskTask) (r : Result WordEnd Trouble) (old new : Scene D)
    (held : Option (List (FolderCall D))) → IsTaken old.files held t → (cleared : Option (List (FolderCall D)))
    → Clears held 8 cleared
    → IfOk r (λ e. Does shows counts t e (record old { files = cleared }) new) → IfOk r (λ e. DoesAlone shows counts t e old new)
alone shows counts t (Ok e) old new held takes cleared clears does =
    record { held = held; takes = takes; cleared = cleared; clears = clears; does = does }
alone shows counts t (Err why) old new held takes cleared clears does = tt

word_does : {D : Type 0} (shows : D → DiskSeen) (counts : D → Seen) (t : DeskTask) (e : WordEnd) (old new : Scene D)
    → (t ≡ task.Help → ⊥) → DoesAlone shows counts t e old new → DoesWord shows counts t e old new
word_does shows counts task.Help e old new other does = absurd (other refl)
word_does shows counts _ e old new other does = does

pub word_alone : {D : Type 0} (shows : D → DiskSeen) (counts : D → Seen) (t : DeskTask) (r : Result WordEnd Trouble) (old new : Scene D)
    → (t ≡ task.Help → ⊥) → IfOk r (λ e. DoesAlone shows counts t e old new) → IfOk r (λ e. DoesWord shows counts t e old new)
word_alone shows counts t (Ok e) old new other does = word_does shows counts t e old new other does
word_alone shows counts t (Err why) old new other does = tt

-- a task that is known does what is done for it
pub does_as : {D : Type 0} (shows : D → DiskSeen) (counts : D → Seen) (t known : DeskTask) (r : Result WordEnd Trouble) (old new : Scene D)
    → t ≡ known → IfOk r (λ e. Does shows counts known e old new) → IfOk r (λ e. Does shows counts t e old new)
does_as shows counts t known r old new is does =
    subst (λ (x : DeskTask). IfOk r (λ e. Does shows counts x e old new)) (sym is) does

-- of a word without a row nothing is said
pub says_nothing : {T E : Type 0} (r : Result T E) → IfOk r (λ x. Unit {0})
says_nothing (Ok x) = tt
says_nothing (Err e) = tt

help_done : {D : Type 0} (shows : D → DiskSeen) (counts : D → Seen) (r : Result WordEnd Trouble) (old new : Scene D)
    → IfOk r (λ e. DoesWord shows counts task.Help e old new)
help_done shows counts (Ok e) old new = tt
help_done shows counts (Err why) old new = tt

pub help_word : {D : Type 0} (shows : D → DiskSeen) (counts : D → Seen) (t : DeskTask) (r : Result WordEnd Trouble) (old new : Scene D)
    → t ≡ task.Help → IfOk r (λ e. DoesWord shows counts t e old new)
help_word shows counts t r old new is =
    subst (λ (x : DeskTask). IfOk r (λ e. DoesWord shows counts x e old new)) (sym is) (help_done shows counts r old new)

-- ---- what is printed

pub printed_before : {T E : Type 0} (r : Result T E) (old new : Option (List ℕ)) → PrintsSome old new → OnOk r (PrintsSome old new)
printed_before (Ok x) old new some = some
printed_before (Err e) old new some = tt

pub nothing_printed : {T E : Type 0} (r : Result T E) (old : Option (List ℕ)) → OnOk r (PrintsSome old old)
nothing_printed r old = printed_before r old old ([], took_nothing old)

none_each : (One : Reading → List ℕ → Type 0) (rs : List Reading) (text : List ℕ) → rs ≡ [] → Each One rs text → text ≡ []
none_each One [] text is none = refl
none_each One (r ∷ rs) text is each = absurd (cc is)

pub tells_none : (out : Option (Bor (List ℕ))) (tag : ℕ) (entries : List Entry) (old mid new : Option (List ℕ))
    → told_of out entries ≡ []
    → Prints (TellsEach out tag entries) old mid → Took mid new (codes "no new letters\n") → Prints (TellsLetters out tag entries) old new
tells_none out tag entries old mid new nothing p line =
    let blank = none_each (TellsOne out tag entries) (told_of out entries) p.0 nothing p.1 in (
      codes "no new letters\n",
      inl (nothing, refl),
      took_both old mid new [] (codes "no new letters\n") (subst (λ (t : List ℕ). Took old mid t) blank p.2) line,
    )

pub tells_some : (out : Option (Bor (List ℕ))) (tag : ℕ) (entries : List Entry) (old new : Option (List ℕ)) → told_of out entries ≢ []
    → Prints (TellsEach out tag entries) old new → Prints (TellsLetters out tag entries) old new
tells_some out tag entries old new some p = (p.0, inr (some, p.1), p.2)

pub end_none : (rs : List Reading) → rs ≡ [] → end.Done ≡ end_of rs
end_none [] is = refl
end_none (r ∷ rs) is = absurd (cc is)

pub end_some : (met : Bool) (e : WordEnd) (rs : List Reading) → e ≡ (if met then end.Met else end.Done) → met ≡ list_any is_met rs
    → e ≡ end_of rs
end_some met e rs is so = is ∙ ap (λ (b : Bool). if b then end.Met else end.Done) so

pub tells_and : (line : List ℕ) (entries : List Entry) (old mid new : Option (List ℕ))
    → Prints (ShowsEach entries (new_letters entries)) old mid → Took mid new line → Prints (TellsNewAnd line entries) old new
tells_and line entries old mid new p next =
    (p.0 ++ line, record { letters = p.0; shown = p.1; is = refl }, took_both old mid new p.0 line p.2 next)

pub tells_card : {D : Type 0} (l : LedgerState D) (name : List ℕ) (old mid new : Option (List ℕ))
    → Prints (IsCardFor l name) old mid → Took mid new advice → Prints (TellsCard l name) old new
tells_card l name old mid new p next =
    (p.0 ++ advice, record { card = p.0; is_card = p.1; is = refl }, took_both old mid new p.0 advice p.2 next)

-- ---- words of an owner

-- what was printed behind a scene in which nothing was is all that was printed
behind : (Form : List ℕ → Type 0) (old mid new : Option (List ℕ)) → mid ≡ old → Prints Form mid new → Prints Form old new
behind Form old mid new silent p = subst (λ (w : Option (List ℕ)). Prints Form w new) silent p

-- the same once the desk was resumed
behind_resumed : {D : Type 0} (shows : D → DiskSeen) (Form : List ℕ → Type 0) (old mid new : Scene D) (l : LedgerState D)
    → Resumes shows old mid l → Prints Form mid.written new.written → Prints Form old.written new.written
behind_resumed shows Form old mid new l r p =
    behind Form old.written mid.written new.written r.silent p

pub fetches : {D : Type 0} (shows : D → DiskSeen) (out : Option (Bor (List ℕ))) (e : WordEnd) (old mid new : Scene D)
    (resumed now noted : LedgerState D) (calls : Option (List Call)) → NotesTold out now noted → Resumes shows old mid resumed
    → ReadsLive resumed now mid.calls calls → new.calls ≡ calls → new.files ≡ mid.files
    → Prints (TellsLetters out (tag_of now.client.opening.seed) now.entries) mid.written new.written → e ≡ end_of (told_of out now.entries)
    → FetchesLetters shows out e old new
fetches shows out e old mid new resumed now noted calls notes resumes reads same files told ends = record {
  resumed = resumed;
  mid = mid;
  resumes = resumes;
  now = now;
  reads = subst (λ (x : Option (List Call)). ReadsLive resumed now mid.calls x) (sym same) reads;
  files = files;
  told = behind_resumed shows (TellsLetters out (tag_of now.client.opening.seed) now.entries) old mid new resumed resumes told;
  noted = noted;
  notes = notes;
  ends = ends;
}

pub opens_boxes : {D : Type 0} (shows : D → DiskSeen) (wanted : Wanted) (day : Day) (old mid new : Scene D)
    (resumed noted now : LedgerState D) → IfSome wanted.until (λ named. IsDay named → day ≡ named) → Resumes shows old mid resumed → (IsNearlyFull resumed.client.journal.end → ⊥) → WantsBoxes wanted.name.now wanted.count day resumed noted
    → Goes noted mid.calls now new.calls → HasNothingLeft now → new.files ≡ mid.files
    → Prints (TellsCard now wanted.name.now) mid.written new.written → OpensBoxes shows wanted old new
opens_boxes shows wanted day old mid new resumed noted now named resumes room wants goes left files told = record {
  day = day;
  named = named;
  resumed = resumed;
  mid = mid;
  resumes = resumes;
  room = room;
  noted = noted;
  wants = wants;
  now = now;
  goes = goes;
  nothing_left = left;
  files = files;
  told = behind_resumed shows (TellsCard now wanted.name.now) old mid new resumed resumes told;
}

pub retires : {D : Type 0} (shows : D → DiskSeen) (name : List ℕ) (e : WordEnd) (old mid new : Scene D)
    (resumed noted now : LedgerState D) → Resumes shows old mid resumed → (IsNearlyFull resumed.client.journal.end → ⊥) → WantsRetired name resumed noted
    → Goes noted mid.calls now new.calls → HasNothingLeft now → new.files ≡ mid.files
    → Prints (TellsNewAnd (retired_line name) now.entries) mid.written new.written → e ≡ end_of (new_letters now.entries)
    → RetiresBoxes shows name e old new
retires shows name e old mid new resumed noted now resumes room wants goes left files told ends = record {
  resumed = resumed;
  mid = mid;
  resumes = resumes;
  room = room;
  noted = noted;
  wants = wants;
  now = now;
  goes = goes;
  nothing_left = left;
  files = files;
  told = behind_resumed shows (TellsNewAnd (retired_line name) now.entries) old mid new resumed resumes told;
  ends = ends;
}

pub forgets : {D : Type 0} (shows : D → DiskSeen) (e : WordEnd) (old mid new : Scene D) (resumed noted : LedgerState D)
    → ComesBack shows old mid resumed → NotesShown resumed noted → Renews shows noted mid.files new.files → new.calls ≡ mid.calls
    → Prints (TellsNewAnd forgotten_line resumed.entries) mid.written new.written → e ≡ end_of (new_letters resumed.entries)
    → ForgetsLetters shows e old new
forgets shows e old mid new resumed noted comes notes renews calls told ends = record {
  resumed = resumed;
  mid = mid;
  comes = comes;
  noted = noted;
  notes = notes;
  renews = renews;
  calls = calls;
  told = behind (TellsNewAnd forgotten_line resumed.entries) old.written mid.written new.written comes.silent told;
  ends = ends;
}
