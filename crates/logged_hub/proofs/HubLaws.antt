-- What stands on the disk of a hub, behind a call.
use Rattle.std.proofs.Common.{◌≡◌, ◌⊎◌, inl, inr, ℕ, true, false, List, [], ◌∷◌, ◌++◌, Option, Some, None, IsSome, is_some, map, refl, sym, ◌∙◌, ap, subst, append_assoc, append-nil}
use Rattle.kept_machine.specs.Kept.{Holds}
use Rattle.many_words.specs.Events.{Event, Entry, Logged, records_of}
use Rattle.node_journal.specs.Batches.{AppendedAll, LeavesAllOrNone, LeavesBeforeOrAll, IsBeforeOrAll}
use Rattle.node_journal.specs.Disk.{DiskSeen, LeavesOnly, Within}
use Rattle.node_journal.specs.Journal.{JournalState}
use Rattle.node_journal.specs.Records.{IsUndamaged}
use Rattle.node_journal.proofs.Moments.{widened}
use Rattle.logged_hub.specs.Calls.{entry_of, written, written_by}
use Rattle.logged_hub.specs.State.{IsKept, IsReady, LeavesWhole}
use Rattle.logged_hub.specs.declared.fault.LogFault.{LogFault}

pub written-append : (a b : List Event) → written (a ++ b) ≡ written a ++ written b
written-append [] b = refl
written-append (e ∷ a) b = ap (λ (l : List (List ℕ)). written_by e ++ l) (written-append a b) ∙ sym (append_assoc (written_by e) (written a) (written b))

-- one call more
pub written-next : (held : List (List ℕ)) (calls now : List Event) (event : Event) → now ≡ calls ++ event ∷ []
    → held ++ written now ≡ held ++ written calls ++ written_by event
written-next held calls now event is =
    ap (λ l. held ++ written l) is ∙ ap (λ (l : List (List ℕ)). held ++ l) (written-append calls (event ∷ []) ∙ ap (λ (l : List (List ℕ)). written calls ++ l) (append-nil (written_by event)))
    ∙ sym (append_assoc held (written calls) (written_by event))

-- one that writes nothing
pub written-same : (held : List (List ℕ)) (calls now : List Event) (event : Event) → now ≡ calls ++ event ∷ [] → written_by event ≡ []
    → held ++ written now ≡ held ++ written calls
written-same held calls now event is none =
    written-next held calls now event is ∙ ap (λ (l : List (List ℕ)). held ++ written calls ++ l) none ∙ append-nil (held ++ written calls)

-- nothing is written, and the log is as it was
pub kept-beside : (disk : DiskSeen) (journal : JournalState) (batch held : List (List ℕ)) (fault : Option LogFault) (calls now : List Event) (event : Event)
    → now ≡ calls ++ event ∷ [] → written_by event ≡ [] → IsKept disk journal batch (held ++ written calls) fault → IsKept disk journal batch (held ++ written now) fault
kept-beside disk journal batch held fault calls now event is none kept =
    subst (λ (records : List (List ℕ)). IsKept disk journal batch records fault) (sym (written-same held calls now event is none)) kept

-- ---- a call of the log

pub holds-all : (records added : List (List ℕ)) (reads reads_now : List ℕ → Type 0) → Holds records reads
    → ((c : List ℕ) → reads_now c → AppendedAll reads added c) → Holds (records ++ added) reads_now
holds-all records added reads reads_now held all c read =
    let now = all c read in
    now.2 ∙ ap (λ (l : List (List ℕ)). l ++ added) (held now.0 now.1)

pub leaves-whole : (limit : ℕ) (records added : List (List ℕ)) (reads : List ℕ → Type 0) → Holds records reads
    → Within (LeavesBeforeOrAll limit reads added) (LeavesWhole limit records added)
leaves-whole limit records added reads held c left = (either (held left.0 left.1) left.2, left.3)
  where
    either : {before : List (List ℕ)} → before ≡ records → IsBeforeOrAll before added c → IsBeforeOrAll records added c
    either was (inl same) = inl (same ∙ was)
    either was (inr more) = inr (more ∙ ap (λ (l : List (List ℕ)). l ++ added) was)

pub leaves-only-whole : (limit : ℕ) (records added : List (List ℕ)) (old new : DiskSeen) → Holds records old.reads
    → LeavesAllOrNone limit old new added → LeavesOnly old new (LeavesWhole limit records added)
leaves-only-whole limit records added old new held leaves =
    widened old new (LeavesBeforeOrAll limit old.reads added) (LeavesWhole limit records added) leaves (leaves-whole limit records added old.reads held)

-- ---- the opening

pub records-of-held : (records : List (List ℕ)) → records_of (map entry_of records) ≡ records
records-of-held [] = refl
records-of-held (r ∷ records) = ap (λ (l : List (List ℕ)). r ∷ l) (records-of-held records)

-- ---- the invariant behind a call of the log

pub no-fault : (fault : Option LogFault) → false ≡ is_some fault → fault ≡ None
no-fault None is = refl
no-fault (Some why) is = cc

pub some-fault : (fault : Option LogFault) → true ≡ is_some fault → IsSome fault
some-fault None is = cc
some-fault (Some why) is = refl

pub kept-logged : (disk : DiskSeen) (now : DiskSeen) (journal : JournalState) (batch held : List (List ℕ)) (fault : Option LogFault) (calls calls_now : List Event) (entries : List Entry)
    → fault ≡ None → calls_now ≡ calls ++ Logged entries ∷ [] → IsReady journal now → Holds (held ++ written calls) disk.reads
    → ((c : List ℕ) → now.reads c → AppendedAll disk.reads (records_of entries) c) → IsKept now journal batch (held ++ written calls_now) fault
kept-logged disk now journal batch held fault calls calls_now entries none is ready before all = record {
  ready = λ same. ready;
  held = λ same. subst (λ (records : List (List ℕ)). Holds records now.reads) (sym (written-next held calls calls_now (Logged entries) is))
      (holds-all (held ++ written calls) (records_of entries) disk.reads now.reads before all);
  failed = λ some. absurd (nothing fault none some);
}
  where
    nothing : (o : Option LogFault) → o ≡ None → IsSome o → ⊥
    nothing None is some = cc
    nothing (Some why) is some = cc

pub kept-failed : (disk now : DiskSeen) (journal journal_now : JournalState) (batch records added : List (List ℕ)) (why : LogFault)
    → IsReady journal disk → Holds records disk.reads → LeavesAllOrNone journal.limit disk now added → journal_now.limit ≡ journal.limit
    → ((c : List ℕ) → now.may_leave c → now.left_since disk.moment c) → Within now.may_leave disk.may_leave ⊎ (batch ≡ added)
    → IsKept now journal_now batch records (Some why)
kept-failed disk now journal journal_now batch records added why ready held leaves limit left wrote = record {
  ready = λ none. cc;
  held = λ none. cc;
  failed = λ some c leave.
      let here = leaves-whole journal.limit records added disk.reads held c (leaves.each c (left c leave)) in
      (either c leave here.0 wrote, subst (λ (n : ℕ). IsUndamaged n 0 c) (sym limit) here.1);
}
  where
    either : (c : List ℕ) → now.may_leave c → IsBeforeOrAll records added c → Within now.may_leave disk.may_leave ⊎ (batch ≡ added) → IsBeforeOrAll records batch c
    either c leave here (inl same) = inl (held c (ready.in_place.durable c (same c leave)))
    either c leave (inl before) (inr is) = inl before
    either c leave (inr all) (inr is) = inr (all ∙ ap (λ (l : List (List ℕ)). records ++ l) (sym is))
