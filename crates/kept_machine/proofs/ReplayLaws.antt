-- The records of a journal, read one after another, and their steps.
use Rattle.std.proofs.Common.{◌≡◌, ℕ, ◌+◌, ◌≤◌, List, [], ◌∷◌, ◌++◌, length, refl, sym, ◌∙◌, ap, subst, arith, append_assoc, length-append}
use Rattle.std.proofs.lemmas.List.{append-nil}
use Rattle.node_journal.specs.Disk.{DiskSeen, IsUntouched}
use Rattle.node_journal.specs.Records.{records_from, HasNoMore, IsUndamaged}
use Rattle.node_journal.specs.Journal.{JournalState}
use Rattle.kept_machine.specs.Machines.{Rules, All, Runs}
use Rattle.kept_machine.specs.Replays.{IsReading, StandsRecord, StandsAt, StepsOnce, StepsToEnd, RecordsToEnd, StandsDamaged, EndsWith, EndsDamaged}
use Rattle.kept_machine.proofs.FormLaws.{all_push, runs_push}

pub untouched_trans : {disk disk_then disk_now : DiskSeen}
    → IsUntouched disk disk_then → IsUntouched disk_then disk_now → IsUntouched disk disk_now
untouched_trans first second = record {
  gives = λ d read. first.gives d (second.gives d read);
  still = λ d read. second.still d (first.still d read);
  crash = λ d left. first.crash d (second.crash d left);
}

-- ---- reading

-- so far these records were read
pub record Reads {M : Type 0} (rules : Rules M) (limit start number : ℕ) (j : JournalState) (disk disk_now : DiskSeen) : Type 0 where
  pub records : List (List ℕ)
  pub whole : All rules.is_record records
  pub split : (d : List ℕ) → disk.reads d → records_from start d ≡ records ++ records_from j.end d
  pub place : number ≡ length records + 1
  pub reading : IsReading limit j disk_now
  pub untouched : IsUntouched disk disk_now
  pub undamaged : (d : List ℕ) → disk.reads d → IsUndamaged limit start d → IsUndamaged limit j.end d
  pub below : number ≤ j.end

pub reads_start : {M : Type 0} (rules : Rules M) (j : JournalState) (disk : DiskSeen) → IsReading j.limit j disk → 1 ≤ j.end → Reads rules j.limit j.end 1 j disk disk
reads_start rules j disk reading some = record {
  records = [];
  whole = tt;
  split = λ d read. refl;
  place = refl;
  reading = reading;
  untouched = record { gives = λ d read. read; still = λ d read. read; crash = λ d left. left };
  undamaged = λ d read whole. whole;
  below = some;
}

-- behind some records this one comes, and then the rest
behind : (before : List (List ℕ)) (r : List ℕ) (all middle rest : List (List ℕ)) → all ≡ before ++ middle → middle ≡ r ∷ rest → all ≡ (before ++ r ∷ []) ++ rest
behind before r all middle rest first then =
    first ∙ ap (λ (l : List (List ℕ)). before ++ l) then ∙ sym (append_assoc before (r ∷ []) rest)

pub reads_on : {M : Type 0} (rules : Rules M) (limit start number : ℕ) (j k : JournalState) (disk disk_then disk_now : DiskSeen) (bytes : List ℕ)
    → Reads rules limit start number j disk disk_then → StandsRecord rules.is_record j.limit bytes j.end k.end disk_then.reads
    → IsReading j.limit k disk_now → IsUntouched disk_then disk_now → Reads rules limit start (number + 1) k disk disk_now
reads_on rules limit start number j k disk disk_then disk_now bytes so one reading untouched =
    let same : j.limit ≡ limit = so.reading.same_limit in
    record {
      records = so.records ++ bytes ∷ [];
      whole = all_push rules.is_record so.records bytes so.whole one.whole;
      split = λ d read.
          behind so.records bytes (records_from start d) (records_from j.end d) (records_from k.end d)
          (so.split d read) (one.stands d (so.untouched.still d read));
      place = omega (arith, so.place, length-append so.records (bytes ∷ []));
      reading = record { still_open = reading.still_open; same_limit = reading.same_limit ∙ same; in_place = reading.in_place };
      untouched = untouched_trans so.untouched untouched;
      undamaged = λ d read whole.
          subst (λ (l : ℕ). IsUndamaged l k.end d) same
          (one.undamaged d (so.untouched.still d read) (subst (λ (l : ℕ). IsUndamaged l j.end d) (sym same) (so.undamaged d read whole)));
      below = omega (arith, so.below, one.longer);
    }

-- what stands behind the records that were read, of this kind
pub reads_then : {M : Type 0} (rules : Rules M) (Is : List ℕ → Type 0) (limit start number n : ℕ) (j : JournalState) (disk disk_now : DiskSeen)
    → Reads rules limit start number j disk disk_now → n ≡ number → StandsAt Is j.end disk_now.reads → EndsWith rules Is n start disk.reads
reads_then rules Is limit start number n j disk disk_now so is stands = record {
  records = so.records;
  whole = so.whole;
  place = is ∙ so.place;
  bytes = stands.0;
  is = stands.1;
  split = λ d read.
      let here = stands.2 d (so.untouched.still d read) in
      (here.0, so.split d read ∙ ap (λ (l : List (List ℕ)). so.records ++ l) here.1);
}

pub reads_damaged : {M : Type 0} (rules : Rules M) (limit start number n : ℕ) (j : JournalState) (disk disk_now : DiskSeen)
    → Reads rules limit start number j disk disk_now → n ≡ j.end → StandsDamaged j.limit j.end disk_now.reads → EndsDamaged rules limit n start disk.reads
reads_damaged rules limit start number n j disk disk_now so is stands =
    let at : StandsDamaged limit n disk_now.reads =
    subst (λ (e : ℕ). StandsDamaged limit e disk_now.reads) (sym is) (subst (λ (l : ℕ). StandsDamaged l j.end disk_now.reads) so.reading.same_limit stands) in
    let place : (e : ℕ) → e ≡ j.end → ((d : List ℕ) → disk.reads d → records_from start d ≡ so.records ++ records_from e d) =
    λ (e : ℕ) same d read. so.split d read ∙ ap (λ (x : ℕ). so.records ++ records_from x d) (sym same) in
    record {
      records = so.records;
      whole = so.whole;
      split = place n is;
      damaged = λ d read.
          let here = at d (so.untouched.still d read) in
          (here.0, λ whole. here.1 (subst (λ (e : ℕ). IsUndamaged limit e d) (sym is) (so.undamaged d read whole)));
    }

-- no record is left behind those that were read
all_read : {M : Type 0} (rules : Rules M) (limit start number : ℕ) (j : JournalState) (disk disk_now : DiskSeen) (so : Reads rules limit start number j disk disk_now)
    → HasNoMore j.end disk_now.reads → (d : List ℕ) → disk.reads d → records_from start d ≡ so.records
all_read rules limit start number j disk disk_now so no_more d read =
    so.split d read ∙ ap (λ (l : List (List ℕ)). so.records ++ l) (no_more d (so.untouched.still d read)) ∙ append-nil so.records

pub reads_all : {M : Type 0} (rules : Rules M) (limit start number : ℕ) (j : JournalState) (disk disk_now : DiskSeen)
    → Reads rules limit start number j disk disk_now → HasNoMore j.end disk_now.reads → RecordsToEnd rules start disk.reads
reads_all rules limit start number j disk disk_now so no_more = (so.records, so.whole, all_read rules limit start number j disk disk_now so no_more)

-- ---- steps

-- so far these records were read and their steps taken
pub record Replays {M : Type 0} (rules : Rules M) (limit start number : ℕ) (j : JournalState) (before now : M) (disk disk_now : DiskSeen) : Type 0 where
  pub so_far : Reads rules limit start number j disk disk_now
  pub runs : Runs rules before so_far.records now

pub replays_start : {M : Type 0} (rules : Rules M) (j : JournalState) (before : M) (disk : DiskSeen) → IsReading j.limit j disk → 1 ≤ j.end
    → Replays rules j.limit j.end 1 j before before disk disk
unfolding reads_start
replays_start rules j before disk reading some = record { so_far = reads_start rules j disk reading some; runs = refl }

pub replays_on : {M : Type 0} (rules : Rules M) (limit start number : ℕ) (j k : JournalState) (before then now : M) (disk disk_then disk_now : DiskSeen)
    → Replays rules limit start number j before then disk disk_then → StepsOnce rules j.limit j.end k.end then now disk_then.reads
    → IsReading j.limit k disk_now → IsUntouched disk_then disk_now → Replays rules limit start (number + 1) k before now disk disk_now
unfolding reads_on
replays_on rules limit start number j k before then now disk disk_then disk_now so once reading untouched = record {
  so_far = reads_on rules limit start number j k disk disk_then disk_now once.bytes so.so_far once.stands reading untouched;
  runs = runs_push rules before so.so_far.records then once.bytes now so.runs once.step;
}

pub replays_all : {M : Type 0} (rules : Rules M) (limit start number : ℕ) (j : JournalState) (before now : M) (disk disk_now : DiskSeen)
    → Replays rules limit start number j before now disk disk_now → HasNoMore j.end disk_now.reads → StepsToEnd rules start before now disk.reads
replays_all rules limit start number j before now disk disk_now so no_more = record {
  records = so.so_far.records;
  whole = so.so_far.whole;
  runs = so.runs;
  all = all_read rules limit start number j disk disk_now so.so_far no_more;
}
