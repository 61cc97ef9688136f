-- Steps after steps.
use Rattle.std.proofs.Common.{◌≡◌, ◌<◌, ◌+◌, ◌-◌, ℕ, Bool, true, false, List, [], ◌∷◌, ◌++◌, length, Option, Result, Ok, Err}
use Rattle.std.proofs.Common.{inl, inr, refl, sym, ap, ◌∙◌, subst, append-nil, append_assoc, arith}
use Rattle.std.specs.Prelude.{map}
use Rattle.express_words.specs.Calls.{Call}
use Rattle.express_words.specs.Seen.{Seen}
use Rattle.kept_machine.specs.declared.fault.KeepFault.{KeepFault}
use Rattle.kept_machine.specs.Keeps.{Keeps, sight}
use Rattle.kept_machine.specs.Kept.{Holds, KeptState}
use Rattle.kept_machine.specs.Machines.{Rules}
use Rattle.node_journal.specs.Disk.{DiskSeen}
use Rattle.node_journal.specs.Journal.{JournalState, longer}
use Rattle.door_work.specs.Asking.{Asking, Rest}
use Rattle.door_work.specs.Steps.{KeepsBy, Stepped, kept_so, record_by}
use Rattle.door_work.specs.Works.{Goes, GoesOn, KeptStep, WorkedOff, records_of}
use Rattle.door_work.specs.declared.halt.Halt.{Halt}
use Rattle.door_work.specs.declared.places.Places.{Places}
use Rattle.door_work.specs.declared.stepping.Course.TheVariants as course

-- the room that a journal has left
abbrev pub room_left : JournalState → ℕ
room_left j = j.limit - j.end

-- ---- one step that was made

pub record IsMade {M D : Type 0} (rules : Rules M) (shows : D → DiskSeen) (old new : KeptState M D)
    (came : Result (List ℕ) Halt) : Type 0 where
  pub bytes : List ℕ
  pub is : came ≡ Ok bytes
  pub steps : rules.steps bytes old.machine new.machine
  pub added : (records : List (List ℕ)) → Holds records (shows old.disk).reads
      → Holds (records ++ bytes ∷ []) (shows new.disk).reads
  pub nearer : room_left new.journal < room_left old.journal

shorter : (old new : JournalState) (bytes : ℕ) (closed : Bool) → old.closed ≡ closed → new ≡ longer bytes old
    → (old.closed ≡ true → ⊥) → (old.closed ≡ false → old.limit < old.end + 5 + bytes + 1 → ⊥)
    → room_left new < room_left old
shorter old new bytes true e grown unclosed fits = absurd (unclosed e)
shorter old new bytes false e grown unclosed fits =
    let fit : old.limit < old.end + 5 + bytes + 1 → ⊥ = fits e in
    let left : room_left new ≡ old.limit - (old.end + 5 + bytes) = ap room_left grown in
    rw left (omega (arith, fit))

made_by : {M D : Type 0} (rules : Rules M) (shows : D → DiskSeen) (counts : D → Seen) (old new : KeptState M D)
    (came : Result (List ℕ) Halt) → KeepsBy rules shows counts came old new (Ok course.GoesOn)
    → IsMade rules shows old new came
made_by rules shows counts old new (Err why) (same, told) = absurd (cc told)
made_by {M} {D} rules shows counts old new (Ok bytes) k = by_kept k.kept k.told k.keeps
  where
    by_kept : (kept : Result (Unit {0}) KeepFault) → Ok course.GoesOn ≡ kept_so kept
        → Keeps rules bytes (sight shows counts old) (sight shows counts new) kept
        → IsMade rules shows old new (Ok bytes)
    by_kept (Err fault) told keeps = absurd (cc told)
    by_kept (Ok done) told keeps = record {
      bytes = bytes;
      is = refl;
      steps = keeps.step;
      added = keeps.added;
      nearer = shorter old.journal new.journal (length bytes) old.journal.closed refl keeps.longer
          (λ closed. let no = keeps.judged.closed closed in absurd (cc no))
          (λ unclosed lacks. let no = keeps.judged.full unclosed lacks in absurd (cc no));
    }

-- ---- where the steps stand

goes_more : {M : Type 0} (rules : Rules M) (asking : Asking M) (places : Places) (m now then : M)
    (made : List KeptStep) (step : KeptStep) (a b c : Option (List Call))
    → GoesOn rules asking places m a made now b → Goes rules asking places now then step b c
    → GoesOn rules asking places m a (made ++ step ∷ []) then c
goes_more {M} rules asking places m now then [] step a b c (same, still) goes = (
  then,
  c,
  subst (λ (x : M). Goes rules asking places x then step a c) same
      (subst (λ (x : Option (List Call)). Goes rules asking places now then step x c) still goes),
  (refl, refl),
)
goes_more rules asking places m now then (s ∷ made) step a b c (next, mid, first, others) goes =
    (next, mid, first, goes_more rules asking places next now then made step mid b c others goes)

map_more : (made : List KeptStep) (step : KeptStep) → records_of (made ++ step ∷ []) ≡ records_of made ++ step.bytes ∷ []
map_more [] step = refl
map_more (s ∷ made) step = ap (λ (l : List (List ℕ)). s.bytes ∷ l) (map_more made step)

pub record Standing {M D : Type 0} (rules : Rules M) (asking : Asking M) (places : Places)
    (shows : D → DiskSeen) (start now : KeptState M D) (a b : Option (List Call)) : Type 0 where
  pub made : List KeptStep
  pub goes_on : GoesOn rules asking places start.machine a made now.machine b
  pub added : (records : List (List ℕ)) → Holds records (shows start.disk).reads
      → Holds (records ++ records_of made) (shows now.disk).reads

pub standing : {M D : Type 0} (rules : Rules M) (asking : Asking M) (places : Places) (shows : D → DiskSeen)
    (start : KeptState M D) (a : Option (List Call)) → Standing rules asking places shows start start a a
standing rules asking places shows start a = record {
  made = [];
  goes_on = (refl, refl);
  added = λ records held.
      subst (λ (r : List (List ℕ)). Holds r (shows start.disk).reads) (sym (append-nil records)) held;
}

pub stands_more : {M D : Type 0} (rules : Rules M) (asking : Asking M) (places : Places) (shows : D → DiskSeen)
    (counts : D → Seen) (start old new : KeptState M D) (a b c : Option (List Call))
    → Standing rules asking places shows start old a b
    → Stepped rules asking places shows counts old new (Ok course.GoesOn) b c
    → Standing rules asking places shows start new a c × (room_left new.journal < room_left old.journal)
stands_more rules asking places shows counts start old new a b c s (inr rests) = absurd (cc rests.told)
stands_more rules asking places shows counts start old new a b c s (inl does) =
    let is = made_by rules shows counts old new (record_by asking old.machine does.step) does.keeps in
    let step : KeptStep = record { step = does.step; bytes = is.bytes } in (
      record {
        made = s.made ++ step ∷ [];
        goes_on = goes_more rules asking places start.machine old.machine new.machine s.made step a b c s.goes_on
            (record { is_step = does.is_step; calls = does.calls; came = is.is; steps = is.steps });
        added = λ records held.
            subst (λ (r : List (List ℕ)). Holds r (shows new.disk).reads)
            (append_assoc records (records_of s.made) (is.bytes ∷ [])
            ∙ ap (λ (r : List (List ℕ)). records ++ r) (sym (map_more s.made step)))
            (is.added (records ++ records_of s.made) (s.added records held));
      },
      is.nearer,
    )

-- ---- the last step

pub rests_so : {M D : Type 0} (rules : Rules M) (asking : Asking M) (places : Places) (shows : D → DiskSeen)
    (counts : D → Seen) (start old new : KeptState M D) (a b c : Option (List Call))
    → Standing rules asking places shows start old a b
    → Stepped rules asking places shows counts old new (Ok course.Rests) b c
    → WorkedOff rules asking places shows counts start new (Ok tt) a c
rests_so rules asking places shows counts start old new a b c s stepped = record {
  made = s.made;
  last = old;
  calls = b;
  goes_on = s.goes_on;
  added = s.added;
  ends = stepped;
  again = tt;
}

pub halts_so : {M D : Type 0} (rules : Rules M) (asking : Asking M) (places : Places) (shows : D → DiskSeen)
    (counts : D → Seen) (start old new : KeptState M D) (why : Halt) (a b c : Option (List Call))
    → Standing rules asking places shows start old a b
    → Stepped rules asking places shows counts old new (Err why) b c
    → asking.next_of new.machine ≡ asking.next_of old.machine
    → WorkedOff rules asking places shows counts start new (Err why) a c
halts_so rules asking places shows counts start old new why a b c s stepped same = record {
  made = s.made;
  last = old;
  calls = b;
  goes_on = s.goes_on;
  added = s.added;
  ends = stepped;
  again = same;
}

not_kept : {M D : Type 0} (rules : Rules M) (shows : D → DiskSeen) (counts : D → Seen) (old new : KeptState M D)
    (came : Result (List ℕ) Halt) → KeepsBy rules shows counts came old new (Ok course.Rests) → ⊥
not_kept rules shows counts old new (Err why) (same, told) = absurd (cc told)
not_kept rules shows counts old new (Ok bytes) k = by_kept k.kept k.told
  where
    by_kept : (kept : Result (Unit {0}) KeepFault) → Ok course.Rests ≡ kept_so kept → ⊥
    by_kept (Err fault) told = absurd (cc told)
    by_kept (Ok done) told = absurd (cc told)

-- where no step was left, the machine wants nothing
pub at_rest : {M D : Type 0} (rules : Rules M) (asking : Asking M) (places : Places) (shows : D → DiskSeen)
    (counts : D → Seen) (old new : KeptState M D) (b c : Option (List Call))
    → Stepped rules asking places shows counts old new (Ok course.Rests) b c
    → asking.next_of new.machine ≡ Rest
at_rest rules asking places shows counts old new b c (inl does) =
    absurd (not_kept rules shows counts old new (record_by asking old.machine does.step) does.keeps)
at_rest {M} {D} rules asking places shows counts old new b c (inr rests) =
    ap (λ (k : KeptState M D). asking.next_of k.machine) rests.same ∙ rests.rests
