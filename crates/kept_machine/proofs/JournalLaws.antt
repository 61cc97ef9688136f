-- What a journal will write, and what a crash leaves of its disk.
use Rattle.std.proofs.Common.{◌≡◌, ◌⊎◌, inl, inr, ℕ, ◌+◌, ◌≤◌, List, [], ◌∷◌, ◌++◌, true, ◌∙◌, ap, arith}
use Rattle.node_journal.specs.Disk.{DiskSeen, LeavesOnly}
use Rattle.node_journal.specs.Records.{content, EndsAt, IsUndamaged, LeavesBeforeOrAfter, IsBeforeOrAfter}
use Rattle.node_journal.specs.Journal.{JournalState, IsInPlace}
use Rattle.kept_machine.specs.Kept.{Holds, LeavesRecords}

undamaged_end : (limit end : ℕ) (d : List ℕ) → EndsAt end d → end + 1 ≤ limit → IsUndamaged limit 0 d
undamaged_end limit end d e fits =
    record { records = e.records; sized = e.sized; gate = e.gate; closed = e.closed; tail = e.tail; split = e.split; fits = omega (arith, e.place, fits) }

pub undamaged_now : (j : JournalState) (disk : DiskSeen) → IsInPlace j disk → j.ready ≡ true → (d : List ℕ) → disk.reads d → IsUndamaged j.limit 0 d
undamaged_now j disk place ready d read = undamaged_end j.limit j.end d (place.at_rest ready d read) (place.fits ready)

pub leaves_only : (old new : DiskSeen) (P Q : List ℕ → Type 0)
    → ((d : List ℕ) → P d → Q d) → LeavesOnly old new P → LeavesOnly old new Q
leaves_only old new P Q follows leaves = record {
  later = leaves.later;
  each = λ d left. follows d (leaves.each d left);
  before = λ t d earlier left. elim (leaves.before t d earlier left) [ inl past ↦ inl past | inr now ↦ inr (follows d now) ];
}

pub leaves_records : (limit : ℕ) (records : List (List ℕ)) (bytes : List ℕ) (reads : List ℕ → Type 0) → Holds records reads
    → (d : List ℕ) → LeavesBeforeOrAfter limit reads bytes d → LeavesRecords limit records bytes d
leaves_records limit records bytes reads held d left = (either (held left.0 left.1) left.2, left.3)
  where
    either : {before : List (List ℕ)} → before ≡ records → IsBeforeOrAfter before bytes d
        → (content d ≡ records) ⊎ (content d ≡ records ++ bytes ∷ [])
    either was (inl same) = inl (same ∙ was)
    either was (inr more) = inr (more ∙ ap (λ (l : List (List ℕ)). l ++ bytes ∷ []) was)
