-- How a run of disk calls goes on.
use Rattle.std.proofs.Common.{inl, inr, ⊎_elim, ℕ, List, arith}
use Rattle.node_journal.specs.Disk.{DiskSeen, Elapses, LeavesOnly, Within}

-- before the first call
pub started : (old : DiskSeen) (P : List ℕ → Type 0) → Within (old.left_since old.moment) P → LeavesOnly old old P
started old P here = record { later = omega arith; each = here; before = λ t c le left. inl left }

-- one call more, after which a crash leaves what has P
pub goes_on : (old mid new : DiskSeen) (P : List ℕ → Type 0) → LeavesOnly old mid P → Elapses mid new → Within new.may_leave P → LeavesOnly old new P
goes_on old mid new P so_far time here = record {
  later = omega (arith, so_far.later, time.later);
  each = λ c left. ⊎_elim (so_far.each c) (here c) (time.nothing_else old.moment c so_far.later left);
  before = λ t c le left. ⊎_elim (so_far.before t c le) (λ now. inr (here c now)) (time.nothing_else t c (omega (arith, le, so_far.later)) left);
}

-- a wider kind of content
pub widened : (old new : DiskSeen) (P Q : List ℕ → Type 0) → LeavesOnly old new P → Within P Q → LeavesOnly old new Q
widened old new P Q so_far wider = record {
  later = so_far.later;
  each = λ c left. wider c (so_far.each c left);
  before = λ t c le left. ⊎_elim (λ past. inl past) (λ now. inr (wider c now)) (so_far.before t c le left);
}

-- one run after another
pub and_then : (old mid new : DiskSeen) (P : List ℕ → Type 0) → LeavesOnly old mid P → LeavesOnly mid new P → LeavesOnly old new P
and_then old mid new P first second = record {
  later = omega (arith, first.later, second.later);
  each = λ c left. ⊎_elim (first.each c) (λ here. here) (second.before old.moment c first.later left);
  before = λ t c le left. ⊎_elim (first.before t c le) (λ here. inr here) (second.before t c (omega (arith, le, first.later)) left);
}
