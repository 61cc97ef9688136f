-- The only place that is taken.
use Rattle.std.proofs.Common.{◌≡◌, ℕ, ◌+◌, ◌<◌, eqb, eq-eqb, Bool, true, false, List, Option, Some, None}
use Rattle.std.proofs.Common.{arith, refl, sym, subst}
use Rattle.std.specs.Prelude.{IfSome, IsSome}
use Rattle.std.proofs.lemmas.Bool.{ne_eqb}
use Rattle.node_journal.specs.Disk.{DiskSeen}
use Rattle.desk_outside.specs.Calls.{FolderCall}
use Rattle.desk_outside.specs.declared.folder.Slot.{Slot}
use Rattle.desk_send.specs.Places.{IsTakenAt, next, slot_at}
use Rattle.desk_send.specs.Searching.{FindsSeveral, JoinsOnly, OnlyTaken}
use Rattle.desk_send.proofs.PlaceLaws.{each_map}

abbrev pub IsBelow : ℕ → Option Slot → Type 0
IsBelow n only = IfSome only (λ (slot : Slot). slot.number < n)

taken_as : {D : Type 0} (shows : D → DiskSeen) (slot : Slot) (old new : Option (List (FolderCall D)))
    (a b : Bool) → a ≡ b → IsTakenAt shows slot old new a → IsTakenAt shows slot old new b
taken_as shows slot old new a b is t = subst (λ (x : Bool). IsTakenAt shows slot old new x) is t

only_as : {D : Type 0} (shows : D → DiskSeen) (old new : Option (List (FolderCall D))) (n : ℕ)
    (a b : Option Slot) → a ≡ b → OnlyTaken shows a old n new → OnlyTaken shows b old n new
only_as shows old new n a b is each = subst (λ (x : Option Slot). OnlyTaken shows x old n new) is each

now_only : {D : Type 0} (shows : D → DiskSeen) (old mid new : Option (List (FolderCall D))) (n : ℕ)
    → OnlyTaken shows None old n mid
    → IsTakenAt shows (slot_at n) mid new true → OnlyTaken shows (Some (slot_at n)) old (n + 1) new
now_only shows old mid new n each step =
    next n mid new
    (each_map _ _ old n mid
    (λ k less a b t. taken_as shows (slot_at k) a b false (eqb k n)
    (sym (ne_eqb k n (λ e. omega (arith, e, less)))) t) each)
    (taken_as shows (slot_at n) mid new true (eqb n n) (sym (eq-eqb n n refl)) step)

pub only_more : {D : Type 0} (shows : D → DiskSeen) (only new_only : Option Slot)
    (old mid new : Option (List (FolderCall D)))
    (n : ℕ) (taken : Bool) → IsBelow n only → OnlyTaken shows only old n mid
    → IsTakenAt shows (slot_at n) mid new taken
    → JoinsOnly taken only (slot_at n) new_only → OnlyTaken shows new_only old (n + 1) new
only_more shows None new_only old mid new n false below each step is =
    only_as shows old new (n + 1) None new_only (sym is) (next n mid new each step)
only_more shows (Some s) new_only old mid new n false below each step is =
    only_as shows old new (n + 1) (Some s) new_only (sym is)
    (next n mid new each (taken_as shows (slot_at n) mid new false (eqb n s.number)
    (sym (ne_eqb n s.number (λ e. omega (arith, e, below)))) step))
only_more shows only new_only old mid new n true below each step is =
    only_as shows old new (n + 1) (Some (slot_at n)) new_only (sym is.1)
    (now_only shows old mid new n (only_as shows old mid n only None is.0 each) step)

below_by : (n : ℕ) (only new_only : Option Slot) → new_only ≡ only → IsBelow n only → IsBelow (n + 1) only
below_by n None new_only is below = tt
below_by n (Some s) new_only is below = omega (arith, below)

pub below_more : (n : ℕ) (taken : Bool) (only new_only : Option Slot) → IsBelow n only
    → JoinsOnly taken only (slot_at n) new_only → IsBelow (n + 1) new_only
below_more n false only new_only below is = subst (IsBelow (n + 1)) (sym is)
    (below_by n only new_only is below)
below_more n true only new_only below is =
    let more : n < n + 1 = omega arith in
    subst (IsBelow (n + 1)) (sym is.1) more

pub finds_several : {D : Type 0} (shows : D → DiskSeen) (only : Option Slot)
    (old mid new : Option (List (FolderCall D)))
    (n : ℕ) (taken : Bool) → IsBelow n only → OnlyTaken shows only old n mid
    → IsTakenAt shows (slot_at n) mid new taken
    → taken ≡ true → IsSome only → FindsSeveral shows old new
finds_several shows None old mid new n taken below each step is some = absurd (cc some)
finds_several shows (Some s) old mid new n taken below each step is some = record {
  one = s;
  number = n;
  behind = below;
  mid = mid;
  before = each;
  also = taken_as shows (slot_at n) mid new taken true is step;
}
