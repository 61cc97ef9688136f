-- What a crash leaves while a journal is made.
use Rattle.std.proofs.Common.{◌≡◌, ℕ, List, [], length, inl, ap, arith}
use Rattle.node_journal.specs.Disk.{DiskSeen, LeavesOnly, Within}
use Rattle.node_journal.specs.Records.{content, LeavesNoByte, LeavesNoneOrFirst}
use Rattle.kept_machine.specs.Kept.{MakesOnly}

-- where no call was made there is no byte
pub none_left : (limit : ℕ) (first : List ℕ) (disk : DiskSeen) → Within (disk.left_since disk.moment) disk.may_leave → MakesOnly limit first disk disk
unfolding MakesOnly
none_left limit first disk now none = record {
  later = omega arith;
  each = λ c left. blank c (none c (now c left));
  before = λ t c le left. inl left;
}
  where
    blank : (c : List ℕ) → c ≡ [] → LeavesNoneOrFirst limit first c
    blank c is =
        let empty : length c ≡ 0 = ap length is in
        (inl (ap content is), inl (omega (arith, empty)))

pub first_left : (limit : ℕ) (first : List ℕ) (old new : DiskSeen) → (LeavesNoByte old.may_leave → LeavesOnly old new (LeavesNoneOrFirst limit first)) → MakesOnly limit first old new
unfolding MakesOnly
first_left limit first old new left = left
