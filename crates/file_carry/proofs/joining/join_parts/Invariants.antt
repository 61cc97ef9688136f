use Rattle.std.proofs.Common.{◌≡◌, ◌*◌, ◌≤◌, max, vec_len, vec_capacity}
use Rattle.file_carry.specs.Boxes.{before, joined}
use Rattle.file_carry.specs.Joining.{rows}
use Rattle.file_carry.proofs.RowLaws.{left_at}
use Rattle.file_carry.proofs.joining.join_parts.Given as goal

abbrev pub invariant-loop-index : goal.invariant-loop-index
invariant-loop-index l = record {
  walk : joined l.id l.count 0 (max 1 l.count) (rows l.width l.taken l.bytes) ≡ before l.file.items (left_at l.id l.count (max 1 l.count) l.width l.taken l.bytes l.index);
  len : vec_len l.file ≤ l.index * l.width;
  capacity : vec_capacity l.fn.file ≤ vec_capacity l.file;
}
