use Rattle.std.proofs.Common.{◌≡◌, ◌≤◌, length, take}
use Rattle.client_run.specs.Carries.{boxes_of}
use Rattle.client_run.proofs.fetched.take_boxes.Given as goal

abbrev pub invariant-loop-one : goal.invariant-loop-one
invariant-loop-one l = record {
  taken : l.joiner.taken ≡ boxes_of (take l.one-index l.finished);
  few : length l.joiner.taken ≤ l.one-index;
  most : l.joiner.most ≡ l.fn.joiner.most;
  width : l.joiner.width ≡ l.fn.joiner.width;
}
