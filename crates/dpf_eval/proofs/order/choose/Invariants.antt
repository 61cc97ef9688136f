use Rattle.std.proofs.Common.{◌≡◌, ◌≤◌, take, filter, nat_lt, vec_len, vec_capacity}
use Rattle.dpf_eval.proofs.order.choose.Given as goal

abbrev pub invariant-loop-b : goal.invariant-loop-b
invariant-loop-b l = record {
  within : vec_len l.boxes ≤ l.b-index;
  chosen : l.boxes.items ≡ filter (λ b. nat_lt b l.count) (take l.b-index l.order);
  room : vec_capacity l.boxes ≡ vec_capacity l.initial.boxes;
}
