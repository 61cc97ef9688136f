use Rattle.std.proofs.Common.{◌≡◌, take, map, slice_index, vec_capacity}
use Rattle.dpf_eval.proofs.order.addresses_into.Given as goal

abbrev pub invariant-loop-b : goal.invariant-loop-b
invariant-loop-b l = record {
  addresses : l.out.items ≡ map (slice_index l.addresses) (take l.b-index l.boxes);
  room : vec_capacity l.out ≡ vec_capacity l.initial.out;
}
