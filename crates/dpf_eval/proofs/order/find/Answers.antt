use Rattle.std.proofs.Common.{◌≢◌, ◌<◌, length, slice_index, arith}
use Rattle.dpf_eval.proofs.InsertLemmas.{box_found, not_contained, no_box}
use Rattle.dpf_eval.proofs.order.find.Goals as goal
use Rattle.dpf_eval.proofs.order.find.Goals.{else-place-order-via-then-place-order+else-addresses-order, else-place-order-via-else-place-order}

pub returns-then-addresses-order-clause-place : goal.returns-then-addresses-order-clause-place
returns-then-addresses-order-clause-place c =
    box_found c.args.addresses.now c.args.order.now c.requires c.args.address c.place_of-place.result c.place_of-place.ensures.within
    c.place_of-place.ensures.below c.place_of-place.ensures.above c.if-place-order.true c.if-addresses-order.true

-- another address stands at the place
other : (c : goal.Joined-else-place-order) → c.place_of-place.result < length c.args.order.now
    → slice_index c.args.addresses.now (slice_index c.args.order.now c.place_of-place.result) ≢ c.args.address
other c inside = elim c.else-place-order.branch [
  | else-place-order-via-then-place-order+else-addresses-order w ↦ w.if-addresses-order.false
  | else-place-order-via-else-place-order w ↦ absurd (omega arith)
]

pub returns-else-place-order-clause-place : goal.returns-else-place-order-clause-place
returns-else-place-order-clause-place c =
    no_box c.args.addresses.now c.args.order.now c.requires c.args.address c.place_of-place.result c.place_of-place.ensures.within
    c.place_of-place.ensures.below c.place_of-place.ensures.above (other c)

pub returns-else-place-order-clause-absent : goal.returns-else-place-order-clause-absent
returns-else-place-order-clause-absent c =
    not_contained c.args.addresses.now c.args.order.now c.requires c.args.address c.place_of-place.result c.place_of-place.ensures.within
    c.place_of-place.ensures.below c.place_of-place.ensures.above (other c)
