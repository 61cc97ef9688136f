use Rattle.std.proofs.Common.{ltb, rules}
use Rattle.std.proofs.lemmas.List.Sorted.{IsPartitionPoint-from_clause}
use Rattle.dpf_eval.proofs.PlaceLemmas.{address_or, parted, point-below, point-above}
use Rattle.dpf_eval.proofs.order.place_of.Goals as goal

pub returns-clause-below : goal.returns-clause-below
returns-clause-below c =
    let addresses = c.args.addresses.now in
    let order = c.args.order.now in
    let point = IsPartitionPoint-from_clause (λ b. ltb (address_or addresses c.args.address b) c.args.address) order _ c.partition_point.ensures.partitioned
    (parted addresses order c.requires c.args.address) (λ a r q k. search rules) in
    point-below addresses order c.requires c.args.address c.partition_point.result point c.partition_point.ensures.bound

pub returns-clause-above : goal.returns-clause-above
returns-clause-above c =
    let addresses = c.args.addresses.now in
    let order = c.args.order.now in
    let point = IsPartitionPoint-from_clause (λ b. ltb (address_or addresses c.args.address b) c.args.address) order _ c.partition_point.ensures.partitioned
    (parted addresses order c.requires c.args.address) (λ a r q k. search rules) in
    point-above addresses order c.requires c.args.address c.partition_point.result point
