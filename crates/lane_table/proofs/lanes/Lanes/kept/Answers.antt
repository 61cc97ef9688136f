use Rattle.std.proofs.Common.{◌∙◌, ap, sym, take, arith}
use Rattle.lane_table.specs.Table.{Lane}
use Rattle.lane_table.proofs.LaneLaws.{length-lanes_in, lane-of, reply-length}
use Rattle.lane_table.proofs.lanes.Lanes.kept.Goals as goal

pub get-requires : goal.get-requires
get-requires c =
    let within = rw (← c.self.view_is, length-lanes_in _ _ c.self.invariant.same) at c.requires in
    omega (arith, c.self.invariant.same)

pub index-requires : goal.index-requires
index-requires c = let within = rw (← c.self.view_is, length-lanes_in _ _ c.self.invariant.same) at c.requires in omega arith

pub slice_bounds-result-end : goal.slice_bounds-result-end
slice_bounds-result-end c =
    let within = rw (← c.self.view_is, length-lanes_in _ _ c.self.invariant.same, ← c.from-place.ensures) at c.requires in
    sym (reply-length c.self.inside.slots.items c.self.inside.replies c.self.invariant c.from-place.result c.index.result.now within c.index.ensures c.get.result.now c.get.ensures.size)

pub returns-clause-reply : goal.returns-clause-reply
returns-clause-reply c =
    let within = rw (← c.self.view_is, length-lanes_in _ _ c.self.invariant.same, ← c.from-place.ensures) at c.requires in
    rw (← c.self.view_is, ← c.from-place.ensures)
    (ap (take c.index.result.now.length) c.get.ensures.value
    ∙ sym (ap (λ (lane : Lane). lane.reply) (lane-of c.self.inside.slots.items c.self.inside.replies.blocks c.from-place.result c.index.result.now c.self.invariant.same within c.index.ensures)))
