use Rattle.std.proofs.Common.{ap, arith}
use Rattle.lane_table.specs.Table.{table_of}
use Rattle.lane_table.proofs.LaneLaws.{length-lanes_in, lanes_in-kept}
use Rattle.lane_table.proofs.lanes.Lanes.keep.Goals as goal

pub index_mut-requires : goal.index_mut-requires
index_mut-requires c = let within = rw (← c.self.view_is, length-lanes_in _ _ c.self.invariant.same) at c.requires.lane in omega arith

pub write-requires-clause-block : goal.write-requires-clause-block
write-requires-clause-block c =
    let within = rw (← c.self.view_is, length-lanes_in _ _ c.self.invariant.same) at c.requires.lane in
    omega (arith, c.self.invariant.same)

pub returns : goal.returns
returns c =
    let within = rw (← c.self.view_is, length-lanes_in _ _ c.self.invariant.same, ← c.from-place.ensures) at c.requires.lane in
    rw (← c.self.view_is, ← c.from-place.ensures, c.write.ensures)
    (ap (table_of c.self.inside.replies.size) (lanes_in-kept c.self.inside.slots.items c.self.inside.replies c.self.invariant c.from-place.result c.index_mut.result.now within c.index_mut.ensures.value c.args.reply.now))
