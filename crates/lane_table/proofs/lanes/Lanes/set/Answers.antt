use Rattle.std.proofs.Common.{ap, arith}
use Rattle.lane_table.specs.Table.{table_of}
use Rattle.lane_table.proofs.LaneLaws.{length-lanes_in, lanes_in-rowed}
use Rattle.lane_table.proofs.lanes.Lanes.set.Goals as goal

pub index_mut-requires : goal.index_mut-requires
index_mut-requires c = let within = rw (← c.self.view_is, length-lanes_in _ _ c.self.invariant.same) at c.requires in omega arith

pub returns : goal.returns
returns c =
    let within = rw (← c.self.view_is, length-lanes_in _ _ c.self.invariant.same, ← c.from.ensures) at c.requires in
    rw (← c.self.view_is, ← c.from.ensures)
    (ap (table_of c.self.inside.replies.size) (lanes_in-rowed c.self.inside.slots.items c.self.inside.replies c.self.invariant c.from.result c.index_mut.result.now within c.index_mut.ensures.value c.args.row))
