use Rattle.std.proofs.Common.{◌∙◌, ap, List, replicate}
use Rattle.block_region.specs.Region.{Blocks, zeros}
use Rattle.lane_table.specs.declared.slot.Slot.{Slot}
use Rattle.lane_table.specs.Table.{table_of}
use Rattle.lane_table.specs.Slots.{lanes_in}
use Rattle.lane_table.proofs.LaneLaws.{lanes_in-idle}
use Rattle.lane_table.proofs.lanes.Lanes.open.Goals as goal

pub returns-in-Ok : goal.returns-in-Ok
returns-in-Ok c =
    let items = rw c.from-2.ensures at (c.in-Ok.ensures.items_if_clones_equal (λ y e. e)) in
    let blocks = rw c.from.ensures at c.in_ok-replies.ensures in
    ap (λ (b : Blocks). table_of b.size (lanes_in c.in-Ok.slots.items b.blocks)) blocks
    ∙ ap (λ (slots : List Slot). table_of c.args.kept (lanes_in slots (replicate c.args.lanes (zeros c.args.kept)))) items
    ∙ ap (table_of c.args.kept) (lanes_in-idle c.args.lanes c.args.kept)
