use Rattle.std.proofs.Common.{ap, ◌∙◌, length}
use Rattle.block_region.proofs.ArrayLaws.{array-bytes, array-out, array-size, same-some}
use Rattle.block_region.proofs.block_array.BlockArray.get.Goals as goal

pub bytes-requires : goal.bytes-requires
bytes-requires c =
    let within = rw (← c.self.view_is) at c.requires in
    array-out c.self.inside.region c.self.inside.blocks.items c.self.invariant c.args.index within c.index.result.now c.index.ensures

pub returns : goal.returns
returns c =
    let within = rw (← c.self.view_is) at c.requires in
    let read = array-bytes c.self.inside.region c.self.inside.blocks.items c.self.invariant c.args.index within c.index.result.now c.index.ensures in
    let value = same-some _ _ _ read c.bytes.ensures.value in
    rw (← c.self.view_is) (record { value = value; size = ap length value ∙ array-size c.self.inside.region c.self.inside.blocks.items c.self.invariant c.args.index within })
