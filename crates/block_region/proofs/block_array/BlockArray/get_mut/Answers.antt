use Rattle.std.proofs.Common.{ap, length, ◌∙◌, refl}
use Rattle.block_region.specs.Region.{blocks_in}
use Rattle.block_region.specs.ArrayLending.{with_block}
use Rattle.block_region.proofs.ArrayLaws.{array-bytes, array-out, array-size, array-rewritten, array-stays, same-some, blocks_in-full}
use Rattle.block_region.proofs.block_array.BlockArray.get_mut.Goals as goal

pub bytes_mut-requires : goal.bytes_mut-requires
bytes_mut-requires c =
    let within = rw (← c.self.view_is) at c.requires in
    array-out c.self.inside.region c.self.inside.blocks.items c.self.invariant c.args.index within c.index.result.now c.index.ensures

pub invariant_of-self-lent : goal.invariant_of-self-lent
invariant_of-self-lent c w =
    let within = rw (← c.self.view_is) at c.requires in
    rw (array-rewritten c.self.inside.region c.self.inside.blocks.items c.self.invariant c.args.index within c.index.result.now w c.index.ensures)
    (array-stays c.self.inside.region c.self.inside.blocks.items c.self.invariant c.args.index within w)

pub returns : goal.returns
returns c =
    let region = c.self.inside.region in
    let within = rw (← c.self.view_is) at c.requires in
    let read = array-bytes region c.self.inside.blocks.items c.self.invariant c.args.index within c.index.result.now c.index.ensures in
    let value = same-some _ _ _ read c.bytes_mut.ensures.value in (
      (
        refl,
        λ w. rw (← c.self.view_is)
            (ap blocks_in (array-rewritten region c.self.inside.blocks.items c.self.invariant c.args.index within c.index.result.now w c.index.ensures)
            ∙ blocks_in-full region.home (with_block (blocks_in region) c.args.index w)),
      ),
      rw (← c.self.view_is) (record { writes_back = tt; value = value; size = ap length value ∙ array-size region c.self.inside.blocks.items c.self.invariant c.args.index within }),
    )
