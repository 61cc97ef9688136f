use Rattle.std.proofs.lemmas.List.{map-set}
use Rattle.std.proofs.Common.{refl, sym, ap, ◌∙◌, IsSome, Some, length}
use Rattle.block_region.specs.Slots.{content}
use Rattle.block_region.proofs.BlockLaws.{content-rewritten, block-content, content-out, out-bound, size-of}
use Rattle.block_region.proofs.shelf.BlockShelf.bytes_mut.Goals as goal

pub returns : goal.returns
returns c =
    let asked = rw (← c.self.view_is) at c.requires in
    let at = block-content c.self.inside.slots.items c.args.index c.index_mut-slot.result.now (out-bound _ _ asked) c.index_mut-slot.ensures.value in
    let out : IsSome (content c.index_mut-slot.result.now) = rw (← at) asked in (
      (refl, λ w. rw (← c.self.view_is) (simp map-set (rw (at, content-rewritten c.index_mut-slot.result.now w out)))),
      record {
        writes_back = tt;
        value = rw (← c.self.view_is) (at ∙ (content-out c.index_mut-slot.result.now out ∙ ap Some (sym c.as_mut_slice.ensures.value)));
        size = rw (← c.self.view_is) (ap length c.as_mut_slice.ensures.value
            ∙ size-of c.self.inside.size c.self.inside.slots.items c.args.index c.index_mut-slot.result.now c.self.invariant.0 (out-bound _ _ asked) c.index_mut-slot.ensures.value);
      },
    )
