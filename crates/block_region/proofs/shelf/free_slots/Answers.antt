use Rattle.std.proofs.Common.{◌≡◌, ◌∷◌, ◌++◌, [], false, refl, arith}
use Rattle.std.proofs.lemmas.List.{length-append}
use Rattle.block_region.specs.declared.shelf.Slot.{Slot}
use Rattle.block_region.proofs.BlockLaws.{free-push, sized-push}
use Rattle.block_region.proofs.shelf.free_slots.Goals as goal

pub loop-preserved : goal.loop-preserved
loop-preserved c =
    let slot : Slot = record { bytes = c.in_ok-bytes.bytes; out = false } in
    let items : c.push.new.self.items ≡ c.loop.slots.items ++ slot ∷ [] = rw (c.is_err.ensures.negation, c.if-is_err.false) at c.push.ensures.items in
    record {
      free = rw items (free-push c.loop.slots.items slot c.loop.counter c.loop.invariant.free refl);
      sized = rw items (sized-push c.args.size c.loop.slots.items slot c.loop.invariant.sized c.in_ok-bytes.ensures);
      count = rw items (simp length-append (omega arith));
    }
