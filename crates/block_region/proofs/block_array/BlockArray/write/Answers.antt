use Rattle.std.proofs.Common.{ap, ◌∙◌, length, get_or, drop, ◌++◌, [], ◌≡◌, List, ℕ}
use Rattle.block_region.specs.Region.{with_bytes}
use Rattle.block_region.proofs.ArrayLaws.{refill-whole}
use Rattle.block_region.proofs.block_array.BlockArray.write.Goals as goal

pub returns : goal.returns
returns c =
    let old = c.get_mut.ensures.value in
    let kept : length c.write_front.new.block ≡ length c.get_mut.result.now = c.write_front.auto.block in
    let same = c.write_front.ensures ∙ ap (λ (b : List ℕ). c.args.bytes.now ++ drop (length c.args.bytes.now) b) old in
    ap (with_bytes c.args.self.now c.args.index) (refill-whole (get_or c.args.self.now.blocks c.args.index []) c.write_front.new.block (kept ∙ ap length old) ∙ same)
