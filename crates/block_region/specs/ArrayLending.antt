-- What an array of blocks ends as, once a `&mut` into a block has ended:
-- that block has the last bytes written.
use Rattle.std.specs.Prelude.{ℕ, List, [], length, slice_set, slice_index_or}
use Rattle.std.specs.Borrow.{Lends, MutBor, Fml, u8, Array}
use Rattle.std.specs.List.{refill}
use Rattle.block_region.specs.Region.{Blocks}
use Rattle.block_region.specs.contracts.block_array.BlockArray.{the_row}

-- the blocks with these bytes written over those of one block, whose length stays
abbrev pub with_block : Blocks → ℕ → List ℕ → Blocks
with_block b index bytes =
    let block = slice_index_or b.blocks index [] in
    record { size = b.size; blocks = slice_set b.blocks index (refill (length block) block bytes) }

abbrev pub LendsOfArray : MutBor Blocks → ℕ → MutBor (List ℕ) → Fml
LendsOfArray blocks index r = Lends the_row (Array u8 0) blocks r (with_block blocks.now index)
