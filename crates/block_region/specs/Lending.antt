-- What a region ends as, once a `&mut` into a block has ended: that block has the last bytes written.
use Rattle.std.specs.Prelude.{ℕ, List, [], Option, Some, slice_set, length, unwrap_or}
use Rattle.std.specs.Borrow.{Lends, MutBor, Fml, u8, Array}
use Rattle.std.specs.List.{refill}
use Rattle.block_region.specs.Region.{Shelf, Shelves, Place, shelf_of, block_of, bytes_at, with_content}
use Rattle.block_region.specs.contracts.shelf.BlockShelf.{the_row as shelf_row}
use Rattle.block_region.specs.contracts.region.Region.{the_row as region_row}

-- bytes written over those of a block, whose length stays
abbrev pub rewritten : Option (List ℕ) → List ℕ → Option (List ℕ)
rewritten block bytes = Some (refill (length (unwrap_or block [])) (unwrap_or block []) bytes)

abbrev pub LendsOnShelf : MutBor Shelf → ℕ → MutBor (List ℕ) → Fml
LendsOnShelf shelf index r =
    Lends shelf_row (Array u8 0) shelf r
    (λ bytes.
    shelf_of shelf.now.size
    (slice_set shelf.now.blocks index (rewritten (block_of shelf.now.blocks index) bytes)))

abbrev pub LendsBlock : MutBor Shelves → Place → MutBor (List ℕ) → Fml
LendsBlock region place r =
    Lends region_row (Array u8 0) region r
    (λ bytes. with_content region.now place (rewritten (bytes_at region.now place) bytes))
