-- A region as a caller sees it: where it lies, and for each class its blocks, each with its bytes while it is
-- out. A block is one of the region that lies where the block says.
use Rattle.std.specs.Prelude.{◌≡◌, ◌≢◌, ℕ, ◌+◌, ◌<◌, List, [], ◌∷◌, ◌++◌, Option, Some, None, IsSome, is_none}
use Rattle.std.specs.Prelude.{position, count_by, replicate, slice_index_or, slice_set, length, drop, map}
use Rattle.std.specs.Prelude.{unwrap_or, All}
use denote.RawPtr.{Ptr}

-- a block by its region's address, its class and its number there
pub record Place : Type 0 where
  pub home : Ptr
  pub class : ℕ
  pub index : ℕ

-- the blocks of a class, all of one size; the bytes of those that are out
pub record Shelf : Type 0 where
  pub size : ℕ
  pub blocks : List (Option (List ℕ))

abbrev pub shelf_of : ℕ → List (Option (List ℕ)) → Shelf
shelf_of size blocks = record { size = size; blocks = blocks }

-- a region by its address, and its classes
pub record Shelves : Type 0 where
  pub home : Ptr
  pub classes : List Shelf

-- a class of which every block is free
abbrev pub unused : ℕ → ℕ → Shelf
unused size count = shelf_of size (replicate count None)

abbrev pub no_shelf : Shelf
no_shelf = shelf_of 0 []

-- the class in the region
abbrev pub class_of : Shelves → ℕ → Shelf
class_of region class = slice_index_or region.classes class no_shelf

abbrev pub block_of : List (Option (List ℕ)) → ℕ → Option (List ℕ)
block_of blocks index = slice_index_or blocks index None

-- the bytes of a block that is out
abbrev pub bytes_at : Shelves → Place → Option (List ℕ)
bytes_at region place = block_of (class_of region place.class).blocks place.index

-- the block is one of this region's, and out
pub record IsOut (region : Shelves) (place : Place) : Type 0 where
  pub ours : place.home ≡ region.home
  pub out : IsSome (bytes_at region place)

-- the region with this content at one place, and the same elsewhere
abbrev pub with_content : Shelves → Place → Option (List ℕ) → Shelves
with_content region place content =
    let shelf = class_of region place.class in
    let changed = shelf_of shelf.size (slice_set shelf.blocks place.index content) in
    record { home = region.home; classes = slice_set region.classes place.class changed }

-- how many bytes a block of the class has
abbrev pub size_of_class : Shelves → ℕ → ℕ
size_of_class region class = (class_of region class).size

-- how many blocks of the class are free; none where there is no such class
abbrev pub free_blocks : Shelves → ℕ → ℕ
free_blocks region class = count_by is_none (class_of region class).blocks

-- the first free block of the class
abbrev pub first_free : Shelves → ℕ → Option ℕ
first_free region class = position is_none (class_of region class).blocks

-- the block was taken: it is this region's, was the first free one of its class, and has zeros now
pub record TakesBlock (old new : Shelves) (class : ℕ) (place : Place) : Type 0 where
  pub ours : place.home ≡ old.home
  pub in_class : place.class ≡ class
  pub free : first_free old class ≡ Some place.index
  pub zeros : new ≡ with_content old place (Some (replicate (class_of old class).size 0))

-- one block of the class more is free than before, and of each other class as many
pub record FreesOne (old new : Shelves) (class : ℕ) : Type 0 where
  pub here : free_blocks new class ≡ free_blocks old class + 1
  pub elsewhere : (other : ℕ) → other ≢ class → free_blocks new other ≡ free_blocks old other

-- bytes written over the first ones of a block; the others stay
abbrev pub written_over : List ℕ → List ℕ → List ℕ
written_over block bytes = bytes ++ drop (length bytes) block

abbrev pub zeros : ℕ → List ℕ
zeros size = replicate size 0

-- equal blocks, each with its bytes
pub record Blocks : Type 0 where
  pub size : ℕ
  pub blocks : List (List ℕ)

-- the bytes of a block
abbrev pub block_at : Blocks → ℕ → List ℕ
block_at b index = slice_index_or b.blocks index []

-- the same blocks with other bytes in one of them
abbrev pub with_bytes : Blocks → ℕ → List ℕ → Blocks
with_bytes b index bytes = record { size = b.size; blocks = slice_set b.blocks index bytes }

-- the blocks of a region's first class, while all of them are out
abbrev pub blocks_in : Shelves → Blocks
blocks_in region =
    let shelf = class_of region 0 in
    record { size = shelf.size; blocks = map (λ block. unwrap_or block []) shelf.blocks }

-- a region at this address, of one class with these blocks, all of them out
abbrev pub full : Ptr → Blocks → Shelves
full home b = record { home = home; classes = shelf_of b.size (map Some b.blocks) ∷ [] }

-- the first class's block of this number
abbrev pub place_in : Shelves → ℕ → Place
place_in region k = record { home = region.home; class = 0; index = k }

-- the region has one class, all of its blocks are out, and these are the rights to them, in order
pub record IsArray (region : Shelves) (places : List Place) : Type 0 where
  pub whole : region ≡ full region.home (blocks_in region)
  pub sized : All (λ bytes. length bytes ≡ (blocks_in region).size) (blocks_in region).blocks
  pub count : length places ≡ length (blocks_in region).blocks
  pub each : (k : ℕ) (d : Place) → k < length places → slice_index_or places k d ≡ place_in region k
