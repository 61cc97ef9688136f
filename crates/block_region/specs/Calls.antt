-- Lists of calls of a region, and what they leave.
use Rattle.std.specs.Prelude.{◌≡◌, ℕ, ◌+◌, ◌==◌, ◌&&◌, Bool, false, if◌then◌else◌, List, [], ◌∷◌, Option}
use Rattle.std.specs.Prelude.{Some, None}
use Rattle.std.specs.Prelude.{length, is_some, replicate, count_by, map}
use Rattle.block_region.specs.Region.{Place, Shelf, Shelves, class_of, bytes_at, with_content, first_free}
use Rattle.block_region.specs.Region.{free_blocks}

-- a block is taken from a class, is given back, or gets other bytes
pub data Call : Type 0 where
  Takes : ℕ → Call
  Gives : Place → Call
  Writes : Place → List ℕ → Call

-- the first free block of the class, if there is one, is out with zeros
abbrev pub with_taken : Shelves → ℕ → Option ℕ → Shelves
with_taken region class None = region
with_taken region class (Some index) =
    let place : Place = record { home = region.home; class = class; index = index } in
    with_content region place (Some (replicate (class_of region class).size 0))

abbrev pub called : Shelves → Call → Shelves
called region (Takes class) = with_taken region class (first_free region class)
called region (Gives place) = with_content region place None
called region (Writes place bytes) = with_content region place (Some bytes)

-- the region after the calls, the first of them first
abbrev pub after : Shelves → List Call → Shelves
after region [] = region
after region (call ∷ calls) = after (called region call) calls

-- whether two places of one region are the same
abbrev pub is_at : Place → Place → Bool
is_at place other = (place.class == other.class) && (place.index == other.index)

-- none of the calls gives the block back
abbrev pub Keeps : Place → List Call → Type 0
Keeps place [] = Unit {0}
Keeps place (Takes class ∷ calls) = Keeps place calls
Keeps place (Gives other ∷ calls) = (is_at place other ≡ false) × Keeps place calls
Keeps place (Writes other bytes ∷ calls) = Keeps place calls

-- the last bytes that the calls write to the block, or else these
abbrev pub last_written : Place → List ℕ → List Call → List ℕ
last_written place bytes [] = bytes
last_written place bytes (Takes class ∷ calls) = last_written place bytes calls
last_written place bytes (Gives other ∷ calls) = last_written place bytes calls
last_written place bytes (Writes other new ∷ calls) =
    last_written place (if is_at place other then new else bytes) calls

-- from its taking until it is given back a block holds the last bytes written to it, whatever else is taken,
-- given back or written
abbrev pub BlocksLieApart : Type 0
BlocksLieApart =
    (region : Shelves) (calls : List Call) (place : Place) (bytes : List ℕ) →
    bytes_at region place ≡ Some bytes → Keeps place calls →
    bytes_at (after region calls) place ≡ Some (last_written place bytes calls)

-- how many blocks of the class are out
abbrev pub blocks_out : Shelves → ℕ → ℕ
blocks_out region class = count_by is_some (class_of region class).blocks

-- after every list of calls the region lies where it lay, and each class has as many blocks of the same size,
-- each of them out or free
pub record KeepsItsClasses (region : Shelves) (calls : List Call) : Type 0 where
  pub home : (after region calls).home ≡ region.home
  pub sizes : map (λ (s : Shelf). s.size) (after region calls).classes
      ≡ map (λ (s : Shelf). s.size) region.classes
  pub counts : map (λ (s : Shelf). length s.blocks) (after region calls).classes
      ≡ map (λ (s : Shelf). length s.blocks) region.classes
  pub each : (class : ℕ) →
      free_blocks (after region calls) class + blocks_out (after region calls) class
      ≡ length (class_of region class).blocks

abbrev pub ClassesStay : Type 0
ClassesStay = (region : Shelves) (calls : List Call) → KeepsItsClasses region calls
