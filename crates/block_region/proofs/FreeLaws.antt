-- How many blocks of a class are free, where one of them is taken.
use Rattle.std.proofs.Common.{◌≡◌, ℕ, ◌+◌, ◌<◌, List, Option, Some, None, is_none, position, count_by, cond, length, set, sym, ap, arith}
use Rattle.std.proofs.lemmas.List.{get_or-set_same, get_or-set_other}
use Rattle.std.proofs.lemmas.List.Quantifiers.{position-Some}
use Rattle.std.proofs.lemmas.List.Sums.{sum_by-set}
use Rattle.block_region.specs.Region.{Shelf, Shelves, class_of, no_shelf, FreesOne}

one-less : (blocks : List (Option (List ℕ))) (i : ℕ) (bytes : List ℕ) → position is_none blocks ≡ Some i →
    count_by is_none blocks ≡ count_by is_none (set blocks i (Some bytes)) + 1
one-less blocks i bytes first =
    let found = position-Some is_none blocks i None first in
    let one : Option (List ℕ) → ℕ = λ x. cond (is_none x) 1 0 in
    omega (arith, sum_by-set one blocks i (Some bytes) None found.0, ap {B = ℕ} (λ b. cond b 1 0) found.1)

-- the first free block of a class was taken
pub taken-free : (region : Shelves) (class i : ℕ) (shelf new : Shelf) (bytes : List ℕ) → class < length region.classes → class_of region class ≡ shelf →
    position is_none shelf.blocks ≡ Some i → new.blocks ≡ set shelf.blocks i (Some bytes) → FreesOne (record { home = region.home; classes = set region.classes class new }) region class
taken-free region class i shelf new bytes there is first now = record {
  here = rw (is, get_or-set_same region.classes class new no_shelf there, now) (one-less shelf.blocks i bytes first);
  elsewhere = λ other apart. sym (ap (λ (s : Shelf). count_by is_none s.blocks) (get_or-set_other region.classes class other new no_shelf apart));
}
