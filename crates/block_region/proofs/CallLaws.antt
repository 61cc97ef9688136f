-- What lists of calls leave of a region.
use Rattle.std.proofs.Common.{◌≡◌, ◌≢◌, ℕ, ◌+◌, ◌<◌, ◌==◌, ◌&&◌, Bool, true, false, cond, List, [], ◌∷◌, length, map, get_or, set, Option, Some, None, is_none, count_by, replicate, refl, sym, ap, ◌∙◌, arith, suc, zero}
use Rattle.std.specs.Prelude.{is_some}
use Rattle.std.proofs.lemmas.List.{get_or-set_same, get_or-set_other, map-set, length-set}
use Rattle.std.proofs.lemmas.List.Quantifiers.{position-Some}
use Rattle.std.proofs.lemmas.List.Sums.{sum_by-cons}
use Rattle.std.proofs.lemmas.Bool.{eqb-true, eqb-false}
use Rattle.block_region.specs.Region.{Place, Shelf, Shelves, shelf_of, no_shelf, class_of, block_of, bytes_at, with_content, first_free}
use Rattle.block_region.specs.Calls.{Call, Takes, Gives, Writes, with_taken, called, after, is_at, BlocksLieApart, ClassesStay}

-- ---- one block

-- a block that is out stands in its class, and that in the region
class-there : (classes : List Shelf) (class index : ℕ) (bytes : List ℕ) → block_of (get_or classes class no_shelf).blocks index ≡ Some bytes → class < length classes
class-there [] class index bytes e = absurd (cc e)
class-there (s ∷ classes) zero index bytes e = omega arith
class-there (s ∷ classes) (suc class) index bytes e = omega (arith, class-there classes class index bytes e)

block-there : (blocks : List (Option (List ℕ))) (index : ℕ) (bytes : List ℕ) → block_of blocks index ≡ Some bytes → index < length blocks
block-there [] index bytes e = absurd (cc e)
block-there (b ∷ blocks) zero bytes e = omega arith
block-there (b ∷ blocks) (suc index) bytes e = omega (arith, block-there blocks index bytes e)

-- at the place itself
content-here : (region : Shelves) (place : Place) (content : Option (List ℕ)) → place.class < length region.classes → place.index < length (class_of region place.class).blocks →
    bytes_at (with_content region place content) place ≡ content
content-here region place content in_region in_class =
    let shelf : Shelf = class_of region place.class in
    let changed : Shelf = shelf_of shelf.size (set shelf.blocks place.index content) in
    ap (λ (s : Shelf). block_of s.blocks place.index) (get_or-set_same region.classes place.class changed no_shelf in_region)
    ∙ get_or-set_same shelf.blocks place.index content None in_class

-- at another class, or at another number
content-class : (region : Shelves) (other place : Place) (content : Option (List ℕ)) → place.class ≢ other.class →
    bytes_at (with_content region other content) place ≡ bytes_at region place
content-class region other place content apart =
    let shelf : Shelf = class_of region other.class in
    ap (λ (s : Shelf). block_of s.blocks place.index)
    (get_or-set_other region.classes other.class place.class (shelf_of shelf.size (set shelf.blocks other.index content)) no_shelf apart)

content-index : (region : Shelves) (other place : Place) (content : Option (List ℕ)) → place.class < length region.classes → place.class ≡ other.class → place.index ≢ other.index →
    bytes_at (with_content region other content) place ≡ bytes_at region place
content-index region other place content there same apart =
    let shelf : Shelf = class_of region place.class in
    let changed : Shelf = shelf_of shelf.size (set shelf.blocks other.index content) in
    rw (← same)
    (ap (λ (s : Shelf). block_of s.blocks place.index) (get_or-set_same region.classes place.class changed no_shelf there)
    ∙ get_or-set_other shelf.blocks other.index place.index content None apart)

-- what a change leaves at a place that is out
changed-at : (region : Shelves) (other place : Place) (content : Option (List ℕ)) (bytes : List ℕ) → bytes_at region place ≡ Some bytes →
    bytes_at (with_content region other content) place ≡ cond (is_at place other) content (Some bytes)
changed-at region other place content bytes out = by_class (place.class == other.class) refl
  where
    there : place.class < length region.classes
    there = class-there region.classes place.class place.index bytes out

    by_index : (b : Bool) → place.class ≡ other.class → (place.index == other.index) ≡ b →
        bytes_at (with_content region other content) place ≡ cond b content (Some bytes)
    by_index true same e =
        let at : place ≡ place = refl in
        let number : other.index ≡ place.index = sym (eqb-true place.index other.index e) in
        rw (← same, number)
        (content-here region place content there (block-there (class_of region place.class).blocks place.index bytes out))
    by_index false same e = content-index region other place content there same (eqb-false place.index other.index e) ∙ out

    by_class : (b : Bool) → (place.class == other.class) ≡ b → bytes_at (with_content region other content) place ≡ cond (b && (place.index == other.index)) content (Some bytes)
    by_class true e = by_index (place.index == other.index) (eqb-true place.class other.class e) refl
    by_class false e = content-class region other place content (eqb-false place.class other.class e) ∙ out

-- what is taken wasn't out
taken-apart : (region : Shelves) (class : ℕ) (place : Place) (bytes : List ℕ) (o : Option ℕ) → first_free region class ≡ o → bytes_at region place ≡ Some bytes →
    bytes_at (with_taken region class o) place ≡ Some bytes
taken-apart region class place bytes None e out = out
taken-apart region class place bytes (Some index) e out =
    let at : Place = record { home = region.home; class = class; index = index } in
    changed-at region at place (Some (replicate (class_of region class).size 0)) bytes out
    ∙ ap (λ b. cond b (Some (replicate (class_of region class).size 0)) (Some bytes)) (other (is_at place at) refl)
  where
    free : is_none (get_or (class_of region class).blocks index None) ≡ true
    free = (position-Some is_none (class_of region class).blocks index None e).1

    clash : place.class ≡ class → place.index ≡ index → ⊥
    clash f g = let one = rw (f, g) at out in let two = rw one at free in cc

    both : (c d : Bool) → (c && d) ≡ true → (c ≡ true) × (d ≡ true)
    both true true h = (refl, refl)
    both true false h = cc
    both false d h = cc

    other : (b : Bool) → ((place.class == class) && (place.index == index)) ≡ b → b ≡ false
    other true h =
        let (f, g) = both (place.class == class) (place.index == index) h in
        absurd (clash (eqb-true place.class class f) (eqb-true place.index index g))
    other false h = refl

pub blocks_lie_apart : BlocksLieApart
blocks_lie_apart region [] place bytes out keeps = out
blocks_lie_apart region (Takes class ∷ calls) place bytes out keeps =
    blocks_lie_apart (called region (Takes class)) calls place bytes (taken-apart region class place bytes (first_free region class) refl out) keeps
blocks_lie_apart region (Gives other ∷ calls) place bytes out keeps =
    blocks_lie_apart (called region (Gives other)) calls place bytes
    (changed-at region other place None bytes out ∙ ap (λ b. cond b None (Some bytes)) keeps.0) keeps.1
blocks_lie_apart region (Writes other new ∷ calls) place bytes out keeps =
    blocks_lie_apart (called region (Writes other new)) calls place (cond (is_at place other) new bytes)
    (changed-at region other place (Some new) bytes out ∙ some-if (is_at place other)) keeps
  where
    some-if : (b : Bool) → cond b (Some new) (Some bytes) ≡ Some (cond b new bytes)
    some-if true = refl
    some-if false = refl

-- ---- all classes

free-or-out : (blocks : List (Option (List ℕ))) → count_by is_none blocks + count_by is_some blocks ≡ length blocks
free-or-out [] = refl
free-or-out (None ∷ blocks) = omega (arith, free-or-out blocks, sum_by-cons (λ (x : Option (List ℕ)). cond (is_none x) 1 0) None blocks, sum_by-cons (λ (x : Option (List ℕ)). cond (is_some x) 1 0) None blocks)
free-or-out (Some b ∷ blocks) = omega (arith, free-or-out blocks, sum_by-cons (λ (x : Option (List ℕ)). cond (is_none x) 1 0) (Some b) blocks, sum_by-cons (λ (x : Option (List ℕ)). cond (is_some x) 1 0) (Some b) blocks)

-- setting an element to itself changes nothing
set-same : {X : Type 0} (xs : List X) (i : ℕ) (x d : X) → (i < length xs → x ≡ get_or xs i d) → set xs i x ≡ xs
set-same [] i x d e = refl
set-same (y ∷ xs) zero x d e = ap (λ z. z ∷ xs) (e (omega arith))
set-same (y ∷ xs) (suc i) x d e = ap (λ zs. y ∷ zs) (set-same xs i x d (λ h. e (omega arith)))

-- a measure of a class that no content of its blocks changes stays at each class
measure-stays : (f : Shelf → ℕ) → ((s : Shelf) (i : ℕ) (content : Option (List ℕ)) → f (shelf_of s.size (set s.blocks i content)) ≡ f s) →
    (region : Shelves) (place : Place) (content : Option (List ℕ)) → map f (with_content region place content).classes ≡ map f region.classes
measure-stays f stays region place content =
    let s : Shelf = class_of region place.class in
    map-set f region.classes place.class (shelf_of s.size (set s.blocks place.index content))
    ∙ set-same (map f region.classes) place.class (f (shelf_of s.size (set s.blocks place.index content))) (f no_shelf)
    (λ h. stays s place.index content ∙ sym (get_or-map_default f region.classes place.class))
  where
    get_or-map_default : (g : Shelf → ℕ) (xs : List Shelf) (i : ℕ) → get_or (map g xs) i (g no_shelf) ≡ g (get_or xs i no_shelf)
    get_or-map_default g [] i = refl
    get_or-map_default g (x ∷ xs) zero = refl
    get_or-map_default g (x ∷ xs) (suc i) = get_or-map_default g xs i

call-stays : (f : Shelf → ℕ) → ((s : Shelf) (i : ℕ) (content : Option (List ℕ)) → f (shelf_of s.size (set s.blocks i content)) ≡ f s) →
    (region : Shelves) (call : Call) → map f (called region call).classes ≡ map f region.classes
call-stays f stays region (Takes class) = by_free (first_free region class)
  where
    by_free : (o : Option ℕ) → map f (with_taken region class o).classes ≡ map f region.classes
    by_free None = refl
    by_free (Some index) = measure-stays f stays region (record { home = region.home; class = class; index = index }) (Some (replicate (class_of region class).size 0))
call-stays f stays region (Gives place) = measure-stays f stays region place None
call-stays f stays region (Writes place bytes) = measure-stays f stays region place (Some bytes)

calls-stay : (f : Shelf → ℕ) → ((s : Shelf) (i : ℕ) (content : Option (List ℕ)) → f (shelf_of s.size (set s.blocks i content)) ≡ f s) →
    (region : Shelves) (calls : List Call) → map f (after region calls).classes ≡ map f region.classes
calls-stay f stays region [] = refl
calls-stay f stays region (call ∷ calls) = calls-stay f stays (called region call) calls ∙ call-stays f stays region call

home-taken : (region : Shelves) (class : ℕ) (o : Option ℕ) → (with_taken region class o).home ≡ region.home
home-taken region class None = refl
home-taken region class (Some index) = refl

home-stays : (region : Shelves) (calls : List Call) → (after region calls).home ≡ region.home
home-stays region [] = refl
home-stays region (Takes class ∷ calls) = home-stays (called region (Takes class)) calls ∙ home-taken region class (first_free region class)
home-stays region (Gives place ∷ calls) = home-stays (called region (Gives place)) calls
home-stays region (Writes place bytes ∷ calls) = home-stays (called region (Writes place bytes)) calls

count-at : (xs : List Shelf) (i : ℕ) → get_or (map (λ (s : Shelf). length s.blocks) xs) i 0 ≡ length (get_or xs i no_shelf).blocks
count-at [] i = refl
count-at (x ∷ xs) zero = refl
count-at (x ∷ xs) (suc i) = count-at xs i

pub classes_stay : ClassesStay
classes_stay region calls =
    let count : Shelf → ℕ = λ s. length s.blocks in
    let counts = calls-stay count (λ s i content. length-set s.blocks i content) region calls in
    record {
      home = home-stays region calls;
      sizes = calls-stay (λ (s : Shelf). s.size) (λ s i content. refl) region calls;
      counts = counts;
      each = λ class.
          free-or-out (class_of (after region calls) class).blocks
          ∙ sym (count-at (after region calls).classes class) ∙ ap (λ (ns : List ℕ). get_or ns class 0) counts ∙ count-at region.classes class;
    }
