-- What a change of one slot does to the blocks of a shelf.
use Rattle.std.proofs.Common.{replicate, ◌≡◌, ℕ, ◌+◌, ◌<◌, ◌≤◌, Bool, true, false, not, cond, List, [], ◌∷◌, ◌++◌, length, map, take, drop, get_or, Some, None, IsNone, IsSome, is_none, position, count_by, ltb, suc, zero, refl, sym, ap, ◌∙◌, arith}
use Rattle.std.specs.List.{prefix_len}
use Rattle.std.proofs.lemmas.List.{length-map, map-append, get_or-map, get_or_default}
use Rattle.std.proofs.lemmas.List.Elements.{All-append}
use Rattle.std.proofs.lemmas.List.Sums.{sum_by-cons, prefix_len-le-length}
use Rattle.std.proofs.lemmas.Bool.Decides.{nat_tests}
use Rattle.std.specs.Vec.{with_items}
use Rattle.block_region.specs.Region.{Shelf, Shelves, block_of, class_of, no_shelf}
use Rattle.block_region.specs.Lending.{rewritten}
use Rattle.block_region.specs.Slots.{content, content_if, HaveSize}
use Rattle.block_region.specs.declared.shelf.Slot.{Slot}

pub is_none-content : (slot : Slot) → is_none (content slot) ≡ not slot.out
is_none-content slot =
    elim slot.out as (λ out. is_none (content_if out slot.bytes.items) ≡ not out) [ true ↦ refl | false ↦ refl ]

prefix_len-content : (slots : List Slot) → prefix_len (λ x. not (is_none x)) (map content slots) ≡ prefix_len (λ slot. not (not slot.out)) slots
prefix_len-content [] = refl
prefix_len-content (slot ∷ slots) = rw (is_none-content slot, prefix_len-content slots)

pub position-content : (slots : List Slot) → position is_none (map content slots) ≡ position (λ slot. not slot.out) slots
position-content slots = rw (prefix_len-content slots) (simp length-map)

-- a slot that stands in its shelf has the shelf's size
pub size-of : (size : ℕ) (slots : List Slot) (i : ℕ) (slot : Slot) → HaveSize size slots → i < length slots → slot ≡ get_or slots i slot → length slot.bytes.items ≡ size
size-of size slots i slot sized lt e = ap (λ s. length s.bytes.items) e ∙ sized i slot lt

pub block-content : (slots : List Slot) (i : ℕ) (slot : Slot) → i < length slots → slot ≡ get_or slots i slot → block_of (map content slots) i ≡ content slot
block-content slots i slot lt e = get_or-map content slots i slot None lt ∙ sym (ap content e)

rewritten-if : (out : Bool) (len : ℕ) (items bytes : List ℕ) → len ≡ length items → IsSome (content_if out items) →
    content_if out (take len (bytes ++ drop (length bytes) items)) ≡ rewritten (content_if out items) bytes
rewritten-if true len items bytes e h = ap (λ n. Some (take n (bytes ++ drop (length bytes) items))) e
rewritten-if false len items bytes e h = absurd (cc h)

-- bytes written over a block that is out
pub content-rewritten : (slot : Slot) (bytes : List ℕ) → IsSome (content slot) →
    content (record { bytes = with_items slot.bytes bytes; out = slot.out }) ≡ rewritten (content slot) bytes
content-rewritten slot bytes h = rewritten-if slot.out slot.bytes.len slot.bytes.items bytes slot.bytes.ok.0 h

content-if-some : (out : Bool) (items : List ℕ) → IsSome (content_if out items) → content_if out items ≡ Some items
content-if-some true items h = refl
content-if-some false items h = absurd (cc h)

pub content-out : (slot : Slot) → IsSome (content slot) → content slot ≡ Some slot.bytes.items
content-out slot h = content-if-some slot.out slot.bytes.items h

pub out-bound : (slots : List Slot) (i : ℕ) → IsSome (block_of (map content slots) i) → i < length slots
out-bound [] i h = absurd (cc h)
out-bound (slot ∷ slots) zero h = omega arith
out-bound (slot ∷ slots) (suc i) h = omega (arith, out-bound slots i h)

-- no element passes where none is counted, and the other way round
uncounted-length : {X : Type 0} (p : X → Bool) (xs : List X) → count_by p xs ≡ 0 → prefix_len (λ x. not (p x)) xs ≡ length xs
uncounted-length p [] e = refl
uncounted-length p (x ∷ xs) e =
    let rest = uncounted-length p xs in
    elim (p x) as (λ b. cond b 1 0 + count_by p xs ≡ 0 → cond (not b) (1 + prefix_len (λ y. not (p y)) xs) 0 ≡ suc (length xs)) [
      | true ↦ λ h. absurd (omega arith)
      | false ↦ λ h. omega (arith, rest (omega arith))
    ] (sym (sum_by-cons (λ y. cond (p y) 1 0) x xs) ∙ e)

length-uncounted : {X : Type 0} (p : X → Bool) (xs : List X) → prefix_len (λ x. not (p x)) xs ≡ length xs → count_by p xs ≡ 0
length-uncounted p [] e = refl
length-uncounted p (x ∷ xs) e =
    let rest = length-uncounted p xs in
    sum_by-cons (λ y. cond (p y) 1 0) x xs ∙
    elim (p x) as (λ b. cond (not b) (1 + prefix_len (λ y. not (p y)) xs) 0 ≡ suc (length xs) → cond b 1 0 + count_by p xs ≡ 0) [
      | true ↦ λ h. absurd (omega arith)
      | false ↦ λ h. omega (arith, rest (omega arith))
    ] e

none-below : (k n : ℕ) → IsNone (cond (ltb k n) (Some k) None) → n ≤ k
none-below k n h = grind (arith, nat_tests, h)

below-none : (k n : ℕ) → n ≤ k → IsNone (cond (ltb k n) (Some k) None)
below-none k n h = grind (arith, nat_tests, h)

pub position-none : {X : Type 0} (p : X → Bool) (xs : List X) → IsNone (position p xs) → count_by p xs ≡ 0
position-none p xs h =
    let le = none-below _ _ h in
    length-uncounted p xs (omega (arith, prefix_len-le-length (λ x. not (p x)) xs))

pub none-position : {X : Type 0} (p : X → Bool) (xs : List X) → count_by p xs ≡ 0 → IsNone (position p xs)
none-position p xs e = below-none _ _ (omega (arith, uncounted-length p xs e))

-- a class that stands in the region, whichever way it was read
pub class-at : (region : Shelves) (class i : ℕ) (shelf : Shelf) → i ≡ class → class < length region.classes → shelf ≡ get_or region.classes i shelf → class_of region class ≡ shelf
class-at region class i shelf same lt e = get_or_default region.classes class no_shelf shelf lt ∙ sym (rw same at e)

replicate-last : {X : Type 0} (n : ℕ) (x : X) → replicate n x ++ x ∷ [] ≡ replicate (suc n) x
replicate-last zero x = refl
replicate-last (suc n) x = ap (λ xs. x ∷ xs) (replicate-last n x)

-- one more free block behind free ones
pub free-push : (slots : List Slot) (slot : Slot) (n : ℕ) → map content slots ≡ replicate n None → content slot ≡ None → map content (slots ++ slot ∷ []) ≡ replicate (n + 1) None
free-push slots slot n all none =
    let more : suc n ≡ n + 1 = omega arith in
    map-append content slots (slot ∷ []) ∙ (ap (λ blocks. blocks ++ content slot ∷ []) all ∙ (ap (λ block. replicate n None ++ block ∷ []) none ∙ (replicate-last n None ∙ ap (λ k. replicate k None) more)))

sized-one : (size : ℕ) (slot : Slot) → length slot.bytes.items ≡ size → HaveSize size (slot ∷ [])
sized-one size slot here zero d h = here
sized-one size slot here (suc k) d h = absurd (omega arith)

pub sized-push : (size : ℕ) (slots : List Slot) (slot : Slot) → HaveSize size slots → length slot.bytes.items ≡ size → HaveSize size (slots ++ slot ∷ [])
sized-push size slots slot all here = All-append (λ s. length s.bytes.items ≡ size) slots (slot ∷ []) all (sized-one size slot here)
