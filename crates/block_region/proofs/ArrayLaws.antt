-- A region of one class whose blocks are all out, as an array of blocks.
use Rattle.std.proofs.Common.{◌≡◌, ℕ, ◌+◌, ◌-◌, ◌<◌, IsSome, Bool, true, false, not, cond, List, [], ◌∷◌, ◌++◌, length, map, drop, get_or, set, replicate, Option, Some, None, is_none, unwrap_or, position, count_by, suc, zero, refl, sym, ap, ◌∙◌, subst, arith, append-nil, length-append, below_more}
use Rattle.std.specs.List.{refill, length_refill, prefix_len}
use Rattle.std.proofs.Math.ListN.{length-set}
use Rattle.std.proofs.Math.Seq.{take-append_seam}
use Rattle.std.proofs.lemmas.List.{map-set, get_or-map, length-replicate, get_or_push, get_or_append_left}
use Rattle.std.proofs.lemmas.List.Elements.{All-set, All-replicate}
use Rattle.std.proofs.lemmas.List.Sums.{sum_by-append}
use Rattle.std.proofs.lemmas.List.Folds.{sum_by-replicate}
use Rattle.block_region.specs.Region.{Shelves, Place, Blocks, shelf_of, full, blocks_in, bytes_at, with_content, zeros, free_blocks, IsOut, TakesBlock, IsArray}
use Rattle.std.specs.Prelude.{All}
use denote.RawPtr.{Ptr}
use Rattle.block_region.specs.ArrayLending.{with_block}
use Rattle.block_region.specs.Lending.{rewritten}

contents-some : (xs : List (List ℕ)) → map (λ block. unwrap_or block []) (map Some xs) ≡ xs
contents-some [] = refl
contents-some (x ∷ xs) = ap (λ ys. x ∷ ys) (contents-some xs)

abbrev pub blocks : ℕ → List (List ℕ) → Blocks
blocks size xs = record { size = size; blocks = xs }

pub blocks_in-full : (home : Ptr) (b : Blocks) → blocks_in (full home b) ≡ b
blocks_in-full home b = ap (blocks b.size) (contents-some b.blocks)

abbrev pub place_at : Ptr → ℕ → Place
place_at home k = record { home = home; class = 0; index = k }

bytes_at-full : (home : Ptr) (b : Blocks) (k : ℕ) → k < length b.blocks → bytes_at (full home b) (place_at home k) ≡ Some (get_or b.blocks k [])
bytes_at-full home b k lt = get_or-map Some b.blocks k [] None lt

with_content-full : (home : Ptr) (b : Blocks) (k : ℕ) (bytes : List ℕ) → with_content (full home b) (place_at home k) (Some bytes) ≡ full home (blocks b.size (set b.blocks k bytes))
with_content-full home b k bytes = ap (λ xs. let r : Shelves = record { home = home; classes = shelf_of b.size xs ∷ [] } in r) (sym (map-set Some b.blocks k bytes))

pub same-some : (o : Option (List ℕ)) (x y : List ℕ) → o ≡ Some x → o ≡ Some y → y ≡ x
same-some o x y e f = cc

-- the right to a block
place-of : (home : Ptr) (places : List Place) (k : ℕ) (place : Place) → ((k : ℕ) (d : Place) → k < length places → get_or places k d ≡ place_at home k) → k < length places →
    place ≡ get_or places k place → place ≡ place_at home k
place-of home places k place each lt e = e ∙ each k place lt

full-bytes : (b : Blocks) (region : Shelves) (k : ℕ) (place : Place) → region ≡ full region.home b → place ≡ place_at region.home k → k < length b.blocks → bytes_at region place ≡ Some (get_or b.blocks k [])
full-bytes b region k place whole at lt =
    ap (bytes_at region) at ∙ ap (λ r. bytes_at r (place_at region.home k)) whole ∙ bytes_at-full region.home b k lt

full-rewritten : (b : Blocks) (region : Shelves) (k : ℕ) (place : Place) (bytes : List ℕ) → region ≡ full region.home b → place ≡ place_at region.home k → k < length b.blocks →
    with_content region place (rewritten (bytes_at region place) bytes) ≡ full region.home (with_block b k bytes)
full-rewritten b region k place bytes whole at lt =
    let written : Option (List ℕ) = rewritten (Some (get_or b.blocks k [])) bytes in
    ap (λ content. with_content region place (rewritten content bytes)) (full-bytes b region k place whole at lt)
    ∙ ap (λ p. with_content region p written) at
    ∙ ap (λ r. with_content r (place_at region.home k) written) whole
    ∙ with_content-full region.home b k (refill (length (get_or b.blocks k [])) (get_or b.blocks k []) bytes)

full-array : (home : Ptr) (b : Blocks) (places : List Place) → All (λ bytes. length bytes ≡ b.size) b.blocks →
    length places ≡ length b.blocks → ((k : ℕ) (d : Place) → k < length places → get_or places k d ≡ place_at home k) → IsArray (full home b) places
full-array home b places sized count each =
    let back = sym (blocks_in-full home b) in
    let Sized : Blocks → Type 0 = λ x. All (λ bytes. length bytes ≡ x.size) x.blocks in
    record { whole = ap (full home) back; sized = subst Sized back sized; count = count ∙ ap (λ x. length x.blocks) back; each = each }

sized-written : (b : Blocks) (k : ℕ) (bytes : List ℕ) → All (λ x. length x ≡ b.size) b.blocks → k < length b.blocks →
    All (λ x. length x ≡ b.size) (with_block b k bytes).blocks
sized-written b k bytes sized lt =
    let old = get_or b.blocks k [] in
    let kept : length (refill (length old) old bytes) ≡ b.size = sym (length_refill (length old) old bytes refl) ∙ sized k [] lt in
    All-set (λ x. length x ≡ b.size) b.blocks k (refill (length old) old bytes) kept sized

module _ (region : Shelves) (places : List Place) (array : IsArray region places) (k : ℕ) (within : k < length (blocks_in region).blocks) where
  at : (place : Place) → place ≡ get_or places k place → place ≡ place_at region.home k
  at place e = place-of region.home places k place array.each (omega (arith, array.count)) e

  pub array-bytes : (place : Place) → place ≡ get_or places k place → bytes_at region place ≡ Some (get_or (blocks_in region).blocks k [])
  array-bytes place e = full-bytes (blocks_in region) region k place array.whole (at place e) within

  some-is : (o : Option (List ℕ)) (x : List ℕ) → o ≡ Some x → IsSome o
  some-is o x e = rw e

  pub array-out : (place : Place) → place ≡ get_or places k place → IsOut region place
  array-out place e = record {
    ours = ap (λ (p : Place). p.home) (at place e);
    out = some-is _ _ (array-bytes place e);
  }

  pub array-size : length (get_or (blocks_in region).blocks k []) ≡ (blocks_in region).size
  array-size = array.sized k [] within

  -- what is written over a block
  pub array-rewritten : (place : Place) (bytes : List ℕ) → place ≡ get_or places k place →
      with_content region place (rewritten (bytes_at region place) bytes) ≡ full region.home (with_block (blocks_in region) k bytes)
  array-rewritten place bytes e = full-rewritten (blocks_in region) region k place bytes array.whole (at place e) within

  pub array-stays : (bytes : List ℕ) → IsArray (full region.home (with_block (blocks_in region) k bytes)) places
  array-stays bytes =
      full-array region.home (with_block (blocks_in region) k bytes) places (sized-written (blocks_in region) k bytes array.sized within)
      (array.count ∙ sym (length-set (blocks_in region).blocks k _)) array.each

-- a class of which the first i of n blocks were taken
abbrev pub taken : ℕ → ℕ → ℕ → List (Option (List ℕ))
taken size i n = replicate i (Some (zeros size)) ++ replicate (n - i) None

-- a region of this class alone
abbrev pub taken_in : Ptr → ℕ → ℕ → ℕ → Shelves
taken_in home size i n = record { home = home; classes = shelf_of size (taken size i n) ∷ [] }

pub free-taken : (size i n : ℕ) → count_by is_none (taken size i n) ≡ n - i
free-taken size i n =
    let one : Option (List ℕ) → ℕ = λ x. cond (is_none x) 1 0 in
    sum_by-append one (replicate i (Some (zeros size))) (replicate (n - i) None)
    ∙ omega (arith, sum_by-replicate one i (Some (zeros size)), sum_by-replicate one (n - i) None)

prefix-taken : (i m : ℕ) (x : List ℕ) → prefix_len (λ y. not (is_none y)) (replicate i (Some x) ++ replicate (suc m) None) ≡ i
prefix-taken zero m x = refl
prefix-taken (suc i) m x = omega (arith, prefix-taken i m x)

set-taken : (i m : ℕ) (x : List ℕ) → set (replicate i (Some x) ++ replicate (suc m) None) i (Some x) ≡ replicate (suc i) (Some x) ++ replicate m None
set-taken zero m x = refl
set-taken (suc i) m x = ap (λ ys. Some x ∷ ys) (set-taken i m x)

found : (b : Bool) (i j : ℕ) → cond b (Some i) None ≡ Some j → j ≡ i
found true i j e = cc
found false i j e = absurd (cc e)

pub next-taken : (size i n j : ℕ) → i < n → position is_none (taken size i n) ≡ Some j →
    (j ≡ i) × (set (taken size i n) j (Some (zeros size)) ≡ taken size (i + 1) n)
next-taken size i n j lt e =
    let left : n - i ≡ suc (n - (i + 1)) = omega arith in
    let e' = rw (left, prefix-taken i (n - (i + 1)) (zeros size)) at e in
    let at : j ≡ i = found _ i j e' in
    let more : suc i ≡ i + 1 = omega arith in
    (at, rw (at, left) (set-taken i (n - (i + 1)) (zeros size) ∙ ap (λ k. replicate k (Some (zeros size)) ++ replicate (n - (i + 1)) None) more))

some-replicate : (n : ℕ) (x : List ℕ) → replicate n (Some x) ≡ map Some (replicate n x)
some-replicate zero x = refl
some-replicate (suc n) x = ap (λ ys. Some x ∷ ys) (some-replicate n x)

pub all-taken : (home : Ptr) (size n : ℕ) → taken_in home size n n ≡ full home (blocks size (replicate n (zeros size)))
all-taken home size n =
    let none : n - n ≡ 0 = omega arith in
    rw none (rw (some-replicate n (zeros size)) (simp append-nil))

-- a region whose blocks were all taken in order
pub taken-array : (home : Ptr) (size n : ℕ) (places : List Place) → length places ≡ n → ((k : ℕ) (d : Place) → k < length places → get_or places k d ≡ place_at home k) →
    IsArray (taken_in home size n n) places
taken-array home size n places count each =
    let Ends : Shelves → Type 0 = λ r. IsArray r places in
    subst Ends (sym (all-taken home size n))
    (full-array home (blocks size (replicate n (zeros size))) places (All-replicate (λ x. length x ≡ size) n (zeros size) (length-replicate size 0)) (count ∙ sym (length-replicate n (zeros size))) each)

pub taken-blocks : (home : Ptr) (size n : ℕ) → blocks_in (taken_in home size n n) ≡ blocks size (replicate n (zeros size))
taken-blocks home size n = ap blocks_in (all-taken home size n) ∙ blocks_in-full home (blocks size (replicate n (zeros size)))

same-place : (home : Ptr) (place : Place) (i : ℕ) → place.home ≡ home → place.class ≡ 0 → place.index ≡ i → place ≡ place_at home i
same-place home place i h e f =
    ap (λ at. let p : Place = record { home = at; class = place.class; index = place.index } in p) h
    ∙ ap (λ class. let p : Place = record { home = home; class = class; index = place.index } in p) e ∙ ap (place_at home) f

-- one more block was taken
pub taken-step : (home : Ptr) (size i n : ℕ) (old new : Shelves) (place : Place) → i < n → old ≡ taken_in home size i n → TakesBlock old new 0 place →
    (new ≡ taken_in home size (i + 1) n) × (place ≡ place_at home i)
taken-step home size i n old new place lt whole t =
    let free = rw whole at t.free in
    let next = next-taken size i n place.index lt free in
    let new-is = rw (whole, t.in_class) at t.zeros in
    let ours = t.ours ∙ ap (λ (r : Shelves). r.home) whole in (
      new-is ∙ ap (λ xs. let r : Shelves = record { home = home; classes = shelf_of size xs ∷ [] } in r) next.1,
      same-place home place i ours t.in_class next.0,
    )

pub free-step : (home : Ptr) (size i n : ℕ) (old : Shelves) → i < n → old ≡ taken_in home size i n → free_blocks old 0 ≡ 0 → ⊥
free-step home size i n old lt whole e =
    let none = rw whole at e in omega (arith, free-taken size i n)

pub each-step : (home : Ptr) (places : List Place) (place : Place) (i : ℕ) → length places ≡ i → place ≡ place_at home i →
    ((k : ℕ) (d : Place) → k < length places → get_or places k d ≡ place_at home k) →
    (k : ℕ) (d : Place) → k < length (places ++ place ∷ []) → get_or (places ++ place ∷ []) k d ≡ place_at home k
each-step home places place i count at each k d lt =
    let P : ℕ → Type 0 = λ k. (d : Place) → get_or (places ++ place ∷ []) k d ≡ place_at home k in
    below_more P i
    (λ k lt d. let lt' : k < length places = omega arith in get_or_append_left places (place ∷ []) d k lt' ∙ each k d lt')
    (λ d. get_or_push places place d i count ∙ at)
    k (omega (arith, simp length-append at lt)) d

-- bytes of a block's own length take the place of its bytes
pub refill-whole : (xs bytes : List ℕ) → length bytes ≡ length xs → refill (length xs) xs bytes ≡ bytes
refill-whole xs bytes e = rw (← e) (take-append_seam bytes (drop (length bytes) xs))
