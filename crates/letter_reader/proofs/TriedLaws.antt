-- The pieces that are tried with a reading, and those that are found in it.
use Rattle.std.proofs.Common.{◌≡◌, ◌≢◌, ◌<◌, ◌≤◌, ◌+◌, ◌-◌, ℕ, zero, suc, List, [], ◌∷◌, ◌++◌, Bool, true}
use Rattle.std.proofs.Common.{false}
use Rattle.std.proofs.Common.{cond, length, get_or, take, drop, map, refl, sym, ap, ◌∙◌, subst, arith}
use Rattle.std.proofs.Common.{length-drop}
use Rattle.std.specs.List.{Contains, All, AllPairs, filter}
use Rattle.std.proofs.Math.ListN.{get_or-map as read-map}
use Rattle.std.proofs.lemmas.List.{get_or-drop, drop-map, get_or_default, take-append-le, take_all}
use Rattle.std.proofs.lemmas.List.Elements.{All-nil, All-cons}
use Rattle.std.proofs.lemmas.List.Kept.{AllPairs-filter}
use Rattle.subset_search.specs.Subsets.{added, boxes_at, chosen_below, IsSubset, HasNone}
use Rattle.subset_search.proofs.SumLaws.{length-boxes_at, boxes_wide, AreWide}
use Rattle.known_pieces.specs.Known.{Reading, most_tried}
use Rattle.known_pieces.specs.Telling.{KnownPiece, bytes_of, is_awaited, awaited_at, tried_at, newest}
use Rattle.known_pieces.specs.Telling.{IsOpen}
use Rattle.known_pieces.specs.Opening.{IsFound, AreMarked, IsAdmitted, Opens}
use Rattle.known_pieces.proofs.ListLaws.{pairs_cons}
use Rattle.known_pieces.proofs.OpeningLaws.{none_opens}

pub map-push : {A B : Type 0} (f : A → B) (xs : List A) (x : A) → map f (xs ++ x ∷ []) ≡ map f xs ++ f x ∷ []
map-push f [] x = refl
map-push f (y ∷ xs) x = ap (λ t. f y ∷ t) (map-push f xs x)

-- the newest of the awaited, by their indices, are tried
pub tried_are : (known : List KnownPiece) (awaited tried : List ℕ) (address : ℕ) → tried ≡ newest awaited →
    boxes_at (bytes_of known) awaited ≡ awaited_at address known
    → boxes_at (bytes_of known) tried ≡ tried_at address known
tried_are known awaited tried address is are =
    ap (boxes_at (bytes_of known)) is
    ∙ sym (drop-map (λ i. get_or (bytes_of known) i []) (length awaited - most_tried) awaited)
    ∙ ap (λ n. drop (n - most_tried) (boxes_at (bytes_of known) awaited)) (sym (length-boxes_at (bytes_of
    known) awaited))
    ∙ ap newest are

-- ---- no piece is tried twice

pairs_drop : (n : ℕ) (xs : List (List ℕ)) → AllPairs (λ p q. p ≢ q) xs → AllPairs (λ p q. p ≢ q) (drop n xs)
pairs_drop n xs pairs i j d lt le is =
    pairs (n + i) (n + j) d (omega arith) (let long : length (drop n xs) ≡ length xs - n = length-drop n xs
    in omega arith)
    (sym (get_or-drop n xs i d) ∙ is ∙ get_or-drop n xs j d)

abbrev differ : KnownPiece → KnownPiece → Type 0
differ p q = p.bytes ≢ q.bytes

pairs_known : (known : List KnownPiece) → AllPairs (λ p q. p ≢ q) (bytes_of known) → AllPairs differ known
pairs_known known pairs i j d lt le is =
    pairs i j d.bytes lt (let long : length (bytes_of known) ≡ length known = length-bytes known in omega
    arith)
    (read-map (λ (p : KnownPiece). p.bytes) known i d ∙ is ∙ sym (read-map (λ (p : KnownPiece). p.bytes)
    known j d))
  where
    length-bytes : (ks : List KnownPiece) → length (bytes_of ks) ≡ length ks
    length-bytes [] = refl
    length-bytes (k ∷ ks) = ap suc (length-bytes ks)

pairs_bytes : (known : List KnownPiece) → AllPairs differ known → AllPairs (λ p q. p ≢ q) (bytes_of known)
pairs_bytes known pairs i j d lt le is =
    let e : KnownPiece = record { bytes = d; awaited = [] } in
    pairs i j e lt (let long : length (bytes_of known) ≡ length known = length-bytes known in omega arith)
    (sym (read-map (λ (p : KnownPiece). p.bytes) known i e) ∙ is
    ∙ read-map (λ (p : KnownPiece). p.bytes) known j e)
  where
    length-bytes : (ks : List KnownPiece) → length (bytes_of ks) ≡ length ks
    length-bytes [] = refl
    length-bytes (k ∷ ks) = ap suc (length-bytes ks)

tried_once : (address : ℕ) (known : List KnownPiece) → AllPairs (λ p q. p ≢ q) (bytes_of known) →
    AllPairs (λ p q. p ≢ q) (tried_at address known)
tried_once address known pairs =
    pairs_drop (length (awaited_at address known) - most_tried) (awaited_at address known)
    (pairs_bytes (filter (is_awaited address) known)
    (AllPairs-filter differ (is_awaited address) known (pairs_known known pairs)))

-- ---- those that are chosen

chosen_all : (P : List ℕ → Type 0) (n : ℕ) (boxes : List (List ℕ)) (chosen : List Bool) →
    ((k : ℕ) → k < n → P (get_or boxes k [])) → All P (chosen_below n boxes chosen)
chosen_all P zero boxes chosen each = All-nil P
chosen_all P (suc n) boxes chosen each =
    more (get_or chosen n false) (chosen_all P n boxes chosen (λ k lt. each k (omega arith)))
  where
    more : (b : Bool) → All P (chosen_below n boxes chosen) →
        All P (cond b (get_or boxes n [] ∷ chosen_below n boxes chosen) (chosen_below n boxes chosen))
    more true rest = All-cons P (get_or boxes n []) (chosen_below n boxes chosen) (each n (omega arith)) rest
    more false rest = rest

chosen_once : (n : ℕ) (boxes : List (List ℕ)) (chosen : List Bool) → n ≤ length boxes
    → AllPairs (λ p q. p ≢ q) boxes →
    AllPairs (λ p q. p ≢ q) (chosen_below n boxes chosen)
chosen_once zero boxes chosen le pairs = λ i j d lt within. absurd (omega arith)
chosen_once (suc n) boxes chosen le pairs =
    more (get_or chosen n false) (chosen_once n boxes chosen (omega arith) pairs)
  where
    more : (b : Bool) → AllPairs (λ p q. p ≢ q) (chosen_below n boxes chosen) →
        AllPairs (λ p q. p ≢ q) (cond b (get_or boxes n [] ∷ chosen_below n boxes chosen) (chosen_below n
        boxes chosen))
    more true rest =
        pairs_cons (get_or boxes n []) (chosen_below n boxes chosen)
        (chosen_all (λ y. get_or boxes n [] ≢ y) n boxes chosen (λ k lt is. pairs k n [] lt (omega arith)
        (sym is))) rest
    more false rest = rest

chosen_few : (n : ℕ) (boxes : List (List ℕ)) (chosen : List Bool) → length (chosen_below n boxes chosen) ≤ n
chosen_few zero boxes chosen = omega arith
chosen_few (suc n) boxes chosen = more (get_or chosen n false) (chosen_few n boxes chosen)
  where
    more : (b : Bool) → length (chosen_below n boxes chosen) ≤ n →
        length (cond b (get_or boxes n [] ∷ chosen_below n boxes chosen) (chosen_below n boxes chosen)) ≤
        suc n
    more true le = omega arith
    more false le = omega arith

chosen_some : (boxes : List (List ℕ)) (chosen : List Bool) (n : ℕ) → n ≤ length boxes
    → AllPairs (λ p q. p ≢ q) boxes →
    IsSubset (chosen_below n boxes chosen) boxes
chosen_some boxes chosen n le pairs = record {
  within = chosen_all (Contains boxes) n boxes chosen
      (λ k lt. (k, omega arith, get_or_default boxes k (get_or boxes k []) [] (omega arith)));
  once = chosen_once n boxes chosen le pairs;
}

-- ---- a reading is opened

pub opens_by : (addresses : ℕ) (r : Reading) (old marked new : List KnownPiece) (tried : List ℕ) (chosen :
    List Bool)
    (sum : List ℕ) → boxes_at (bytes_of old) tried ≡ tried_at r.address old
    → AllPairs (λ p q. p ≢ q) (bytes_of old) →
    length tried ≤ 16 →
    sum ≡ added r.bytes (chosen_below (length tried) (boxes_at (bytes_of old) tried) chosen) →
    IsFound (boxes_at (bytes_of old) tried) sum →
    AreMarked r.address (chosen_below (length tried) (boxes_at (bytes_of old) tried) chosen) old marked →
    IsAdmitted addresses r.address sum marked new → Opens addresses r old new
opens_by addresses r old marked new tried chosen sum are once few is found marks admits =
    let boxes : List (List ℕ) = boxes_at (bytes_of old) tried in
    let parts : List (List ℕ) = chosen_below (length tried) boxes chosen in
    let long : length boxes ≡ length tried = length-boxes_at (bytes_of old) tried in
    let distinct : AllPairs (λ p q. p ≢ q) boxes = subst (AllPairs (λ p q. p ≢ q)) (sym are) (tried_once
    r.address old once) in
    record {
      parts = parts;
      tried = subst (IsSubset parts) are (chosen_some boxes chosen (length tried) (omega arith) distinct);
      most = let le : length parts ≤ length tried = chosen_few (length tried) boxes chosen in omega arith;
      found = subst (λ t. IsFound t (added r.bytes parts)) are (subst (IsFound boxes) is found);
      marked = marked;
      marks = marks;
      admits = subst (λ t. IsAdmitted addresses r.address t marked new) is admits;
    }

-- or it isn't
pub none_tried : (width address : ℕ) (bytes : List ℕ) (known : List KnownPiece) (tried : List ℕ) →
    boxes_at (bytes_of known) tried ≡ tried_at address known → All (λ i. i < length known) tried →
    All (λ p. length p.bytes ≡ width) known → length bytes ≡ width →
    HasNone (IsFound (boxes_at (bytes_of known) tried)) bytes (boxes_at (bytes_of known) tried) →
    HasNone IsOpen bytes (tried_at address known)
none_tried width address bytes known tried are within wide long none =
    none_opens width bytes (tried_at address known) long
    (subst (AreWide width) are (boxes_wide (λ (p : KnownPiece). p.bytes) known tried width within wide))
    (subst (λ t. HasNone (IsFound t) bytes t) are none)

-- a vector after its elements were written through a slice of it
pub refilled : {A : Type 0} (n : ℕ) (items written : List A) → length written ≡ n →
    take n (written ++ drop (length written) items) ≡ written
refilled n items written is =
    take-append-le n written (drop (length written) items) (omega arith) ∙ take_all n written (omega arith)
