-- Sums of boxes of one width.
use Rattle.std.proofs.Common.{◌≡◌, ◌<◌, ℕ, List, [], ◌∷◌, length, get_or, map, refl, sym, ap, ◌∙◌, arith}
use Rattle.std.specs.List.{All}
use Rattle.std.proofs.lemmas.List.{get_or-map, length-map}
use Rattle.std.proofs.lemmas.List.Elements.{All-head, All-tail, All-map, All-get_or}
use Rattle.express_words.specs.Bytes.{xor_bytes}
use Rattle.express_words.proofs.Bytes.{xor_bytes_comm, xor_bytes_assoc, xor_bytes_self, xor_bytes_zeros}
use Rattle.express_words.proofs.Bytes.{length-xor_bytes}
use Rattle.subset_search.specs.Subsets.{added, boxes_at}

-- boxes of one width
abbrev pub AreWide : ℕ → List (List ℕ) → Type 0
AreWide w boxes = All (λ box. length box ≡ w) boxes

pub xor_swap : (s p q : List ℕ) → xor_bytes (xor_bytes s p) q ≡ xor_bytes (xor_bytes s q) p
xor_swap s p q = xor_bytes_assoc s p q ∙ ap (xor_bytes s) (xor_bytes_comm p q) ∙ sym (xor_bytes_assoc s q p)

pub xor_back : (w : ℕ) (s p : List ℕ) → length s ≡ w → length p ≡ w → xor_bytes (xor_bytes s p) p ≡ s
xor_back w s p hs hp =
    xor_bytes_assoc s p p
    ∙ ap (xor_bytes s) (xor_bytes_self p)
    ∙ xor_bytes_zeros s (length p) (hs ∙ sym hp)

pub length-xor : (w : ℕ) (s p : List ℕ) → length s ≡ w → length p ≡ w → length (xor_bytes s p) ≡ w
length-xor w s p hs hp = length-xor_bytes s p (hs ∙ sym hp) ∙ hs

pub added-xor : (s p : List ℕ) (ps : List (List ℕ)) → added (xor_bytes s p) ps ≡ xor_bytes (added s ps) p
added-xor s p [] = refl
added-xor s p (q ∷ ps) = ap (λ (t : List ℕ). added t ps) (xor_swap s p q) ∙ added-xor (xor_bytes s q) p ps

pub length-added : (w : ℕ) (s : List ℕ) (ps : List (List ℕ)) → length s ≡ w → AreWide w ps
    → length (added s ps) ≡ w
length-added w s [] h wide = h
length-added w s (p ∷ ps) h wide =
    length-added w (xor_bytes s p) ps
    (length-xor w s p h (All-head (λ box. length box ≡ w) p ps wide))
    (All-tail (λ box. length box ≡ w) p ps wide)

-- what is added twice is gone
pub added-back : (w : ℕ) (s : List ℕ) (ps : List (List ℕ)) → length s ≡ w → AreWide w ps → added (added s ps)
    ps ≡ s
added-back w s [] h wide = refl
added-back w s (p ∷ ps) h wide =
    let hp : length p ≡ w = All-head (λ box. length box ≡ w) p ps wide in
    added-xor (added (xor_bytes s p) ps) p ps
    ∙ ap (λ (t : List ℕ). xor_bytes t p)
    (added-back w (xor_bytes s p) ps (length-xor w s p h hp) (All-tail (λ box. length box ≡ w) p ps wide))
    ∙ xor_back w s p h hp

-- ---- boxes at indices

pub boxes_wide : {B : Type 0} (items : B → List ℕ) (all : List B) (indices : List ℕ) (w : ℕ) →
    All (λ i. i < length all) indices → All (λ b. length (items b) ≡ w) all
    → AreWide w (boxes_at (map items all) indices)
boxes_wide items all indices w within widths =
    let wide : AreWide w (map items all) = All-map (λ box. length box ≡ w) items all widths in
    All-map (λ box. length box ≡ w) (λ i. get_or (map items all) i []) indices
    (λ k d lt. let place : get_or indices k d < length all = within k d lt in
    let count : length (map items all) ≡ length all = length-map all items in
    All-get_or (λ box. length box ≡ w) (map items all) (get_or indices k d) [] (omega arith) wide)

pub box_read : {B : Type 0} (items : B → List ℕ) (all : List B) (indices : List ℕ) (n : ℕ) (x : B) →
    n < length indices → get_or indices n 0 < length all → x ≡ get_or all (get_or indices n 0) x →
    get_or (boxes_at (map items all) indices) n [] ≡ items x
box_read items all indices n x lt within read =
    get_or-map (λ i. get_or (map items all) i []) indices n 0 [] lt
    ∙ get_or-map items all (get_or indices n 0) x [] within
    ∙ ap items (sym read)

pub length-boxes_at : (all : List (List ℕ)) (indices : List ℕ) → length (boxes_at all indices)
    ≡ length indices
length-boxes_at all indices = length-map indices (λ i. get_or all i [])
