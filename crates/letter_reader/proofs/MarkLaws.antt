-- Pieces that were found in a reading are marked one by one.
use Rattle.std.proofs.Common.{◌≡◌, ◌≢◌, ◌<◌, inl, inr, ℕ, zero, suc, List, [], ◌∷◌, Bool, true, false}
use Rattle.std.proofs.Common.{cond, length, get_or, set, refl, sym, ap, ◌∙◌, subst, arith, get_or-set_other}
use Rattle.std.specs.List.{Contains, All, AllPairs}
use Rattle.std.proofs.lemmas.List.Elements.{All-head, All-tail, All-cons, All-push}
use Rattle.std.proofs.lemmas.List.Quantifiers.{all_pairs_push}
use Rattle.std.proofs.lemmas.Bool.{cases_eq, false≢true}
use Rattle.std.proofs.lemmas.List.{get_or-map, get_or_default}
use Rattle.subset_search.specs.Subsets.{chosen_below, boxes_at}
use Rattle.known_pieces.specs.Telling.{KnownPiece, bytes_of, is_awaited}
use Rattle.known_pieces.specs.Opening.{IsMarked, AreMarked, IsAdmitted}
use Rattle.letter_reader.specs.Reader.{AreApart}
use Rattle.letter_reader.proofs.TriedLaws.{map-push}

pub marked_none : (address : ℕ) (parts : List (List ℕ)) (known : List KnownPiece)
    → AreMarked address parts known known
marked_none address parts [] = tt
marked_none address parts (x ∷ known) =
    (record { bytes = refl; fewer = λ a is. is; only = λ a is. inl is }, marked_none address parts known)

-- what is false in a list stays so once its element at i is made false
set_false : (flags : List Bool) (i : ℕ) → get_or (set flags i false) i false ≡ false
set_false [] i = refl
set_false (x ∷ flags) zero = refl
set_false (x ∷ flags) (suc i) = set_false flags i

module _ (address : ℕ) (parts : List (List ℕ)) (x y z : KnownPiece) (before : IsMarked address parts x y)
    (there : Contains parts x.bytes) (bytes : z.bytes ≡ y.bytes) (awaited : z.awaited ≡ set y.awaited
    address false) where
  at_address : is_awaited address z ≡ false
  at_address = ap (λ (t : List Bool). get_or t address false) awaited ∙ set_false y.awaited address

  elsewhere : (a : ℕ) → a ≢ address → is_awaited a z ≡ is_awaited a y
  elsewhere a ne = ap (λ (t : List Bool). get_or t a false) awaited
      ∙ get_or-set_other y.awaited address a false false ne

  pub marked_again : IsMarked address parts x z
  marked_again = record {
    bytes = bytes ∙ before.bytes;
    fewer = λ a is. elim (cases_eq a address) [
      | inl here ↦ absurd (false≢true (sym at_address ∙ subst (λ b. is_awaited b z ≡ true) here is))
      | inr ne ↦ before.fewer a (sym (elsewhere a ne) ∙ is)
    ];
    only = λ a is. elim (before.only a is) [
      | inl still ↦ elim (cases_eq a address) [
        | inl here ↦ inr (here, there)
        | inr ne ↦ inl (elsewhere a ne ∙ still)
      ]
      | inr found ↦ inr found
    ];
  }

pub marked_more : (address : ℕ) (parts : List (List ℕ)) (old mid : List KnownPiece) (i : ℕ) (d e z :
    KnownPiece) →
    AreMarked address parts old mid → i < length old → Contains parts (get_or old i d).bytes →
    z.bytes ≡ (get_or mid i e).bytes → z.awaited ≡ set (get_or mid i e).awaited address false →
    AreMarked address parts old (set mid i z)
marked_more address parts [] mid i d e z marks lt there bytes awaited = absurd (omega arith)
marked_more address parts (x ∷ old) [] i d e z marks lt there bytes awaited = absurd marks
marked_more address parts (x ∷ old) (y ∷ mid) zero d e z marks lt there bytes awaited =
    (marked_again address parts x y z marks.0 there bytes awaited, marks.1)
marked_more address parts (x ∷ old) (y ∷ mid) (suc i) d e z marks lt there bytes awaited =
    (marks.0, marked_more address parts old mid i d e z marks.1 (omega arith) there bytes awaited)

-- a box that is chosen is among those that are
pub chosen_there : (n k : ℕ) (boxes : List (List ℕ)) (chosen : List Bool) → k < n
    → get_or chosen k false ≡ true →
    Contains (chosen_below n boxes chosen) (get_or boxes k [])
chosen_there zero k boxes chosen lt is = absurd (omega arith)
chosen_there (suc n) k boxes chosen lt is = elim (cases_eq k n) [
  | inl here ↦
      subst (λ b. Contains (cond b (get_or boxes n [] ∷ chosen_below n boxes chosen) (chosen_below n boxes
      chosen))
      (get_or boxes k [])) (sym (ap (λ j. get_or chosen j false) (sym here) ∙ is))
      (0, omega arith, ap (λ j. get_or boxes j []) (sym here))
  | inr ne ↦ later (get_or chosen n false) (chosen_there n k boxes chosen (omega arith) is)
]
  where
    later : (b : Bool) → Contains (chosen_below n boxes chosen) (get_or boxes k []) →
        Contains (cond b (get_or boxes n [] ∷ chosen_below n boxes chosen) (chosen_below n boxes chosen))
        (get_or boxes k [])
    later true (j, le, at) = (suc j, omega arith, at)
    later false there = there

-- and is a piece that is tried
pub tried_there : (old : List KnownPiece) (tried : List ℕ) (chosen : List Bool) (k : ℕ) (d : KnownPiece) →
    k < length tried → get_or tried k 0 < length old → get_or chosen k false ≡ true →
    Contains (chosen_below (length tried) (boxes_at (bytes_of old) tried) chosen) (get_or old (get_or tried
    k 0) d).bytes
tried_there old tried chosen k d lt within is =
    subst (Contains (chosen_below (length tried) (boxes_at (bytes_of old) tried) chosen))
    (get_or-map (λ i. get_or (bytes_of old) i []) tried k 0 [] lt
    ∙ get_or-map (λ (p : KnownPiece). p.bytes) old (get_or tried k 0) d [] within)
    (chosen_there (length tried) k (boxes_at (bytes_of old) tried) chosen lt is)

-- ---- marked pieces are the same pieces

pub marked_same : (address : ℕ) (parts : List (List ℕ)) (old new : List KnownPiece)
    → AreMarked address parts old new →
    bytes_of new ≡ bytes_of old
marked_same address parts [] [] marks = refl
marked_same address parts [] (y ∷ new) marks = absurd marks
marked_same address parts (x ∷ old) [] marks = absurd marks
marked_same address parts (x ∷ old) (y ∷ new) marks =
    ap (λ (t : List ℕ). t ∷ bytes_of new) marks.0.bytes
    ∙ ap (λ (t : List (List ℕ)). x.bytes ∷ t) (marked_same address parts old new marks.1)

marked_wide : (width address : ℕ) (parts : List (List ℕ)) (old new : List KnownPiece)
    → AreMarked address parts old new →
    All (λ p. length p.bytes ≡ width) old → All (λ p. length p.bytes ≡ width) new
marked_wide width address parts [] [] marks wide = wide
marked_wide width address parts [] (y ∷ new) marks wide = absurd marks
marked_wide width address parts (x ∷ old) [] marks wide = absurd marks
marked_wide width address parts (x ∷ old) (y ∷ new) marks wide =
    All-cons (λ p. length p.bytes ≡ width) y new
    (ap (λ (t : List ℕ). length t) marks.0.bytes ∙ All-head (λ p. length p.bytes ≡ width) x old wide)
    (marked_wide width address parts old new marks.1 (All-tail (λ p. length p.bytes ≡ width) x old wide))

pub apart_after : (width addresses address : ℕ) (parts : List (List ℕ)) (sum : List ℕ) (old marked new :
    List KnownPiece) →
    AreApart width old → AreMarked address parts old marked → IsAdmitted addresses address sum marked new →
    length sum ≡ width → AreApart width new
apart_after width addresses address parts sum old marked new apart marks admits long = elim admits [
  | inl is ↦ subst (AreApart width) (sym is.1) still
  | inr more ↦
      let piece : KnownPiece = more.2.0 in
      subst (AreApart width) (sym more.2.2) (record {
        wide = All-push (λ p. length p.bytes ≡ width) marked piece still.wide (ap (λ (t : List ℕ). length t)
            more.2.1.is ∙ long);
        once = subst (AllPairs (λ p q. p ≢ q)) (sym (map-push (λ (p : KnownPiece). p.bytes) marked piece))
            (all_pairs_push (λ p q. p ≢ q) (bytes_of marked) piece.bytes still.once
            (λ k d lt is. more.1 (k, lt, get_or_default (bytes_of marked) k sum d lt ∙ is ∙ more.2.1.is)));
      })
]
  where
    still : AreApart width marked
    still = record {
      wide = marked_wide width address parts old marked marks apart.wide;
      once = subst (AllPairs (λ p q. p ≢ q)) (sym (marked_same address parts old marked marks)) apart.once;
    }
