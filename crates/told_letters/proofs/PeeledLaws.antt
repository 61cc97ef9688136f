-- Letters whose pieces are all peeled are told.
use Rattle.std.proofs.Common.{◌≡◌, ◌<◌, ◌≤◌, ◌+◌, ◌&&◌, inl, inr, ℕ, zero, suc, List, [], ◌∷◌, ◌++◌}
use Rattle.std.proofs.Common.{Bool, true, false, cond, Option, Some, length, map, refl, sym, ap}
use Rattle.std.proofs.Common.{◌∙◌, subst, arith, eq-eqb}
use Rattle.std.specs.List.{All, AllZip, Contains, find, range_with_len}
use Rattle.std.specs.Option.{IsSome}
use Rattle.std.proofs.lemmas.Bool.{cases_Bool, eqb-true, and_parts}
use Rattle.std.proofs.lemmas.List.Elements.{All-contains}
use Rattle.std.proofs.lemmas.List.FromFn.{length-range_with_len, get_or-range_with_len}
use Rattle.std.proofs.lemmas.List.FromFn.{map-range_with_len_more}
use Rattle.file_carry.specs.Parts.{count_of}
use Rattle.letter_pieces.specs.Pieces.{Piece, Fits, Spells, encoded, parts_of, piece_of, pieces_of, joined}
use Rattle.letter_pieces.specs.Laws.{IsLetter, EncodedHold, OnePiece, PartsFit, PiecesJoin}
use Rattle.known_pieces.specs.Telling.{pieces_in}
use Rattle.known_pieces.specs.Peeling.{Box, IsPut, IsTable}
use Rattle.known_pieces.proofs.ListLaws.{Contains-map, Contains-from_map}
use Rattle.known_pieces.proofs.PeelingLaws.{peeled_is_told, told_was_put}
use Rattle.told_letters.specs.declared.heading.Heading.{Heading}
use Rattle.told_letters.specs.Parts.{is_part, first_piece, parts_in, IsWhole}
use Rattle.told_letters.specs.Mail.{Letter, AreLetters}
use Rattle.told_letters.specs.Laws.{letter_of, HasItsId, PeeledLettersAreTold}
use Rattle.told_letters.proofs.PartLaws.{parts_below, parts_some}

-- ---- lists

later : {A : Type 0} (y x : A) (xs : List A) → Contains xs x → Contains (y ∷ xs) x
later y x xs (k, lt, is) = (suc k, omega arith, is)

-- what a test finds where an element passes it
pub record Found {A : Type 0} (test : A → Bool) (xs : List A) : Type 0 where
  pub one : A
  pub is : find test xs ≡ Some one
  pub there : Contains xs one
  pub passes : test one ≡ true

found_on : {A : Type 0} (test : A → Bool) (y : A) (xs : List A) → test y ≡ false → Found test xs
    → Found test (y ∷ xs)
found_on test y xs fails f = record {
  one = f.one;
  is = ap (λ b. cond b (Some y) (find test xs)) fails ∙ f.is;
  there = later y f.one xs f.there;
  passes = f.passes;
}

found_first : {A : Type 0} (test : A → Bool) (y : A) (xs : List A) → test y ≡ true → Found test (y ∷ xs)
found_first test y xs passes = record {
  one = y;
  is = ap (λ b. cond b (Some y) (find test xs)) passes;
  there = (0, omega arith, refl);
  passes = passes;
}

found : {A : Type 0} (test : A → Bool) (xs : List A) (x : A) → Contains xs x → test x ≡ true → Found test xs
found test [] x there passes = absurd (omega (arith, there.1))
found test (y ∷ xs) x (zero, lt, is) passes = found_first test y xs (ap test is ∙ passes)
found test (y ∷ xs) x (suc k, lt, is) passes = elim (cases_Bool (test y)) [
  | inl here ↦ found_first test y xs here
  | inr fails ↦ found_on test y xs fails (found test xs x (k, omega arith, is) passes)
]

-- ---- pieces and their bytes

spelled_by : (known : List Piece) (bytes : List (List ℕ)) (b : List ℕ) → AllZip Spells known bytes
    → Contains bytes b → (p : Piece) × Contains known p × Spells p b
spelled_by [] [] b all there = absurd (omega (arith, there.1))
spelled_by [] (c ∷ bytes) b all there = absurd all
spelled_by (p ∷ known) [] b all there = absurd all
spelled_by (p ∷ known) (c ∷ bytes) b all (zero, lt, is) =
    (p, (0, omega arith, refl), subst (Spells p) is all.0)
spelled_by (p ∷ known) (c ∷ bytes) b all (suc k, lt, is) =
    let rest = spelled_by known bytes b all.1 (k, omega arith, is) in
    (rest.0, later p rest.0 known rest.1, rest.2)

bytes_by : (known : List Piece) (bytes : List (List ℕ)) (p : Piece) → AllZip Spells known bytes
    → Contains known p → (b : List ℕ) × Contains bytes b × Spells p b
bytes_by [] [] p all there = absurd (omega (arith, there.1))
bytes_by [] (c ∷ bytes) p all there = absurd all
bytes_by (q ∷ known) [] p all there = absurd all
bytes_by (q ∷ known) (c ∷ bytes) p all (zero, lt, is) =
    (c, (0, omega arith, refl), subst (λ (x : Piece). Spells x c) is all.0)
bytes_by (q ∷ known) (c ∷ bytes) p all (suc k, lt, is) =
    let rest = bytes_by known bytes p all.1 (k, omega arith, is) in
    (rest.0, later c rest.0 bytes rest.1, rest.2)

-- ---- a letter's parts

some_parts : (width len : ℕ) → 1 ≤ parts_of width len
unfolding count_of
some_parts width len = omega arith

in_range : (n k : ℕ) → k < n → Contains (range_with_len 0 n) k
in_range n k lt =
    let long = length-range_with_len 0 n in
    (k, omega arith, get_or-range_with_len 0 n k k lt ∙ (let is : 0 + k ≡ k = omega arith in is))

and_both : (a b : Bool) → a ≡ true → b ≡ true → (a && b) ≡ true
and_both a b p q = ap (λ x. x && b) p ∙ q

module _ (width id : ℕ) (text : List ℕ) (known : List Piece) where
  abbrev count : ℕ
  count = parts_of width (length text)

  abbrev heading : Heading
  heading = (letter_of width id text).heading

  abbrev part_of : ℕ → Piece
  part_of k = piece_of width id text k

  module _ (have : (k : ℕ) → k < count → Contains known (part_of k))
      (own : (p : Piece) → Contains known p → p.letter ≡ id → p.parts ≡ count
      → Contains (pieces_of width id text) p) where
    first_is : (k : ℕ) → k < count → Some (part_of k) ≡ first_piece known heading k
    first_is k lt =
        let test : is_part heading k (part_of k) ≡ true =
        and_both _ _ (eq-eqb id id refl) (and_both _ _ (eq-eqb count count refl) (eq-eqb k k refl)) in
        let f : Found (is_part heading k) known =
        found (is_part heading k) known (part_of k) (have k lt) test in
        let all = and_parts _ _ f.passes in
        let rest = and_parts _ _ all.1 in
        let there = own f.one f.there (eqb-true f.one.letter id all.0) (eqb-true f.one.parts count rest.0) in
        let from = Contains-from_map part_of (range_with_len 0 count) f.one there in
        let same : from.0 ≡ k =
        ap (λ (p : Piece). p.part) from.2 ∙ eqb-true f.one.part k rest.1 in
        ap (λ (p : Piece). Some p) (sym (ap part_of same) ∙ from.2) ∙ sym f.is

    whole : IsWhole known heading
    whole = record {
      some = some_parts width (length text);
      all = λ k lt. subst (λ (o : Option Piece). IsSome o) (first_is k lt) refl;
    }

    parts_are : (n : ℕ) → n ≤ count → parts_below known heading n ≡ map part_of (range_with_len 0 n)
    parts_are zero le = refl
    parts_are (suc n) le =
        let next : suc n ≡ n + 1 = omega arith in
        ap (parts_below known heading) next
        ∙ parts_some known heading n (part_of n) (first_is n (omega arith))
        ∙ ap (λ (ps : List Piece). ps ++ part_of n ∷ []) (parts_are n (omega arith))
        ∙ sym (ap (λ (k : ℕ). map part_of (range_with_len 0 k)) next
        ∙ map-range_with_len_more part_of 0 n n (omega arith))

    letter_by : Heading → List ℕ → Letter
    letter_by h t = record { heading = h; text = t }

    pub letter_told : (letters : List Letter) → joined (pieces_of width id text) ≡ text
        → AreLetters known letters → Contains letters (letter_of width id text)
    unfolding letter_by
    letter_told letters joins are =
        let from = Contains-from_map (λ (l : Letter). l.heading) letters heading
        (are.whole.complete heading whole) in
        let l : Letter = from.0 in
        let is : l.text ≡ text =
        All-contains (λ (m : Letter). m.text ≡ joined (parts_in known m.heading)) letters l are.texts from.1
        ∙ ap (λ (h : Heading). joined (parts_in known h)) from.2
        ∙ ap joined (parts_are count (omega arith)) ∙ joins in
        subst (Contains letters)
        (ap (λ (h : Heading). letter_by h l.text) from.2 ∙ ap (letter_by heading) is) from.1

module _ (hold : EncodedHold) (one : OnePiece) (fit : PartsFit) (joins : PiecesJoin)
    (addresses width id : ℕ) (text : List ℕ) (boxes : List Box)
    (letter : IsLetter addresses width id text) (its : HasItsId width id text boxes)
    (table : IsTable addresses width boxes) (bytes : List (List ℕ)) (put : All (IsPut boxes) bytes)
    (there : All (λ p. Contains bytes (encoded width p)) (pieces_of width id text))
    (known : List Piece) (spelled : AllZip Spells known bytes) where
  have_parts : (k : ℕ) → k < parts_of width (length text) → Contains known (piece_of width id text k)
  have_parts k lt =
      let p : Piece = piece_of width id text k in
      let inside : Contains (pieces_of width id text) p =
      Contains-map (piece_of width id text) (range_with_len 0 (parts_of width (length text))) k
      (in_range (parts_of width (length text)) k lt) in
      let q = spelled_by known bytes (encoded width p) spelled
      (All-contains (λ (x : Piece). Contains bytes (encoded width x)) (pieces_of width id text) p there
      inside) in
      subst (Contains known)
      (one q.0 p (encoded width p) q.2 (hold width p (fit addresses width id text k letter lt))) q.1

  own_parts : (p : Piece) → Contains known p → p.letter ≡ id → p.parts ≡ parts_of width (length text)
      → Contains (pieces_of width id text) p
  own_parts p inside letters counts =
      let b = bytes_by known bytes p spelled inside in
      let box = All-contains (IsPut boxes) bytes b.0 put b.1 in
      let wide : length b.0 ≡ width =
      All-contains (λ (x : List ℕ). length x ≡ width) box.0.pieces b.0 (table.wide box.0 box.1) box.2 in
      its box.0 p box.1
      (subst (Contains box.0.pieces) (b.2.is ∙ ap (λ n. encoded n p) wide) box.2)
      (subst (λ n. Fits n p) wide b.2.fits) letters counts

  pub told_here : (letters : List Letter) → AreLetters known letters
      → Contains letters (letter_of width id text)
  told_here letters are =
      letter_told width id text known have_parts own_parts letters (joins addresses width id text letter) are

pub peeled_letters_are_told : EncodedHold → OnePiece → PartsFit → PiecesJoin → PeeledLettersAreTold
peeled_letters_are_told hold one fit joins addresses width id text boxes order mail table one_sum peels letter
    its peeled is few =
    let bytes : List (List ℕ) = pieces_in is.told in
    let told = peeled_is_told addresses width boxes order is.told table one_sum peels is.tells few in
    let there : All (λ (p : Piece). Contains bytes (encoded width p)) (pieces_of width id text) =
    (λ k d lt. All-contains (Contains bytes) order _ told (peeled k d lt)) in
    told_here hold one fit joins addresses width id text boxes letter its table bytes
    (told_was_put addresses width boxes is.told one_sum is.tells) there is.gathered.known
    is.gathered.spelled mail.letters is.gathered.letters_are
