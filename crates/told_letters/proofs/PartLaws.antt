-- What of a letter's parts is known once a piece more is.
use Rattle.std.proofs.Common.{◌≡◌, ◌≢◌, ◌<◌, ◌+◌, ◌⊎◌, inl, inr, ℕ, List, [], ◌∷◌, ◌++◌, Bool, true}
use Rattle.std.proofs.Common.{false, cond, Option, Some, None, length, get_or, take, drop, map, refl, sym, ap}
use Rattle.std.proofs.Common.{◌∙◌, subst, arith, length-append}
use Rattle.std.specs.Option.{IsSome, is_some, option_map, option_or}
use Rattle.std.specs.List.{Contains, AllZip, find, filter_map, range_with_len, cons_option}
use Rattle.std.proofs.lemmas.Bool.{cases_Bool, cases_eq, eqb-true, and_parts}
use Rattle.std.proofs.lemmas.List.{map-append, map-id, append-nil, take_more, take-append-drop}
use Rattle.std.proofs.lemmas.List.Elements.{filter_map-append, Contains-append_left, Contains-push}
use Rattle.std.proofs.lemmas.List.Elements.{Contains-push_cases}
use Rattle.std.proofs.lemmas.List.Folds.{find-append}
use Rattle.std.proofs.lemmas.List.Concat.{flat_map-append}
use Rattle.std.proofs.lemmas.List.FromFn.{map-range_with_len_more}
use Rattle.letter_pieces.specs.declared.piece.Piece.{Piece as CodePiece}
use Rattle.letter_pieces.specs.Pieces.{Piece, Spells, joined}
use Rattle.letter_pieces.specs.Reading.{content}
use Rattle.told_letters.specs.declared.heading.Heading.{Heading}
use Rattle.told_letters.specs.Parts.{contents, heading_of, is_part, first_piece, IsWhole, IsBegun, IsPartial}

-- ---- headings

abbrev heading_by : ℕ → ℕ → Heading
heading_by letter parts = record { letter = record { 0 = letter }; parts = parts }

pub same_heading : (g h : Heading) → (g ≡ h) ⊎ (g ≢ h)
same_heading g h = elim (cases_eq g.letter.0 h.letter.0) [
  | inl letters ↦ elim (cases_eq g.parts h.parts) [
    | inl counts ↦
        inl (ap (λ n. heading_by n g.parts) letters ∙ ap (λ n. heading_by h.letter.0 n) counts)
    | inr differ ↦ inr (λ is. differ (ap (λ (x : Heading). x.parts) is))
  ]
  | inr differ ↦ inr (λ is. differ (ap (λ (x : Heading). x.letter.0) is))
]

-- a part of a letter has its heading
pub part_heading : (h : Heading) (part : ℕ) (p : Piece) → is_part h part p ≡ true → heading_of p ≡ h
part_heading h part p is =
    let all = and_parts _ _ is in
    let rest = and_parts _ _ all.1 in
    ap (λ n. heading_by n p.parts) (eqb-true p.letter h.letter.0 all.0)
    ∙ ap (λ n. heading_by h.letter.0 n) (eqb-true p.parts h.parts rest.0)

-- ---- whole letters

some_or : {X : Type 0} (a b : Option X) → IsSome a → IsSome (option_or a b)
some_or None b some = absurd (cc)
some_or (Some x) b some = refl

some_first : {X : Type 0} (a b : Option X) → b ≡ None → IsSome (option_or a b) → IsSome a
some_first None b none some = some_is b none some
  where
    some_is : {X : Type 0} (b : Option X) → b ≡ None → IsSome b → IsSome {T = X} None
    some_is None none some = some
    some_is (Some x) none some = cc
some_first (Some x) b none some = refl

pub whole_grows : (xs ys : List Piece) (h : Heading) → IsWhole xs h → IsWhole (xs ++ ys) h
whole_grows xs ys h w = record {
  some = w.some;
  all = λ part lt.
      subst (λ (o : Option Piece). IsSome o) (sym (find-append (is_part h part) xs ys))
      (some_or (first_piece xs h part) (first_piece ys h part) (w.all part lt));
}

one_none : (h : Heading) (part : ℕ) (p : Piece) → heading_of p ≢ h → first_piece (p ∷ []) h part ≡ None
one_none h part p differ = elim (cases_Bool (is_part h part p)) [
  | inl passes ↦ absurd (differ (part_heading h part p passes))
  | inr fails ↦ ap (λ b. cond b (Some p) None) fails
]

pub whole_adds : (xs : List Piece) (p : Piece) (h : Heading) → IsWhole (xs ++ p ∷ []) h
    → IsWhole xs h ⊎ (h ≡ heading_of p)
whole_adds xs p h w = elim (same_heading (heading_of p) h) [
  | inl is ↦ inr (sym is)
  | inr differ ↦ inl (record {
    some = w.some;
    all = λ part lt.
        some_first (first_piece xs h part) (first_piece (p ∷ []) h part) (one_none h part p differ)
        (subst (λ (o : Option Piece). IsSome o) (find-append (is_part h part) xs (p ∷ [])) (w.all part lt));
  })
]

pub whole_starts : (h : Heading) → IsWhole [] h → ⊥
whole_starts h w = let none : IsSome {T = Piece} None = w.all 0 w.some in cc

-- ---- letters in part

pub partial_grows : (all xs ys : List Piece) (h : Heading) → IsPartial all xs h → IsPartial all (xs ++ ys) h
partial_grows all xs ys h is = record {
  begun = subst (λ (hs : List Heading). Contains hs h) (sym (map-append heading_of xs ys))
      (Contains-append_left (map heading_of xs) (map heading_of ys) h is.begun);
  missing = is.missing;
}

pub partial_adds : (all xs : List Piece) (p : Piece) (h : Heading) → IsPartial all (xs ++ p ∷ []) h
    → IsPartial all xs h ⊎ (h ≡ heading_of p)
partial_adds all xs p h is = elim (Contains-push_cases (map heading_of xs) (heading_of p) h
    (subst (λ (hs : List Heading). Contains hs h) (map-append heading_of xs (p ∷ [])) is.begun)) [
      | inl there ↦ inl (record { begun = there; missing = is.missing })
      | inr here ↦ inr (sym here)
    ]

pub partial_starts : (all : List Piece) (h : Heading) → IsPartial all [] h → ⊥
partial_starts all h is = absurd (omega (arith, is.begun.1))

-- ---- the known pieces, one after another

pub contents_more : (known : List CodePiece) (i : ℕ) (d : CodePiece) → i < length known
    → contents (take (i + 1) known) ≡ contents (take i known) ++ content (get_or known i d) ∷ []
contents_more known i d lt =
    ap contents (take_more known i d lt)
    ∙ map-append content (take i known) (get_or known i d ∷ [])

pub begun_here : (known : List CodePiece) (i : ℕ) (d : CodePiece) (h : Heading) → i < length known
    → h ≡ heading_of (content (get_or known i d)) → IsBegun (contents (take (i + 1) known)) h
begun_here known i d h lt is =
    let p : Piece = content (get_or known i d) in
    subst (λ (ps : List Piece). Contains (map heading_of ps) h) (sym (contents_more known i d lt))
    (subst (λ (hs : List Heading). Contains hs h)
    (sym (map-append heading_of (contents (take i known)) (p ∷ [])))
    (subst (Contains (map heading_of (contents (take i known)) ++ heading_of p ∷ [])) (sym is)
    (Contains-push (map heading_of (contents (take i known))) (heading_of p))))

find_more : {X : Type 0} (f : X → Bool) (xs : List X) (x : X) → find f xs ≡ None
    → find f (xs ++ x ∷ []) ≡ cond (f x) (Some x) None
find_more {X} f xs x none =
    find-append f xs (x ∷ []) ∙ ap (λ (o : Option X). option_or o (find f (x ∷ []))) none

find_front : {X : Type 0} (f : X → Bool) (xs ys : List X) (x : X) → find f xs ≡ Some x
    → find f (xs ++ ys) ≡ Some x
find_front {X} f xs ys x some =
    find-append f xs ys ∙ ap (λ (o : Option X). option_or o (find f ys)) some

module _ (known : List CodePiece) (i : ℕ) (d : CodePiece) (h : Heading) (part : ℕ) (lt : i < length known)
    (none : first_piece (contents (take i known)) h part ≡ None) where
  abbrev here : Piece
  here = content (get_or known i d)

  next : first_piece (contents (take (i + 1) known)) h part ≡ cond (is_part h part here) (Some here) None
  next =
      ap (λ (ps : List Piece). first_piece ps h part) (contents_more known i d lt)
      ∙ find_more (is_part h part) (contents (take i known)) here none

  -- found at i
  pub first_here : is_part h part here ≡ true → Some here ≡ first_piece (contents known) h part
  first_here passes =
      sym (ap (λ (ps : List Piece). first_piece ps h part)
      (sym (ap contents (take-append-drop (i + 1) known))
      ∙ map-append content (take (i + 1) known) (drop (i + 1) known))
      ∙ find_front (is_part h part) (contents (take (i + 1) known)) (contents (drop (i + 1) known)) here
      (next ∙ ap (λ b. cond b (Some here) None) passes))

  -- not found up to i
  pub first_later : is_part h part here ≡ false → first_piece (contents (take (i + 1) known)) h part ≡ None
  first_later fails = next ∙ ap (λ b. cond b (Some here) None) fails

pub spelled_more : (ps : List Piece) (bs : List (List ℕ)) (p : Piece) (b : List ℕ) → AllZip Spells ps bs
    → Spells p b → AllZip Spells (ps ++ p ∷ []) (bs ++ b ∷ [])
spelled_more [] [] p b all is = (is, tt)
spelled_more [] (c ∷ bs) p b all is = absurd all
spelled_more (q ∷ ps) [] p b all is = absurd all
spelled_more (q ∷ ps) (c ∷ bs) p b all is = (all.0, spelled_more ps bs p b all.1 is)

-- ---- the known parts, in order

range_more : (n : ℕ) → range_with_len 0 (n + 1) ≡ range_with_len 0 n ++ n ∷ []
range_more n =
    sym (map-id (range_with_len 0 (n + 1)))
    ∙ map-range_with_len_more (λ (x : ℕ). x) 0 n n (omega arith)
    ∙ ap (λ (t : List ℕ). t ++ n ∷ []) (map-id (range_with_len 0 n))

abbrev pub parts_below : List Piece → Heading → ℕ → List Piece
parts_below known h n = filter_map (first_piece known h) (range_with_len 0 n)

parts_more : (known : List Piece) (h : Heading) (n : ℕ) → parts_below known h (n + 1)
    ≡ parts_below known h n ++ cons_option (first_piece known h n) []
parts_more known h n =
    ap (filter_map (first_piece known h)) (range_more n)
    ∙ filter_map-append (first_piece known h) (range_with_len 0 n) (n ∷ [])

pub parts_some : (known : List Piece) (h : Heading) (n : ℕ) (p : Piece) → Some p ≡ first_piece known h n
    → parts_below known h (n + 1) ≡ parts_below known h n ++ p ∷ []
parts_some known h n p is =
    parts_more known h n
    ∙ ap (λ (o : Option Piece). parts_below known h n ++ cons_option o []) (sym is)

pub parts_none : (known : List Piece) (h : Heading) (n : ℕ) → None ≡ first_piece known h n
    → parts_below known h (n + 1) ≡ parts_below known h n
parts_none known h n is =
    parts_more known h n
    ∙ ap (λ (o : Option Piece). parts_below known h n ++ cons_option o []) (sym is)
    ∙ append-nil (parts_below known h n)

pub joined_push : (ps : List Piece) (p : Piece) → joined (ps ++ p ∷ []) ≡ joined ps ++ p.text
joined_push ps p =
    flat_map-append (λ (q : Piece). q.text) ps (p ∷ [])
    ∙ ap (λ (t : List ℕ). joined ps ++ t) (append-nil p.text)

-- one more part is known, or isn't
pub parts_counted : (known : List Piece) (h : Heading) (n : ℕ) (o : Option CodePiece)
    → option_map content o ≡ first_piece known h n → is_some o ≡ true
    → length (parts_below known h (n + 1)) ≡ length (parts_below known h n) + 1
parts_counted known h n None is some = cc
parts_counted known h n (Some x) is some =
    ap (λ (ps : List Piece). length ps) (parts_some known h n (content x) is)
    ∙ length-append (parts_below known h n) (content x ∷ [])

pub parts_uncounted : (known : List Piece) (h : Heading) (n : ℕ) (o : Option CodePiece)
    → option_map content o ≡ first_piece known h n → is_some o ≡ false
    → length (parts_below known h (n + 1)) ≡ length (parts_below known h n)
parts_uncounted known h n None is none =
    ap (λ (ps : List Piece). length ps) (parts_none known h n is)
parts_uncounted known h n (Some x) is none = cc
