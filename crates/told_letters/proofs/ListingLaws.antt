-- Letters that are listed, as pieces become known.
use Rattle.std.proofs.Common.{◌≡◌, ◌≢◌, ◌<◌, ◌+◌, ◌⊎◌, inl, inr, ℕ, List, [], ◌∷◌, ◌++◌, length, get_or}
use Rattle.std.proofs.Common.{take, drop, sym, ◌∙◌, subst, arith, length-append}
use Rattle.std.specs.List.{All, AllPairs, Contains}
use Rattle.std.proofs.lemmas.Bool.{cases_lt}
use Rattle.std.proofs.lemmas.List.{get_or_default, take-append-le, take-append-drop, take_all}
use Rattle.std.proofs.lemmas.List.Elements.{All-push, Contains-append_left, Contains-push}
use Rattle.std.proofs.lemmas.List.Quantifiers.{all_pairs_push}
use Rattle.letter_pieces.specs.declared.piece.Piece.{Piece as CodePiece}
use Rattle.letter_pieces.specs.Pieces.{Piece}
use Rattle.letter_pieces.specs.Reading.{content}
use Rattle.told_letters.specs.declared.heading.Heading.{Heading}
use Rattle.told_letters.specs.Parts.{contents, heading_of, IsWhole, IsPartial}
use Rattle.told_letters.specs.Listing.{AreListed, IsAdded}
use Rattle.told_letters.proofs.PartLaws.{contents_more, whole_grows, whole_adds, whole_starts}
use Rattle.told_letters.proofs.PartLaws.{partial_grows, partial_adds, partial_starts}

-- what becomes so of the letter of each piece at most, and stays so
pub record Grows (P : List Piece → Heading → Type 0) : Type 0 where
  pub grows : (xs ys : List Piece) (h : Heading) → P xs h → P (xs ++ ys) h
  pub adds : (xs : List Piece) (p : Piece) (h : Heading) → P (xs ++ p ∷ []) h → P xs h ⊎ (h ≡ heading_of p)
  pub starts : (h : Heading) → P [] h → ⊥

pub whole_is : Grows IsWhole
whole_is = record { grows = whole_grows; adds = whole_adds; starts = whole_starts }

pub partial_is : (all : List Piece) → Grows (IsPartial all)
partial_is all = record {
  grows = partial_grows all;
  adds = partial_adds all;
  starts = partial_starts all;
}

module _ (P : List Piece → Heading → Type 0) (g : Grows P) where
  pub none_listed : AreListed P [] []
  none_listed = record {
    sound = λ k d lt. absurd (omega arith);
    complete = λ h is. absurd (g.starts h is);
    once = λ i j d lt le. absurd (omega arith);
    order = λ i j d lt le. absurd (omega arith);
  }

  module _ (xs : List Piece) (p : Piece) (hs : List Heading) (before : AreListed P xs hs) where
    abbrev more : List Piece
    more = xs ++ p ∷ []

    grown : (h : Heading) → P xs h → P more h
    grown h is = g.grows xs (p ∷ []) h is

    from_front : (n : ℕ) (h : Heading) → P (take n xs) h → P xs h
    from_front n h is =
        subst (λ (ps : List Piece). P ps h) (take-append-drop n xs) (g.grows (take n xs) (drop n xs) h is)

    -- the first n of them are the first n before it, or all
    fronts : (n : ℕ) → (take n more ≡ take n xs) ⊎ (take n more ≡ more)
    fronts n = elim (cases_lt (length xs) n) [
      | inl above ↦
          let long : length more ≡ length xs + 1 = length-append xs (p ∷ []) in
          inr (take_all n more (omega arith))
      | inr below ↦ inl (take-append-le n xs (p ∷ []) below)
    ]

    order_stays : (a b : Heading) → P xs a → ((n : ℕ) → P (take n xs) b → P (take n xs) a) → (n : ℕ)
        → P (take n more) b → P (take n more) a
    order_stays a b is first n there = elim (fronts n) [
      | inl small ↦
          subst (λ (ps : List Piece). P ps a) (sym small)
          (first n (subst (λ (ps : List Piece). P ps b) small there))
      | inr whole ↦ subst (λ (ps : List Piece). P ps a) (sym whole) (grown a is)
    ]

    order_now : AllPairs (λ a b. (n : ℕ) → P (take n more) b → P (take n more) a) hs
    order_now = λ i j d lt le.
        order_stays (get_or hs i d) (get_or hs j d) (before.sound i d (omega arith))
        (before.order i j d lt le)

    sound_now : All (P more) hs
    sound_now = λ k d lt. grown (get_or hs k d) (before.sound k d lt)

    listed_same : (P more (heading_of p) → Contains hs (heading_of p)) → AreListed P more hs
    listed_same there = record {
      sound = sound_now;
      complete = λ h is. elim (g.adds xs p h is) [
        | inl was ↦ before.complete h was
        | inr here ↦ subst (Contains hs) (sym here) (there (subst (P more) here is))
      ];
      once = before.once;
      order = order_now;
    }

    order_last : (Contains hs (heading_of p) → ⊥) → (a : Heading) → P xs a → (n : ℕ)
        → P (take n more) (heading_of p) → P (take n more) a
    order_last absent a is n there = elim (fronts n) [
      | inl small ↦
          absurd (absent (before.complete (heading_of p)
          (from_front n (heading_of p) (subst (λ (ps : List Piece). P ps (heading_of p)) small there))))
      | inr whole ↦ subst (λ (ps : List Piece). P ps a) (sym whole) (grown a is)
    ]

    listed_more : (Contains hs (heading_of p) → ⊥) → P more (heading_of p)
        → AreListed P more (hs ++ heading_of p ∷ [])
    listed_more absent is = record {
      sound = All-push (P more) hs (heading_of p) sound_now is;
      complete = λ h there. elim (g.adds xs p h there) [
        | inl was ↦ Contains-append_left hs (heading_of p ∷ []) h (before.complete h was)
        | inr here ↦ subst (Contains (hs ++ heading_of p ∷ [])) (sym here) (Contains-push hs (heading_of p))
      ];
      once = all_pairs_push (λ a b. a ≢ b) hs (heading_of p) before.once
          (λ k d lt same. absent (k, lt, get_or_default hs k (heading_of p) d lt ∙ same));
      order = all_pairs_push (λ a b. (n : ℕ) → P (take n more) b → P (take n more) a) hs (heading_of p)
          order_now
          (λ k d lt. order_last absent (get_or hs k d) (before.sound k d lt));
    }

    pub listed_step : (new : List Heading) → P more (heading_of p) → IsAdded (heading_of p) hs new
        → AreListed P more new
    listed_step new is (inl old) =
        subst (AreListed P more) (sym old.1) (listed_same (λ now. old.0))
    listed_step new is (inr fresh) =
        subst (AreListed P more) (sym fresh.1) (listed_more fresh.0 is)

    pub listed_still : (P more (heading_of p) → ⊥) → AreListed P more hs
    listed_still fails = listed_same (λ now. absurd (fails now))

-- ---- the same of the pieces of the code

module _ (P : List Piece → Heading → Type 0) (g : Grows P) (known : List CodePiece) (i : ℕ) (d : CodePiece)
    (hs new : List Heading) (h : Heading) (lt : i < length known)
    (before : AreListed P (contents (take i known)) hs) (is : h ≡ heading_of (content (get_or known i d)))
  where
    abbrev more_known : List Piece
    more_known = contents (take (i + 1) known)

    abbrev Listed : List Piece → Type 0
    Listed ps = AreListed P ps new

    -- the letter of a piece is put behind the others
    pub code_step : P more_known h → IsAdded h hs new → AreListed P more_known new
    code_step so added =
        subst Listed (sym (contents_more known i d lt))
        (listed_step P g (contents (take i known)) (content (get_or known i d)) hs before new
        (subst (P (contents (take i known) ++ content (get_or known i d) ∷ [])) is
        (subst (λ (ps : List Piece). P ps h) (contents_more known i d lt) so))
        (subst (λ (x : Heading). IsAdded x hs new) is added))

    -- or it isn't so of it
    pub code_still : (P more_known h → ⊥) → new ≡ hs → AreListed P more_known new
    code_still fails same =
        subst Listed (sym (contents_more known i d lt))
        (subst (AreListed P (contents (take i known) ++ content (get_or known i d) ∷ [])) (sym same)
        (listed_still P g (contents (take i known)) (content (get_or known i d)) hs before
        (λ so. fails (subst (λ (ps : List Piece). P ps h) (sym (contents_more known i d lt))
        (subst (P (contents (take i known) ++ content (get_or known i d) ∷ [])) (sym is) so)))))
