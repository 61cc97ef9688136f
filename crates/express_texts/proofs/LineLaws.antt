-- The lines of a text are these exactly where it spells them so.
use Rattle.std.proofs.Common.{◌≡◌, ◌≢◌, ℕ, inl, inr, nat_eq, Bool, true, false, cond, List, [], ◌∷◌, ◌++◌, refl, sym, ◌∙◌, ap, subst}
use Rattle.std.proofs.lemmas.Bool.{eqb-true, eqb-false, ne_eqb}
use Rattle.express_texts.specs.Lines.{lines_of, onto_line, HasNoLf, AreLines}

nil_line : (lines : List (List ℕ)) (text : List ℕ) → AreLines lines text → AreLines ([] ∷ lines) (10 ∷ text)
nil_line [] text h = (tt, inl (ap (λ xs. 10 ∷ xs) h))
nil_line (next ∷ lines) text h = (tt, (text, refl, h))

onto_lines : (b : ℕ) (lines : List (List ℕ)) (text : List ℕ) → b ≢ 10 → AreLines lines text
    → AreLines (onto_line b lines) (b ∷ text)
onto_lines b [] text other h = ((other, tt), inr (ap (λ xs. b ∷ xs) h, λ e. cc))
onto_lines b (line ∷ []) text other (none, inl whole) = ((other, none), inl (ap (λ xs. b ∷ xs) whole))
onto_lines b (line ∷ []) text other (none, inr last) =
    ((other, none), inr (ap (λ xs. b ∷ xs) last.0, λ e. cc))
onto_lines b (line ∷ next ∷ lines) text other (none, (rest, is, h)) =
    ((other, none), (rest, ap (λ xs. b ∷ xs) is, h))

pub lines_found : (text : List ℕ) → AreLines (lines_of text) text
unfolding lines_of
lines_found [] = refl
lines_found (b ∷ text) = at_test (nat_eq b 10) refl (lines_found text)
  where
    at_test : (t : Bool) → nat_eq b 10 ≡ t → AreLines (lines_of text) text
        → AreLines (cond t ([] ∷ lines_of text) (onto_line b (lines_of text))) (b ∷ text)
    at_test true e h = subst (λ (x : ℕ). AreLines ([] ∷ lines_of text) (x ∷ text)) (sym (eqb-true b 10 e))
        (nil_line (lines_of text) text h)
    at_test false e h = onto_lines b (lines_of text) text (eqb-false b 10 e) h

line_then : (line rest : List ℕ) → HasNoLf line → lines_of (line ++ 10 ∷ rest) ≡ line ∷ lines_of rest
unfolding lines_of
line_then [] rest none = refl
line_then (b ∷ line) rest none =
    let other : nat_eq b 10 ≡ false = ne_eqb b 10 none.0 in rw (other, line_then line rest none.1) refl

line_last : (line : List ℕ) → HasNoLf line → line ≢ [] → lines_of line ≡ line ∷ []
unfolding lines_of
line_last [] none some = absurd (some refl)
line_last (b ∷ []) none some = let other : nat_eq b 10 ≡ false = ne_eqb b 10 none.0 in rw other refl
line_last (b ∷ c ∷ line) none some =
    let other : nat_eq b 10 ≡ false = ne_eqb b 10 none.0 in
    let rest = line_last (c ∷ line) none.1 (λ e. cc) in
    simp (other, rest)

pub lines_only : (lines : List (List ℕ)) (text : List ℕ) → AreLines lines text → lines_of text ≡ lines
unfolding lines_of
lines_only [] text h = rw h refl
lines_only (line ∷ []) text (none, inl whole) = rw whole (line_then line [] none)
lines_only (line ∷ []) text (none, inr last) = rw (last.0) (line_last line none last.1)
lines_only (line ∷ next ∷ lines) text (none, (rest, is, h)) =
    rw is (line_then line rest none ∙ ap (λ ls. line ∷ ls) (lines_only (next ∷ lines) rest h))
