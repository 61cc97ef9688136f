-- A line is a pair or a header exactly where it spells one.
use Rattle.std.proofs.Common.{◌≡◌, ℕ, List, [], ◌∷◌, ◌++◌, Some, codes, take, refl, sym, ◌∙◌, ap, subst, append_assoc}
use Rattle.std.proofs.lemmas.List.{append-nil}
use Rattle.express_words.specs.declared.audit.Closing.{Closing}
use Rattle.express_texts.specs.LineFields.{after, end, seed_of, word_at}
use Rattle.express_texts.proofs.FieldLaws.{bind_some, after_found, after_only, seed_found, seed_only, word_at_found, word_at_only}
use Rattle.express_texts.specs.Batch.{closing_at, pair_of, header_of}
use Rattle.express_texts.specs.Spelling.{SpellsClosing, SpellsPair, SpellsHeader}

-- a closing that was found in front: the text that spells it, and what follows
pub record Front (closing : Closing) (bytes rest : List ℕ) : Type 0 where
  pub text : List ℕ
  pub spelled : SpellsClosing closing text
  pub is : bytes ≡ text ++ rest

closing_found : (bytes : List ℕ) (found : Closing × List ℕ) → closing_at bytes ≡ Some found → Front found.0 bytes found.1
unfolding closing_at
closing_found bytes found h =
    let o = bind_some (word_at bytes) _ found h in
    let gap = bind_some (after (codes " ") o.0.1) _ found o.2 in
    let tau = bind_some (word_at gap.0) _ found gap.2 in
    let is : (record { o = o.0.0; tau = tau.0.0 }, tau.0.1) ≡ found = some_is _ _ tau.2 in
    let first = word_at_found bytes o.0 o.1 in
    let last = word_at_found gap.0 tau.0 tau.1 in
    let middle : o.0.1 ≡ codes " " ++ gap.0 = after_found (codes " ") o.0.1 gap.0 gap.1 in
    let d : List ℕ = take 32 bytes in
    let e : List ℕ = take 32 gap.0 in
    subst (λ (f : Closing × List ℕ). Front f.0 bytes f.1) is
    (record {
      text = d ++ (codes " " ++ e);
      spelled = record { o = d; tau = e; o_spelled = first.0; tau_spelled = last.0; text_is = refl };
      is = first.1 ∙ ap (λ (t : List ℕ). d ++ t) (middle ∙ ap (λ (t : List ℕ). codes " " ++ t) last.1) ∙ sym (append_assoc d (codes " " ++ e) tau.0.1);
    })
  where
    some_is : (x y : Closing × List ℕ) → Some x ≡ Some y → x ≡ y
    some_is x y h = cc

closing_only : (closing : Closing) (text rest : List ℕ) → SpellsClosing closing text → closing_at (text ++ rest) ≡ Some (closing, rest)
unfolding closing_at
closing_only closing text rest s =
    let apart : text ++ rest ≡ s.o ++ (codes " " ++ (s.tau ++ rest)) = ap (λ (t : List ℕ). t ++ rest) s.text_is ∙ append_assoc s.o (codes " " ++ s.tau) rest in
    rw (apart, word_at_only s.o (codes " " ++ (s.tau ++ rest)) closing.o s.o_spelled, after_only (codes " ") (s.tau ++ rest), word_at_only s.tau rest closing.tau s.tau_spelled) refl

pub end_is : (bytes : List ℕ) (u : Unit {0}) → end bytes ≡ Some u → bytes ≡ []
end_is [] u h = refl
end_is (b ∷ bytes) u h = cc

pub pair_found : (line : List ℕ) (pair : Closing × Closing) → pair_of line ≡ Some pair → SpellsPair pair.0 pair.1 line
unfolding pair_of
pair_found line pair h =
    let a = bind_some (after (codes "pair ") line) _ pair h in
    let zero = bind_some (closing_at a.0) _ pair a.2 in
    let gap = bind_some (after (codes " ") zero.0.1) _ pair zero.2 in
    let one = bind_some (closing_at gap.0) _ pair gap.2 in
    let stop = bind_some (end one.0.1) _ pair one.2 in
    let is : (zero.0.0, one.0.0) ≡ pair = some_is _ _ stop.2 in
    let front = closing_found a.0 zero.0 zero.1 in
    let back = closing_found gap.0 one.0 one.1 in
    let none : one.0.1 ≡ [] = end_is one.0.1 stop.0 stop.1 in
    let last : gap.0 ≡ back.text = back.is ∙ ap (λ (t : List ℕ). back.text ++ t) none ∙ append-nil back.text in
    let whole : line ≡ codes "pair " ++ (front.text ++ (codes " " ++ back.text)) =
    after_found (codes "pair ") line a.0 a.1
    ∙ ap (λ (t : List ℕ). codes "pair " ++ t) (front.is ∙ ap (λ (t : List ℕ). front.text ++ t) (after_found (codes " ") zero.0.1 gap.0 gap.1 ∙ ap (λ (t : List ℕ). codes " " ++ t) last)) in
    subst (λ (p : Closing × Closing). SpellsPair p.0 p.1 line) is
    (record { front = front.text; back = back.text; zero_spelled = front.spelled; one_spelled = back.spelled; line_is = whole })
  where
    some_is : (x y : Closing × Closing) → Some x ≡ Some y → x ≡ y
    some_is x y h = cc

pub pair_only : (zero one : Closing) (line : List ℕ) → SpellsPair zero one line → pair_of line ≡ Some (zero, one)
unfolding pair_of
pair_only zero one line s =
    let last : closing_at s.back ≡ Some (one, []) = ap closing_at (sym (append-nil s.back)) ∙ closing_only one s.back [] s.one_spelled in
    rw (
      s.line_is,
      after_only (codes "pair ") (s.front ++ (codes " " ++ s.back)),
      closing_only zero s.front (codes " " ++ s.back) s.zero_spelled,
      after_only (codes " ") s.back,
      last,
    ) refl

pub header_found : (line seed : List ℕ) → header_of line ≡ Some seed → SpellsHeader seed line
unfolding header_of
header_found line seed h =
    let a = bind_some (after (codes "batch 1 ") line) seed_of seed h in
    (a.0, seed_found a.0 seed a.2, after_found (codes "batch 1 ") line a.0 a.1)

pub header_only : (line seed : List ℕ) → SpellsHeader seed line → header_of line ≡ Some seed
unfolding header_of
header_only line seed h = rw (h.2, after_only (codes "batch 1 ") h.0) (seed_only h.0 seed h.1)
