-- The sums of numbers of the field, and the words of proofs, are numbers of the field again.
use Rattle.std.specs.Prelude.{◌≡◌, ℕ, ◌<◌, ◌^◌, List, [], ◌∷◌, length, All, slice_index, bit_xor, refl}
use Rattle.std.proofs.Common.{suc, ◌∙◌, ap, sym, subst, arith}
use Rattle.std.proofs.lemmas.Nat.{xor_lt}
use Rattle.std.proofs.lemmas.List.Elements.{All-nil, All-cons, All-head, All-tail}
use Rattle.tower_laws.specs.Gf.{gf, values}
use Rattle.tower_laws.specs.Polynomials.{plus_of, times_of}
use Rattle.tower_laws.specs.Through.{through}
use Rattle.express_words.specs.declared.audit.ProofShare.{ProofShare}
use Rattle.audit_rules.specs.Sketch as sketch
use Rattle.express_words.specs.Ranges.{IsProofShare}
use Rattle.audit_rules.specs.Ranges.{IsSums}
use Rattle.audit_rules.specs.Audit.{product, sums_of, whole_proof, zero_share, one_share, honest_f, honest_g}
use Rattle.audit_rules.proofs.Transfer.{E, z, add, mul, element, elements, values-elements, sums-values, times-values}
use Rattle.audit_rules.proofs.Words.{word_in_range}

pub sums-in_range : (w r s : List ℕ) → All (λ n. n < 2 ^ 128) w → All (λ n. n < 2 ^ 128) r → All (λ n. n < 2 ^ 128) s → IsSums (sums_of w r s)
sums-in_range w r s hw hr hs =
    let v = elements w hw in
    let p = elements r hr in
    let q = elements s hs in
    subst (λ w. IsSums (sums_of w r s)) (values-elements w hw)
    (subst (λ r. IsSums (sums_of (values v) r s)) (values-elements r hr)
    (subst (λ s. IsSums (sums_of (values v) (values p) s)) (values-elements s hs)
    (subst IsSums (sym (sums-values v p q))
    (record { x = (sketch.dot z add mul v p).in_range; y = (sketch.dot z add mul v q).in_range; m = (sketch.total z add v).in_range; z = (sketch.dot3 z add mul v p q).in_range }))))

pub values-in_range : (xs : List E) → All (λ n. n < 2 ^ 128) (values xs)
values-in_range [] = All-nil (λ n. n < 2 ^ 128)
values-in_range (x ∷ xs) = All-cons (λ n. n < 2 ^ 128) x.value (values xs) x.in_range (values-in_range xs)

pub plus-in_range : (p q : List ℕ) → All (λ n. n < 2 ^ 128) p → All (λ n. n < 2 ^ 128) q → All (λ n. n < 2 ^ 128) (plus_of bit_xor p q)
plus-in_range [] q hp hq = hq
plus-in_range (x ∷ p) [] hp hq = hp
plus-in_range (x ∷ p) (y ∷ q) hp hq =
    All-cons (λ n. n < 2 ^ 128) (bit_xor x y) (plus_of bit_xor p q)
    (xor_lt 128 x y (All-head (λ n. n < 2 ^ 128) x p hp) (All-head (λ n. n < 2 ^ 128) y q hq))
    (plus-in_range p q (All-tail (λ n. n < 2 ^ 128) x p hp) (All-tail (λ n. n < 2 ^ 128) y q hq))

pub length-plus : (p q : List ℕ) → length p ≡ length q → length (plus_of bit_xor p q) ≡ length q
length-plus [] q h = refl
length-plus (x ∷ p) [] h = h
length-plus (x ∷ p) (y ∷ q) h = ap suc (length-plus p q (omega arith))

pub whole-in_range : (zero one : ProofShare) → IsProofShare zero → IsProofShare one → IsProofShare (whole_proof zero one)
unfolding whole_proof
whole-in_range zero one p q = record {
  u = xor_lt 128 zero.u one.u p.u q.u;
  v = xor_lt 128 zero.v one.v p.v q.v;
  h = plus-in_range zero.h one.h p.h q.h;
  size = length-plus zero.h one.h (p.size ∙ sym q.size) ∙ q.size;
  a = xor_lt 128 zero.a one.a p.a q.a;
  b = xor_lt 128 zero.b one.b p.b q.b;
  c = xor_lt 128 zero.c one.c p.c q.c;
}

pub words_of_h : (words : List ℕ) → All (λ n. n < 2 ^ 128) words → All (λ n. n < 2 ^ 128) (zero_share words).h
unfolding zero_share
words_of_h words h =
    values-in_range
    (element (slice_index words 6) (word_in_range words h 6) ∷ (element (slice_index words 7) (word_in_range words h 7) ∷ (element (slice_index words 8) (word_in_range words h 8)
    ∷ (element (slice_index words 9) (word_in_range words h 9) ∷ (element (slice_index words 10) (word_in_range words h 10) ∷ [])))))

pub zero-in_range : (words : List ℕ) → All (λ n. n < 2 ^ 128) words → IsProofShare (zero_share words)
unfolding zero_share
zero-in_range words h = record {
  u = word_in_range words h 2;
  v = word_in_range words h 4;
  h = words_of_h words h;
  size = refl;
  a = word_in_range words h 11;
  b = word_in_range words h 13;
  c = word_in_range words h 15;
}

pub times-in_range : (f g : List E) → All (λ n. n < 2 ^ 128) (times_of 0 bit_xor product (values f) (values g))
times-in_range f g = subst (All (λ n. n < 2 ^ 128)) (sym (times-values f g)) (values-in_range (times_of z add mul f g))

-- the product of the polynomials f and g of a client's proof
pub honest_h-in_range : (m r s : ℕ) (words : List ℕ) → m < 2 ^ 128 → r < 2 ^ 128 → s < 2 ^ 128 → All (λ n. n < 2 ^ 128) words →
    All (λ n. n < 2 ^ 128) (times_of 0 bit_xor product (honest_f m r words) (honest_g m r s words))
honest_h-in_range m r s words hm hr hs h =
    let word : ℕ → E = λ k. element (slice_index words k) (word_in_range words h k) in
    let em = element m hm in
    let er = element r hr in
    let es = element s hs in
    let f = through add mul (gf 2) (add (word 2) (word 3)) (mul em er) em in
    let g = through add mul (gf 2) (add (word 4) (word 5)) (mul em es) (mul (mul em er) es) in
    times-in_range f g

pub one-in_range : (m r s : ℕ) (words : List ℕ) → m < 2 ^ 128 → r < 2 ^ 128 → s < 2 ^ 128 → All (λ n. n < 2 ^ 128) words → IsProofShare (one_share m r s words)
unfolding one_share zero_share
one-in_range m r s words hm hr hs h =
    let word : ℕ → E = λ k. element (slice_index words k) (word_in_range words h k) in
    record {
      u = word_in_range words h 3;
      v = word_in_range words h 5;
      h = plus-in_range (times_of 0 bit_xor product (honest_f m r words) (honest_g m r s words)) (zero_share words).h (honest_h-in_range m r s words hm hr hs h) (words_of_h words h);
      size = refl;
      a = word_in_range words h 12;
      b = word_in_range words h 14;
      c = (add (mul (add (word 11) (word 12)) (add (word 13) (word 14))) (word 15)).in_range;
    }
